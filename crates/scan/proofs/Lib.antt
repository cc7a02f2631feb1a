-- The laws of scans.
pub mod Running
pub mod Largest
pub mod PlaneCounts
pub mod BodyLengths
