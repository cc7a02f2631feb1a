-- The laws of lifting.
pub mod Rows
pub mod Lifts
pub mod Stages
pub mod Walks
pub mod TwoSteps
