-- The laws of headers.
pub mod Numbers
pub mod Parts
pub mod Fields
pub mod Writing
pub mod Arrivals
