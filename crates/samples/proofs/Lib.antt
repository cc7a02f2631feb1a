-- The laws of single samples.
pub mod Planes
pub mod Truncation
