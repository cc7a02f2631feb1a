-- The laws of the writer.
pub mod Digits
pub mod Bits
pub mod Codes
pub mod Passes
pub mod Runs
pub mod Body
