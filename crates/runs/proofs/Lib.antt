-- The laws of runs of numbers.
pub mod Writes
pub mod Moves
pub mod Pairs
