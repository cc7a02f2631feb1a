-- What the contracts on passes cite.
pub mod Passes
pub mod Pairs
pub mod Levels
