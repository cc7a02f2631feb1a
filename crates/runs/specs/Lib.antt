-- What the contracts on runs of numbers cite.
pub mod Cells
pub mod Pair
pub mod Step
pub mod Steps
