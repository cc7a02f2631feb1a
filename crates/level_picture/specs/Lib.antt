-- What the contracts on showing at a level cite.
pub mod Level
pub mod Inner
