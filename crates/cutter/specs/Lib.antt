-- What the contracts of the cutter cite.
pub mod Answers
pub mod Inner
