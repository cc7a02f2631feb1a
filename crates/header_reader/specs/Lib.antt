-- What the contracts on the reading of headers cite.
pub mod Answers
pub mod Inner
