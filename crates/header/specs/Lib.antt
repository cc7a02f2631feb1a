-- What the contracts on headers cite.
pub mod Header
pub mod Fields
pub mod Writing
pub mod Arrival
pub mod Answers
