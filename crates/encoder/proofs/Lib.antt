-- The laws that the proofs of the writer cite.
pub mod Outcomes
pub mod Streams
