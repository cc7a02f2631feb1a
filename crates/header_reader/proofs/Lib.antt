-- The laws that the proofs of the reading of headers cite.
pub mod Arrays
pub mod Tests
pub mod Answered
