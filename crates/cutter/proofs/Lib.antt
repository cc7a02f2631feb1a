-- The laws that the proofs of the cutter cite.
pub mod Buffers
pub mod Answered
