-- The laws that the proofs of the C interface cite.
pub mod Giving
pub mod Values
