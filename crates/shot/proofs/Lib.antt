-- The laws that the proofs on shots cite.
pub mod Settings
pub mod Masks
