-- What the contracts of showing and truncation cite.
pub mod Samples
pub mod Accepted
