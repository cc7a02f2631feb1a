-- What the contracts of the writer cite.
pub mod Written
pub mod Passes
