-- The laws of the walks over the levels.
pub mod Walking
pub mod Entries
pub mod Accepted
