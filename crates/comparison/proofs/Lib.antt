-- The laws of the earlier functions for C.
pub mod Entries
