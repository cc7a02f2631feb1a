-- The laws of the members of a class.
pub mod Index
pub mod Collection
pub mod Parts
