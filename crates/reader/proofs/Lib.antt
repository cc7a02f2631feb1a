-- The laws of the reader.
pub mod Passes
pub mod Blocks
pub mod Planes
pub mod Lists
pub mod Bodies
pub mod Filling
