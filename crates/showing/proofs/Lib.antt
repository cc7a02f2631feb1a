-- The laws of showing a stream.
pub mod Fronts
pub mod Shows
