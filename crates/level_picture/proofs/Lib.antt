-- The laws of the picture at a level.
pub mod Areas
