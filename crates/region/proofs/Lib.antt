-- The laws of drawing rectangles.
pub mod Boxes
pub mod Chunks
pub mod Painted
pub mod Placed
