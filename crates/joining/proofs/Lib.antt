-- The laws of joining.
pub mod Bytes
pub mod Rectangles
pub mod Laws
