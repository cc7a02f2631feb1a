-- The loops of brightness, what it answers, and its laws.
pub mod Rows
pub mod Laws
