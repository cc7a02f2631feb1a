-- The laws of the earlier passes.
pub mod Quotients
pub mod Wide
pub mod Writes
pub mod Moves
pub mod Pairs
pub mod Strips
pub mod Lifts
pub mod Transforms
pub mod Copies
pub mod Transfers
pub mod Places
pub mod Taking
pub mod Running
pub mod Levels
