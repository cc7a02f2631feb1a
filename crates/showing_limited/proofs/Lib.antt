-- The proofs on showing streams.
pub mod Rooms
pub mod Shows
