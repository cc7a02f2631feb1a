-- What the contract of joining cites, and what its theorem says.
pub mod Join
pub mod Marks
pub mod Laws
