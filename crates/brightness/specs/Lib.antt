-- What the contract of brightness cites, and what its theorem says.
pub mod Brightness
pub mod Answers
pub mod Inner
pub mod Laws
