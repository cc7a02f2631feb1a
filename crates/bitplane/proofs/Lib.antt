-- The theorems on bodies.
pub mod Classes
pub mod Passes
pub mod Back
pub mod Past
pub mod Empty
pub mod Small
pub mod Lengths
pub mod Bytes
pub mod Filling
pub mod Round
pub mod Cut
