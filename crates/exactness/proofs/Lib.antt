-- The theorems on cut streams, and the proofs of demands 2 and 3.
pub mod Bodies
pub mod Levels
pub mod Regions
pub mod Cuts
pub mod Streams
pub mod Brightness
pub mod Written
pub mod Captured
pub mod Demands
