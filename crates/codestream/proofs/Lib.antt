-- The theorems on codestreams.
pub mod Accepted
pub mod Lengths
pub mod Headers
pub mod Parts
pub mod Bodies
pub mod RoundTrip
pub mod Buffer
pub mod Planes
pub mod Cuts
pub mod Arrivals
