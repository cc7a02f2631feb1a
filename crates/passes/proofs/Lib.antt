-- The laws of passes.
pub mod Places
pub mod Forms
pub mod Taking
pub mod Running
pub mod Placing
pub mod Pairs
pub mod PairPlaces
pub mod Level
pub mod Swept
pub mod Rising
pub mod Rolling
pub mod Turns
