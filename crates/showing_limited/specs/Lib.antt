-- What the contracts on showing streams cite.
pub mod Showing
pub mod Inner
