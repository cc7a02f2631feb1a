-- What the contracts on showing streams cite.
pub mod Inner
