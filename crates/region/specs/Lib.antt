-- What the contracts on regions cite.
pub mod Region
pub mod Drawing
pub mod Inner
