-- What the contracts on the earlier functions for C cite.
pub mod Earlier
