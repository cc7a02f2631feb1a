-- What the contracts of the C interface cite.
pub mod Results
pub mod Inner
