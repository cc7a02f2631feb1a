-- What the contracts on scans cite.
pub mod Scan
pub mod Inner
