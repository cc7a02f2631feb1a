-- What the contracts on lifting cite.
pub mod Parts
pub mod Steps
pub mod Lines
pub mod Stages
