-- What the contracts on shots cite.
pub mod Shots
pub mod Inner
