-- What the contracts on masks of pictures cite.
pub mod Masks
pub mod Areas
