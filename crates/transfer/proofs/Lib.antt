-- The laws of copies and strips.
pub mod Copies
pub mod Strips
pub mod Twofold
pub mod Parting
