-- What the contracts on the earlier passes cite.
pub mod Moved
pub mod Written
pub mod Runs
pub mod Strip
pub mod Lifting
pub mod Lines
pub mod Copied
pub mod Passes
pub mod Level
