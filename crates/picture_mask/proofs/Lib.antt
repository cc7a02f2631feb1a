-- The laws of line masks on bytes, of the passes and levels that walk them, and of the entry.
pub mod Local
pub mod Taking
pub mod Running
pub mod Walks
pub mod Entry
