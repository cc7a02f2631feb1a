-- What a stream shows, and what demands 2 and 3 say.
pub mod Shown
pub mod Demands
