-- What the contracts of the writer and the reader of codestreams cite.
pub mod Stream
pub mod Writing
pub mod Reading
pub mod Cutting
