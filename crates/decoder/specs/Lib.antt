-- What the contracts of the reader of codestreams cite.
pub mod Answers
pub mod Inner
