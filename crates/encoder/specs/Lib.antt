-- What the contracts of the writer of codestreams cite.
pub mod Answers
pub mod Inner
