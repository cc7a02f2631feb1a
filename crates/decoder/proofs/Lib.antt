-- The laws that the proofs of the reader of codestreams cite.
pub mod Bodies
pub mod Tests
pub mod Answered
