-- The theorem of the worked examples.
pub mod Worked
