-- The lifting steps: the step of kernel 1, that of kernel 2, and the two of kernel 3, for its highs and for its lows.
--
-- Assumes nothing: this is a definition.
pub data Step : Type 0 where
  SPlusP : Step
  TT : Step
  High : Step
  Low : Step
