-- Counts that a scan makes: what only inner contracts and proofs cite.
--
--   sign_count l == how many coefficients are not 0: each has a sign bit
--   mark_count l == how many bytes of a mask are marks
--
-- Assumes nothing: these are definitions.
use Rattle.std.specs.Prelude.{List, ℕ, ltb, ℤ, nat_abs, length}
use Rattle.line.specs.Cells.{count, cell}
use Rattle.bitplane.specs.Body.{class}

unfoldable pub sign_count : List ℤ → ℕ
sign_count l = count (length l) (λ i. ltb 0 (nat_abs (cell l i)))

unfoldable pub mark_count : List ℕ → ℕ
mark_count l = count (length l) (class l 1)
