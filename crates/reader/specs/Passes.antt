-- A pass as the code hands it on: a body, a mask, a class, and which bit plane.
--
--   pass_of s           == the pass, as a body has it
--   Prepared s l i p    == what a reading of the pass into the plane l needs, from coefficient i and place p on
--   Goes s l q i l' q' j == whatever was read before, the coefficients from i to j are read next: l and q become l' and q'
--
-- Assumes nothing: these are definitions.
use Rattle.std.specs.Prelude.{List, ℕ, ℤ}
use Rattle.bitplane.specs.Body.{Pass as Bits, class, one_plane}
use Rattle.reader.specs.declared.Pass.{Pass}
use Rattle.reader.specs.Reads.{PartReady, Continues}

abbrev pub pass_of : Pass → Bits
pass_of s = one_plane (class s.mask.now s.class) s.t

abbrev pub Prepared : Pass → List ℤ → ℕ → ℕ → Type 0
Prepared s l i p = PartReady s.body.now l s.mask.now s.class s.t i p

abbrev pub Goes : Pass → List ℤ → ℕ → ℕ → List ℤ → ℕ → ℕ → Type 0
Goes s l q i l' q' j = Continues s.body.now (pass_of s) l q i l' q' j
