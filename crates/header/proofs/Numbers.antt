-- Numbers of several bytes from those of fewer. Assumes nothing.
use mathlib.Core.Path.{◌≡◌}
use mathlib.Core.List.{List}
use Prim.Native.Nat.{ℕ, ◌+◌, ◌*◌}
use native.Mathlib.Omega.{arith}
use lib.ListN.{get_or}
use Rattle.header.specs.Header.{number}

module _ (l : List ℕ) (at : ℕ) where
  pub one_is : number 1 l at ≡ get_or l at 0
  unfolding number
  one_is = let e : at + 0 ≡ at = omega arith in rw e (omega arith)

  pub two_is : number 2 l at ≡ number 1 l at * 256 + number 1 l (at + 1)
  unfolding number
  two_is = let d : at + 1 + 0 ≡ at + 1 = omega arith in rw d (omega arith)

  pub four_is : number 4 l at ≡ number 2 l at * 65536 + number 2 l (at + 2)
  unfolding number
  four_is = let d : at + 2 + 0 ≡ at + 2 = omega arith in let e : at + 2 + 1 ≡ at + 3 = omega arith in rw (d, e) (omega arith)
