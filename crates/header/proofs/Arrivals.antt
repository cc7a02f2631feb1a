-- What `arrived` leaves where the call broke off. Assumes nothing.
use mathlib.Core.Path.{◌≡◌, refl, sym, ap, ◌∙◌}
use mathlib.Core.Bool.{false}
use mathlib.Core.List.{List, ◌++◌}
use Prim.Native.Nat.{ℕ, ◌-◌, ◌<◌}
use native.Mathlib.Omega.{arith}
use lib.ListN.{length, drop}
use lib.Seq.{take_all}
use borrow.Author.Tests.{lt-ltb}
use Rattle.refusal.specs.Numbers.{first}
use Rattle.header.specs.Fields.{bytes_of}
use Rattle.header.specs.Writing.{Laid}
use Rattle.header.specs.Arrival.{cut_to, sent_length, bad_arrival, arrived_of}
use Rattle.header.proofs.Fields.{bytes_length}
use Rattle.header.proofs.Parts.{arrival_long}
use Rattle.header.proofs.Writing.{laid_front}

module _ (l : List ℕ) where
  -- the stream cut to all of it: its length field set
  pub whole_cut : cut_to l (length l) ≡ bytes_of 4 (length l - 4) ++ drop 4 l
  whole_cut = ap (λ (k : List ℕ). bytes_of 4 (length l - 4) ++ drop 4 k) (take_all (length l) l (omega arith))

  pub mended : {m : List ℕ} → bad_arrival l ≡ false → length l < sent_length l → Laid 0 (bytes_of 4 (length l - 4)) l m → m ≡ arrived_of l
  unfolding first
  mended {m} good h f =
      let e = laid_front (bytes_of 4 (length l - 4)) l 4 (bytes_length 4 (length l - 4)) (omega (arith, arrival_long l good)) f in
      e ∙ sym whole_cut ∙ rw (good, lt-ltb (length l) (sent_length l) h) refl
