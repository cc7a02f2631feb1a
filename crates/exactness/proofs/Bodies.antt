-- A body whose marked part is whole, cut to its first k bytes, of which the marked part takes no more: the marked coefficients are those of the
-- uncut body, and what is left is well filled.
--
--   Kept a a' b k on == a' is the answer of the first k bytes of b, a that of b; on are the unmarked coefficients
--
-- Assumes nothing.
use mathlib.Core.Path.{◌≡◌, sym, ap, ap₂, ◌∙◌}
use mathlib.Core.Bool.{Bool, true, false, not}
use mathlib.Core.List.{List}
use Prim.Native.Nat.{ℕ, ◌+◌, ◌*◌, ◌-◌, ◌<◌, ◌≤◌}
use native.Mathlib.Omega.{arith}
use lib.Dec.{ltb, leb, eqb}
use lib.ListN.{length, take, length-take}
use lib.Seq.{take_all}
use borrow.Author.Tests.{ltb-false, le-leb, lt-leb}
use Rattle.line.specs.Mask.{any_below}
use Rattle.line.proofs.Cells.{by_lt}
use Rattle.bitplane.specs.Bits.{bit_at, bytes}
use Rattle.bitplane.specs.Body.{Order, planes}
use Rattle.bitplane.specs.Reader.{received, Reading, read, start, bad_filling, Answer, answer}
use Rattle.bitplane.proofs.Empty.{read_other}
use Rattle.bitplane.proofs.Cut.{AllUpto, planes_upto, read_whole, read_within, front_of}
use Rattle.refusal.proofs.Passed.{neither}

pub record Kept (a a' : Answer) (b : List ℕ) (k : ℕ) (on : ℕ → Bool) : Type 0 where
  pub whole : a'.whole ≡ true
  pub region_mark : a'.region_mark ≡ a.region_mark
  pub value : (i : ℕ) → on i ≡ false → a'.value i ≡ a.value i
  pub filled : bad_filling b a.end ≡ false → bad_filling (take k b) a'.end ≡ false

-- a complete body that is well filled has no byte behind it
none_behind : (b : List ℕ) (p : ℕ) → p ≤ 8 * length b → bad_filling b p ≡ false → length b ≤ bytes p
unfolding bad_filling
none_behind b p h e =
    let any = any_below (8 * length b - p) (λ k. not (eqb (bit_at b (p + k)) 0)) in
    ltb-false (bytes p) (length b) (neither (ltb (bytes p) (length b)) any (rw (le-leb p (8 * length b) h) at e)).0

cut_filling : (b : List ℕ) (p : ℕ) → 8 * length b < p → bad_filling b p ≡ false
unfolding bad_filling
cut_filling b p h = rw (lt-leb p (8 * length b) h)

module _ (F n T : ℕ) (b : List ℕ) (k : ℕ) (xs : Order) (on : ℕ → Bool) (xs-upto : AllUpto n xs) (on-upto : (i : ℕ) → n ≤ i → on i ≡ false)
    (fits : k ≤ length b) (whole : (answer F (received b) n xs (planes on T)).whole ≡ true) (mark : (answer F (received b) n xs (planes on T)).region_mark ≤ F + k) where
  abbrev ys : Order
  ys = planes on T

  -- the reading of the marked part, of the uncut body and of the cut one
  abbrev r : Reading
  r = read (received b) n xs start

  abbrev r' : Reading
  r' = read (received (take k b)) n xs start

  size_cut : length (take k b) ≡ k
  size_cut = length-take k b ∙ omega arith

  mark_is : (answer F (received b) n xs ys).region_mark ≡ F + bytes r.at
  mark_is = rw whole

  ends : r.at ≤ 8 * length (take k b)
  ends = omega (arith, mark_is, size_cut)

  marked_same : r ≡ r'
  marked_same = read_within (front_of k b) n xs start xs-upto ends

  whole_cut : leb r'.at (8 * length (take k b)) ≡ true
  whole_cut = rw (← marked_same) (le-leb r.at (8 * length (take k b)) ends)

  -- a complete cut body ends where the uncut one does
  end_same : (read (received (take k b)) n ys r').at ≤ 8 * length (take k b) → read (received b) n ys r ≡ read (received (take k b)) n ys r'
  end_same h = ap (read (received b) n ys) marked_same ∙ read_whole (front_of k b) n ys r' (planes_upto n on T on-upto) h

  filled_cut : bad_filling b (read (received b) n ys r).at ≡ false → bad_filling (take k b) (read (received (take k b)) n ys r').at ≡ false
  filled_cut e =
      let p' = (read (received (take k b)) n ys r').at in
      by_lt (8 * length (take k b)) p'
      (λ lt. cut_filling (take k b) p' lt)
      (λ ge. let same = ap (λ (q : Reading). q.at) (end_same ge) in
      let all : take k b ≡ b = take_all k b (omega (arith, size_cut, none_behind b (read (received b) n ys r).at (omega (arith, size_cut)) e)) in
      ap₂ bad_filling all (sym same) ∙ e)

  pub kept : Kept (answer F (received b) n xs ys) (answer F (received (take k b)) n xs ys) b k on
  kept = record {
    whole = whole_cut;
    region_mark = rw (whole_cut, ← marked_same) (sym mark_is);
    value = λ i off. read_other (received (take k b)) n on T r' i off ∙ ap (λ (q : Reading). q.value i) (sym marked_same) ∙ sym (read_other (received b) n on T r i off);
    filled = filled_cut;
  }
