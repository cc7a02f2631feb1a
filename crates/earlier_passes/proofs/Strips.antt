-- The laws of strips: rows that are written, and lines of a strip. Assumes nothing.
use mathlib.Core.Path.{◌≡◌, refl, ap, ◌∙◌}
use mathlib.Core.List.{List}
use Prim.Native.Nat.{ℕ, zero, suc, ◌+◌, ◌*◌, ◌-◌, ◌/◌, ◌%◌, ◌<◌, ◌≤◌}
use native.Mathlib.Nat.{mul-le-mul_right, add-mul, div-add-mod', mod-lt, div-lt_iff_lt-mul}
use native.Mathlib.Omega.{arith}
use lib.Arith.{digits_lt}
use lib.IntN.{ℤ}
use lib.ListN.{length}
use Rattle.whole.specs.Within.{Within}
use Rattle.line.specs.Cells.{cell}
use Rattle.line.specs.Inner.{AllWithin}
use Rattle.line.proofs.Cells.{by_lt}
use Rattle.earlier_passes.specs.Written.{Written}
use Rattle.earlier_passes.specs.Strip.{lane, Small, Strips, Rows}

-- ---- places: q + i rows on, and the same in one sum
pub rows_on : (c q i j : ℕ) → (q + i) * c + j ≡ q * c + (i * c + j)
rows_on c q i j = rw (add-mul q i c) (omega arith)

pub factor_pos : (r c : ℕ) → 0 < r * c → 0 < c
factor_pos r zero h = absurd (omega arith)
factor_pos r (suc c) h = omega arith

-- ---- rows that are written
module _ {F : ℕ → ℕ → ℤ} (c : ℕ) where
  pub rows_none : (a : ℕ) (l : List ℤ) → Rows F c a a l l
  rows_none a l = record { size = refl; on = λ n j p q h. absurd (omega arith); below = λ i h. refl; above = λ i h. refl }

  -- r rows from row n on, as one run
  pub rows_run : {g : ℕ → ℤ} {l l' : List ℤ} (n r : ℕ) → Written g (n * c) (r * c) l l'
      → ((i j : ℕ) → i < r → j < c → g (i * c + j) ≡ F (n + i) j) → Rows F c n (n + r) l l'
  rows_run {g} {l} {l'} n r w e = record {
    size = w.size;
    on = λ m j p q h.
        let i = m - n in let d : n + i ≡ m = omega arith in
        let t : cell l' ((n + i) * c + j) ≡ F (n + i) j = ap (cell l') (rows_on c n i j) ∙ w.on (i * c + j) (digits_lt (omega arith) h) ∙ e i j (omega arith) h in
        rw d at t;
    below = w.below;
    above = λ i h. w.above i (rw (add-mul n r c) at h);
  }

  -- all m rows, as one run
  pub rows_whole : {g : ℕ → ℤ} {l l' : List ℤ} (m : ℕ) → Written g 0 (m * c) l l' → ((n j : ℕ) → n < m → j < c → g (n * c + j) ≡ F n j) → Rows F c 0 m l l'
  rows_whole {g} {l} {l'} m w e = record {
    size = w.size;
    on = λ n j p q h.
        let t : cell l' (0 + (n * c + j)) ≡ F n j = w.on (n * c + j) (digits_lt q h) ∙ e n j q h in
        ap (cell l') (omega arith) ∙ t;
    below = λ i h. absurd (omega arith);
    above = λ i h. w.above i (omega arith);
  }

  -- rows a up to b, and then b up to d
  pub rows_join : {G : ℕ → ℕ → ℤ} {l l' l'' : List ℤ} (a b d : ℕ) → a ≤ b → b ≤ d → Rows F c a b l l' → Rows G c b d l' l''
      → ((n j : ℕ) → b ≤ n → n < d → j < c → G n j ≡ F n j) → Rows F c a d l l''
  rows_join a b d ab bd f g e = record {
    size = g.size ∙ f.size;
    on = λ n j p q h. by_lt n b
        (λ lt. g.below (n * c + j) (digits_lt lt h) ∙ f.on n j p lt h)
        (λ ge. g.on n j ge q h ∙ e n j ge q h);
    below = λ i h. let le : a * c ≤ b * c = mul-le-mul_right c ab in g.below i (omega arith) ∙ f.below i h;
    above = λ i h. let le : b * c ≤ d * c = mul-le-mul_right c bd in g.above i h ∙ f.above i (omega arith);
  }

  pub rows_as : {G : ℕ → ℕ → ℤ} {l l' : List ℤ} (a b : ℕ) → Rows G c a b l l' → ((n j : ℕ) → a ≤ n → n < b → j < c → G n j ≡ F n j) → Rows F c a b l l'
  rows_as a b g e = record { size = g.size; on = λ n j p q h. g.on n j p q h ∙ e n j p q h; below = g.below; above = g.above }

-- all m rows written, and written again
pub rows_over : {F G : ℕ → ℕ → ℤ} {l l' l'' : List ℤ} (c m : ℕ) → Rows F c 0 m l l' → Rows G c 0 m l' l'' → Rows G c 0 m l l''
rows_over c m f g = record { size = g.size ∙ f.size; on = g.on; below = λ i h. absurd (omega arith); above = λ i h. g.above i h ∙ f.above i h }

-- a row past those that are written is as it was
pub rows_old : {F : ℕ → ℕ → ℤ} {l l' : List ℤ} (c a b : ℕ) → Rows F c a b l l' → (n j : ℕ) → b ≤ n → lane c l' j n ≡ lane c l j n
rows_old c a b f n j h = f.above (n * c + j) (let le : b * c ≤ n * c = mul-le-mul_right c h in omega arith)

-- ---- two strips, the other way round, and two as long
pub strips_swap : {M c : ℕ} {e o : List ℤ} → Strips M c e o → Strips M c o e
strips_swap g = record { some = g.some; few = g.few; small = g.small; evens = g.odds; odds = g.evens }

pub strips_as : {M c : ℕ} {e o e' o' : List ℤ} → Strips M c e o → length e' ≡ length e → length o' ≡ length o → Strips M c e' o'
strips_as g p q = record { some = g.some; few = g.few; small = g.small; evens = rw p g.evens; odds = rw q g.odds }

-- ---- bounds
pub record Lanes (r m c : ℕ) (l : List ℤ) : Type 0 where
  pub each : (j : ℕ) → j < c → AllWithin r m (lane c l j)

pub small_lanes : {r m c : ℕ} {l : List ℤ} → Small r (m * c) l → Lanes r m c l
small_lanes s = record { each = λ j h n p. s.each _ (digits_lt p h) }

pub rows_lanes : {F : ℕ → ℕ → ℤ} {l l' : List ℤ} (r m c : ℕ) → Rows F c 0 m l l' → ((n j : ℕ) → n < m → j < c → Within r (F n j)) → Lanes r m c l'
rows_lanes r m c f all = record { each = λ j h n p. rw (f.on n j (omega arith) p h) (all n j p h) }

pub lanes_cell : {r m c : ℕ} {l : List ℤ} → Lanes r m c l → (k : ℕ) → k < m * c → Within r (cell l k)
lanes_cell {r} {m} {c} {l} all k h =
    let some : 0 < c = factor_pos m c (omega arith) in
    let t : Within r (cell l (k / c * c + k % c)) = all.each (k % c) (mod-lt k some) (k / c) ((div-lt_iff_lt-mul some).1 h) in
    rw (div-add-mod' k c) at t
