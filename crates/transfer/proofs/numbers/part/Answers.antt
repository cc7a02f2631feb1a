use mathlib.Core.Path.{◌≡◌, ap, ◌∙◌}
use mathlib.Core.List.{List}
use Prim.Native.Nat.{ℕ, ◌+◌, ◌*◌, ◌/◌, ◌<◌}
use native.Mathlib.Omega.{arith}
use lib.IntN.{ℤ, pos}
use lib.Signed.{mag}
use mir.Syntax.{w32}
use mir.Val.{to_z, of_z}
use mir.Facts.{to_z-of_z}
use borrow.Author.Rules.{sfits_of}
use lib.ListN.{length, get_or}
use Rattle.std.proofs.lemmas.List.{get_or_read}
use Rattle.line.specs.Cells.{low_side}
use Rattle.transfer.proofs.Twofold.{Writing, writing_none, writing_more, writing_all, writing_last}
use Rattle.transfer.proofs.numbers.part.Goals as goal

-- the number that a cell becomes
became : {A : Type 0} {C : A → ℤ → Type 0} {number : A → ℤ} (src : List A) {i : ℕ} {x : A} {z : ℤ} → ((x : A) (z : ℤ) → C x z → z ≡ number x) → (o : A)
    → x ≡ get_or src i x → C x z → mag z < 2147483648 → i < length src → to_z w32 (of_z w32 z) ≡ number (get_or src i o)
became {number = number} src {i} {x} {z} law o e g small h = to_z-of_z {w = w32} (sfits_of (omega (arith, small))) ∙ law x z g ∙ ap number (get_or_read src i x h e o)

pub loop-k-init : goal.loop-k-init
loop-k-init g c = λ number law o. writing_none c.requires.places

pub loop-k-preserved : goal.loop-k-preserved
loop-k-preserved g c = λ number law o.
    writing_more (c.loop-k.invariant number law o) (omega arith) (omega arith)
    (became c.args.src.now law o c.index-src-from.is c.into.ensures c.into.type_inv (omega (arith, c.requires.w_in_bounds)))
    (became c.args.src.now law o c.index-src-from-in-loop-k.is c.into-in-loop-k.ensures c.into-in-loop-k.type_inv (omega (arith, c.requires.w_in_bounds)))

pub returns-then-w-eq1 : goal.returns-then-w-eq1
returns-then-w-eq1 g c = λ number law o.
    let a = c.args in let l = c.loop-k in let e : l.k ≡ a.w / 2 = omega arith in
    let at_end : Writing (pos 0) (λ i. number (get_or a.src.now (a.from + 2 * i) o)) (λ i. number (get_or a.src.now (a.from + 2 * i + 1) o)) (λ i. a.a + i) (λ i. a.b + i) (low_side a.w) (a.w / 2) a.dst.now l.dst (a.w / 2) = rw e at (c.loop-k.invariant number law o) in
    writing_last at_end (omega arith) (omega arith) (omega arith) (became c.args.src.now law o c.index-src-from-then-w-eq1.is c.into-then-w-eq1.ensures c.into-then-w-eq1.type_inv (omega (arith, c.requires.w_in_bounds)))

pub returns-else-w-eq1 : goal.returns-else-w-eq1
returns-else-w-eq1 g c = λ number law o. writing_all (c.loop-k.invariant number law o) (omega arith) (omega arith)
