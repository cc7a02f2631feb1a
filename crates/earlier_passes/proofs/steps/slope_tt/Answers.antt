-- `steps::slope_tt` is its formula: 22 · (before − after) + 3 · (after2 − before2) − 32 is the formula's sum. Assumes nothing.
use mathlib.Core.Path.{◌≡◌, ◌∙◌}
use native.Mathlib.Omega.{arith}
use borrow.Author.Rules.{sfits_of}
use lib.IntN.{ℤ, pos, ◌+ℤ◌, ◌-ℤ◌, ◌*ℤ◌}
use mir.Facts.{to_z-of_z}
use mir.Syntax.{w64}
use Rattle.whole.specs.Floor.{floor_div}
use Rattle.whole.proofs.Linear.{ι_split, lin, size}
use Rattle.whole.proofs.Floored.{whole}
use Rattle.whole.proofs.Run.{wide, lit, ◌⊕◌, ◌⊖◌, ◌⊛◌, Run, l, asks}
use Rattle.line.specs.Formulas.{slope_tt}
use Rattle.earlier_passes.proofs.Wide.{floored}
use Rattle.earlier_passes.proofs.steps.slope_tt.Goals as goal

regroup : (p q s t : ℤ) → floor_div (pos 22 *ℤ (q -ℤ s) +ℤ pos 3 *ℤ (t -ℤ p) -ℤ pos 32) 64 ≡ slope_tt p q s t
regroup p q s t = rw (ι_split p, ι_split q, ι_split s, ι_split t) (simp whole (omega arith))

pub overflow_add-near : goal.overflow_add-near
overflow_add-near c = let run : Run w64 (lit 22 ⊛ (wide c.args.before ⊖ wide c.args.after) ⊕ lit 3 ⊛ (wide c.args.after2 ⊖ wide c.args.before2) ⊖ lit 32) = let p = c.args.before2 in let q = c.args.before in let s = c.args.after in let t = c.args.after2 in
    record { fit = rw (ι_split p, ι_split q, ι_split s, ι_split t) (simp lin (omega (arith, size p, size q, size s, size t))) } in
    asks (l run)

pub overflow_sub-near-2 : goal.overflow_sub-near-2
overflow_sub-near-2 c = let run : Run w64 (lit 22 ⊛ (wide c.args.before ⊖ wide c.args.after) ⊕ lit 3 ⊛ (wide c.args.after2 ⊖ wide c.args.before2) ⊖ lit 32) = let p = c.args.before2 in let q = c.args.before in let s = c.args.after in let t = c.args.after2 in
    record { fit = rw (ι_split p, ι_split q, ι_split s, ι_split t) (simp lin (omega (arith, size p, size q, size s, size t))) } in
    asks run

pub returns : goal.returns
returns c = let run : Run w64 (lit 22 ⊛ (wide c.args.before ⊖ wide c.args.after) ⊕ lit 3 ⊛ (wide c.args.after2 ⊖ wide c.args.before2) ⊖ lit 32) = let p = c.args.before2 in let q = c.args.before in let s = c.args.after in let t = c.args.after2 in
    record { fit = rw (ι_split p, ι_split q, ι_split s, ι_split t) (simp lin (omega (arith, size p, size q, size s, size t))) } in
    to_z-of_z {w = w64} (sfits_of c.floor64.type_inv) ∙ floored 64 run c.floor64.ensures ∙ regroup c.args.before2 c.args.before c.args.after c.args.after2
