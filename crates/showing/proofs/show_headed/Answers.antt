-- `showing::show_headed` reads a stream whose header is taken, and shows it. Assumes nothing.
use mathlib.Core.Path.{refl, sym, ap, ◌∙◌}
use Prim.Native.Nat.{ℕ}
use native.Mathlib.Omega.{arith}
use lib.Dec.{eqb}
use lib.ListN.{length}
use borrow.Author.Rules.{rules}
use Rattle.refusal.specs.declared.Refusal.TheVariants.{Length}
use Rattle.decoder.proofs.Answered.{refused_answer, sides}
use Rattle.showing.proofs.Shows.{few, other_area, good_first, lent, below, numbers_at, samples_at, done_first, refused_first, plane_is, shown_refused, shown_done, shown_as}
use Rattle.showing.proofs.show_headed.Goals as goal

pub bad_area-requires : goal.bad_area-requires
bad_area-requires c = let t = c.requires.taken in let z = sides c.args.stream.now t in (omega (arith, few t, c.requires.r_le_levels), z.width.1, z.height.1)

pub returns-in_err-refuse : goal.returns-in_err-refuse
returns-in_err-refuse c = let z = c.args in
    let e = other_area c.requires.taken z.r (length z.plane.now) (length z.mask.now) (length z.undone.now) (length z.shown.now) (sym c.bad_area.ensures ∙ c.in_err-refuse.ensures.0) in
    let a = shown_refused (refused_answer {l = z.stream.now} {plane = z.plane.now} {mask = z.mask.now} Length refl e) {r = z.r} {undone = z.undone.now} {shown = z.shown.now} (ap (λ (f : ℕ). eqb f 0) (sym e)) in
    search rules

pub show_area-requires : goal.show_area-requires
show_area-requires c = let z = c.args in let N = length z.plane.now in let M = length z.mask.now in let U = length z.undone.now in let S = length z.shown.now in
    let good = sym c.bad_area.ensures ∙ c.in_ok-refuse.ensures in
    let t = c.requires.taken in let x = c.read_headed.ensures in let e = done_first x _ c.in_ok-reading.was in
    record { lent = lent t N M z.r U S e c.requires.r_le_levels good (plane_is x e); below = below t N M z.r U S e c.requires.r_le_levels good (plane_is x e) }

pub returns-in_err-reading : goal.returns-in_err-reading
returns-in_err-reading c = let z = c.args in
    let same = good_first c.requires.taken z.r (length z.plane.now) (length z.mask.now) (length z.undone.now) (length z.shown.now) (sym c.bad_area.ensures ∙ c.in_ok-refuse.ensures) in
    let x = c.read_headed.ensures in
    let a = shown_as same (shown_refused x {r = z.r} {undone = z.undone.now} {shown = z.shown.now} (refused_first x _ c.in_err-reading.was)) in search rules

pub returns : goal.returns
returns c = let z = c.args in
    let same = good_first c.requires.taken z.r (length z.plane.now) (length z.mask.now) (length z.undone.now) (length z.shown.now) (sym c.bad_area.ensures ∙ c.in_ok-refuse.ensures) in
    let t = c.requires.taken in let x = c.read_headed.ensures in let e = done_first x _ c.in_ok-reading.was in
    let a = shown_as same (shown_done x e (numbers_at t z.r (plane_is x e) c.show_area.ensures.fact) (samples_at t z.r (plane_is x e) c.show_area.ensures.fact_2)) in search rules
