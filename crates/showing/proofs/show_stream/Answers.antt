-- `showing::show_stream` shows a stream at a level, or refuses. Assumes nothing.
use mathlib.Core.Path.{refl, sym, ap, subst, ◌∙◌}
use Prim.Native.Nat.{ℕ, ◌≤◌}
use native.Mathlib.Omega.{arith}
use borrow.Author.Tests.{ne_eqb}
use lib.Dec.{eqb}
use lib.ListN.{length}
use borrow.Author.Rules.{rules}
use Rattle.refusal.specs.Numbers.{refusal_number}
use Rattle.refusal.specs.declared.Refusal.TheVariants.{Level}
use Rattle.refusal.proofs.Named.{named}
use Rattle.header_reader.specs.declared.Headed.{Headed}
use Rattle.decoder.proofs.Tests.{header_most}
use Rattle.decoder.proofs.Answered.{refused_answer}
use Rattle.showing.proofs.Fronts.{level_first, header_first, area_first, level_within}
use Rattle.showing.proofs.Shows.{shown_refused, shown_as}
use Rattle.showing.proofs.show_stream.Goals as goal

pub returns-in_err-refuse : goal.returns-in_err-refuse
returns-in_err-refuse c = let z = c.args in
    let e = level_first z.stream.now z.r (length z.plane.now) (length z.mask.now) (length z.undone.now) (length z.shown.now) (sym c.bad_level.ensures ∙ c.in_err-refuse.ensures.0) in
    let a = shown_refused (refused_answer {l = z.stream.now} {plane = z.plane.now} {mask = z.mask.now} Level refl e) {r = z.r} {undone = z.undone.now} {shown = z.shown.now} (ap (λ (f : ℕ). eqb f 0) (sym e)) in
    let n = a.answered.numbers in
    record { outcome_value = search rules; header_value = search rules; plane_after = a.answered.plane_held; mask_after = a.answered.mask_held; fact = a.numbers; fact_2 = a.samples }

pub returns-in_err-headed : goal.returns-in_err-headed
returns-in_err-headed c = let z = c.args in let L = z.stream.now in
    let n = c.in_err-headed.ensures.number in let r = c.in_err-headed.field-0.0 in
    let e = header_first L z.r (length z.plane.now) (length z.mask.now) (length z.undone.now) (length z.shown.now) (sym c.bad_level.ensures ∙ c.in_ok-refuse.ensures) n (named r) in
    let a = shown_refused (refused_answer {l = L} {plane = z.plane.now} {mask = z.mask.now} r (ne_eqb (refusal_number r) 16 (omega (arith, n, header_most L))) e) {r = z.r} {undone = z.undone.now} {shown = z.shown.now} (ap (λ (f : ℕ). eqb f 0) (sym e) ∙ named r) in
    let m = a.answered.numbers in
    record { outcome_value = search rules; header_value = search rules; plane_after = a.answered.plane_held; mask_after = a.answered.mask_held; fact = a.numbers; fact_2 = a.samples }

pub show_headed-requires : goal.show_headed-requires
show_headed-requires c = let L = c.args.stream.now in let R = c.args.r in
    let none = sym c.in_ok-headed.ensures.number in let h = c.in_ok-headed.ensures.headed in record {
      taken = record { tests = none; kernel = ap (λ (x : Headed). x.kernel) h; header = ap (λ (x : Headed). x.header) h };
      r_le_levels = subst (λ (x : Headed). R ≤ x.header.levels) (sym h) (level_within L R (sym c.bad_level.ensures ∙ c.in_ok-refuse.ensures) none);
    }

pub returns : goal.returns
returns c = let z = c.args in let L = z.stream.now in
    let a = shown_as (area_first L z.r (length z.plane.now) (length z.mask.now) (length z.undone.now) (length z.shown.now) (sym c.bad_level.ensures ∙ c.in_ok-refuse.ensures) (sym c.in_ok-headed.ensures.number)) c.show_headed.ensures in
    record { outcome_value = a.answered.numbers; header_value = a.answered.header; plane_after = a.answered.plane_held; mask_after = a.answered.mask_held; fact = a.numbers; fact_2 = a.samples }
