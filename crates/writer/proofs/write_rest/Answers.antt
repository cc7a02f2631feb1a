use mathlib.Core.Path.{◌≡◌, refl, sym, ap, ◌∙◌}
use mathlib.Core.Bool.{true}
use mathlib.Core.List.{[], ◌∷◌, ◌++◌}
use Prim.Native.Nat.{◌+◌, ◌-◌}
use native.Mathlib.Omega.{arith}
use mir.Syntax.{w32}
use mir.Val.{to_z, of_z}
use mir.Facts.{to_z-of_z}
use lib.IntN.{ℤ, pos}
use lib.ListN.{length, take, drop, length-drop}
use Rattle.std.proofs.Common.{FitsSigned, rules}
use Rattle.std.proofs.lemmas.List.{length_push, take_all}
use Rattle.line.specs.Cells.{cell}
use Rattle.bitplane.specs.Body.{class, one_plane, code}
use Rattle.bitplane.proofs.Bytes.{code_binary}
use Rattle.bitplane.proofs.Classes.{class_on, class_off}
use Rattle.members.proofs.Parts.{left_first, both_ended}
use Rattle.writer.specs.Written.{Digits, run}
use Rattle.writer.proofs.Codes.{code-length}
use Rattle.writer.proofs.Passes.{room_fits, puts_sends}
use Rattle.writer.proofs.Runs.{run_one, sends_start, sends_next, sends_skip, room_next}
use Rattle.writer.proofs.write_rest.Goals as goal

pub loop-z-init : goal.loop-z-init
loop-z-init c = let s = c.args.pass.now in let i = c.args.from in
    let first : c.into_iter-z-iterator.result.a.rest.now ≡ take (length s.plane.now - i) (drop i s.plane.now) = search rules in
    let second : c.into_iter-z-iterator.result.b.rest.now ≡ take (length s.mask.now - i) (drop i s.mask.now) = search rules in
    let e : i + 0 ≡ i = omega arith in
    record { kept = refl; within = omega arith; cells = rw e (first ∙ take_all _ (drop i s.plane.now) (omega (arith, length-drop i s.plane.now))); classes = rw e (second ∙ take_all _ (drop i s.mask.now) (omega (arith, length-drop i s.mask.now))); sent = sends_start _ _ _ _ }

pub loop-z-preserved-then-class-pass : goal.loop-z-preserved-then-class-pass
loop-z-preserved-then-class-pass c = let s = c.args.pass.now in let i = c.args.from in let l = c.loop-z in let n = length l.yielded in
    let item : l.z-iterator.a.rest.now ≡ c.in-Some.z.now ∷ c.next.new.self.a.rest.now = search rules in
    let side : l.z-iterator.b.rest.now ≡ c.in-Some.class.now ∷ c.next.new.self.b.rest.now = search rules in
    let x = left_first s.plane.now (i + n) (pos 0) (sym l.invariant.cells ∙ item) in
    let y = left_first s.mask.now (i + n) 0 (sym l.invariant.classes ∙ side) in
    let e : length (l.yielded ++ (c.in-Some.z, c.in-Some.class) ∷ []) ≡ n + 1 = length_push l.yielded _ in
    let g : i + (n + 1) ≡ i + n + 1 = omega arith in
    rw (e, g) (record {
      kept = l.invariant.kept;
      within = omega (arith, x.0);
      cells = x.2;
      classes = y.2;
      sent = sends_skip _ _ {j = i + n} i n 1 refl refl (λ d h. let j : i + n + d ≡ i + n = omega arith in rw j (class_off _ _ _ y.0 (λ q. c.if-class-pass.true (y.1 ∙ q)))) l.invariant.sent;
    })

pub send-q-requires : goal.send-q-requires
send-q-requires c = let s = c.args.pass.now in let i = c.args.from in let l = c.loop-z in let n = length l.yielded in
    let item : l.z-iterator.a.rest.now ≡ c.in-Some.z.now ∷ c.next.new.self.a.rest.now = search rules in
    let side : l.z-iterator.b.rest.now ≡ c.in-Some.class.now ∷ c.next.new.self.b.rest.now = search rules in
    let x = left_first s.plane.now (i + n) (pos 0) (sym l.invariant.cells ∙ item) in
    let y = left_first s.mask.now (i + n) 0 (sym l.invariant.classes ∙ side) in
    let z : ℤ = to_z w32 (of_z w32 c.in-Some.z.now) in
    let f : FitsSigned w32 c.in-Some.z.now = search rules in
    let same : z ≡ cell s.plane.now (i + n) = to_z-of_z {w = w32} f ∙ x.1 in
    let one : run (one_plane (class s.mask.now s.class) s.t) (cell s.plane.now) (i + n) 1 ≡ code s.t z = run_one _ _ _ (class_on _ _ _ y.0 (sym y.1 ∙ c.if-class-pass.false)) same in
    let digits : Digits (code s.t z) c.gives.result.number c.gives.result.count = c.gives.ensures in
    let m = code-length s.t z in
    room_fits (code_binary true s.t z) digits m.0 (omega arith) (rw one at (room_next _ _ {j = i + n} i n 1 refl (omega (arith, x.0)) l.invariant.sent l.invariant.kept c.requires.room))

pub loop-z-preserved : goal.loop-z-preserved
loop-z-preserved c = let s = c.args.pass.now in let i = c.args.from in let l = c.loop-z in let n = length l.yielded in
    let item : l.z-iterator.a.rest.now ≡ c.in-Some.z.now ∷ c.next.new.self.a.rest.now = search rules in
    let side : l.z-iterator.b.rest.now ≡ c.in-Some.class.now ∷ c.next.new.self.b.rest.now = search rules in
    let x = left_first s.plane.now (i + n) (pos 0) (sym l.invariant.cells ∙ item) in
    let y = left_first s.mask.now (i + n) 0 (sym l.invariant.classes ∙ side) in
    let z : ℤ = to_z w32 (of_z w32 c.in-Some.z.now) in
    let f : FitsSigned w32 c.in-Some.z.now = search rules in
    let same : z ≡ cell s.plane.now (i + n) = to_z-of_z {w = w32} f ∙ x.1 in
    let one : run (one_plane (class s.mask.now s.class) s.t) (cell s.plane.now) (i + n) 1 ≡ code s.t z = run_one _ _ _ (class_on _ _ _ y.0 (sym y.1 ∙ c.if-class-pass.false)) same in
    let digits : Digits (code s.t z) c.gives.result.number c.gives.result.count = c.gives.ensures in
    let e : length (l.yielded ++ (c.in-Some.z, c.in-Some.class) ∷ []) ≡ n + 1 = length_push l.yielded _ in
    let g : i + (n + 1) ≡ i + n + 1 = omega arith in
    let w = c.send-q in
    rw (e, g) (record {
      kept = w.auto.out ∙ l.invariant.kept;
      within = omega (arith, x.0);
      cells = x.2;
      classes = y.2;
      sent = sends_next _ _ {j = i + n} i n 1 refl refl l.invariant.sent (rw (one, w.ensures.place) (puts_sends (code_binary true s.t z) digits w.ensures.puts));
    })

pub returns : goal.returns
returns c = let s = c.args.pass.now in let i = c.args.from in let l = c.loop-z in let n = length l.yielded in
    let alike : length l.z-iterator.a.rest.now ≡ length l.z-iterator.b.rest.now = ap length l.invariant.cells ∙ length-drop (i + n) s.plane.now ∙ omega (arith, c.requires.within.0.ready.over, length-drop (i + n) s.mask.now, ap length l.invariant.classes) in
    let done = both_ended c.in-None.ensures.steps alike in
    let e : n ≡ length s.plane.now - i = omega (arith, done, ap length l.invariant.cells, length-drop (i + n) s.plane.now, l.invariant.within) in
    rw e at l.invariant.sent
