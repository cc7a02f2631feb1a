-- `showing_limited::show_limited` shows a stream over working memory of its own. Assumes nothing.
use mathlib.Core.Path.{◌≡◌, ap, ◌∙◌}
use Prim.Native.Nat.{ℕ, ◌≤◌}
use lib.IntN.{pos}
use lib.ListN.{length, take, replicate}
use lib.Seq.{length-take-le}
use Rattle.refusal.specs.Numbers.{first}
use Rattle.codestream.specs.Reading.{read_tests, numbers_under, read_numbers}
use Rattle.exactness.specs.Shown.{stream_tests}
use Rattle.showing_limited.specs.Showing.{room_for}
use Rattle.showing_limited.proofs.Rooms.{room_small, front_same, in_front}
use Rattle.showing_limited.proofs.Shows.{tests_read, samples_read}
use Rattle.showing_limited.proofs.show_limited.Goals as goal

pub returns : goal.returns
returns c = let small : (c.room-n.result ≤ 4096) × (c.room-n.result ≤ length c.args.shown.now) = let l = c.args.stream.now in
    let n = length c.args.shown.now in
    rw c.room-n.ensures (room_small l n) in
    let a = c.args in let l = a.stream.now in let n = c.room-n.result in let held = a.shown.now in
    let r = c.show_stream.ensures in
    let k = length (take n held) in
    let size : k ≡ room_for l (length held) = length-take-le n held small.1 ∙ c.room-n.ensures in
    let all : first (stream_tests l 0 (length (take n (replicate 4096 (pos 0)))) (length {A = ℕ} (take n (replicate 4096 0))) (length (take n (replicate 4096 (pos 0)))) k) ≡ first (read_tests l k k)
    = rw (front_same n (pos 0) held small.0 small.1, front_same {A = ℕ} n 0 held small.0 small.1) (tests_read l k) in record { outcome_value = r.outcome_value ∙ ap (λ (f : ℕ). numbers_under f l) all ∙ ap (λ (q : ℕ). read_numbers l q q) size; header_value = r.header_value; shown_after = in_front l held c.room-n.ensures small.1 (samples_read l (take n held) _ (rw all at r.fact_2)) }
