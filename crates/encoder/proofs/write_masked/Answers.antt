-- `encoder::write_masked` writes a stream, or tells the length that it needs. Assumes nothing.
use mathlib.Core.Path.{refl}
use native.Mathlib.Omega.{arith}
use Rattle.encoder.proofs.Outcomes.{too_short, written}
use Rattle.encoder.proofs.Streams.{bits_most, total_found, marks_found, fit, body_ready, marked_most, stream_laid}
use Rattle.encoder.proofs.write_masked.Goals as goal

pub overflow_mul-total : goal.overflow_mul-total
overflow_mul-total c = let p = bits_most c.requires c.digits-planes.ensures refl in omega arith

pub overflow_add-total : goal.overflow_add-total
overflow_add-total c = let p = bits_most c.requires c.digits-planes.ensures refl in omega arith

pub overflow_add-total-2 : goal.overflow_add-total-2
overflow_add-total-2 c = let p = bits_most c.requires c.digits-planes.ensures refl in omega arith

pub overflow_add-total-3 : goal.overflow_add-total-3
overflow_add-total-3 c = let p = bits_most c.requires c.digits-planes.ensures refl in omega arith

pub returns-then-stream-total : goal.returns-then-stream-total
returns-then-stream-total c = let k = c.requires in too_short (total_found k c.digits-planes.ensures refl) k.mask (omega arith)

pub write_header-requires : goal.write_header-requires
write_header-requires c = let k = c.requires in let d = c.digits-planes.ensures in fit k d refl _ _ (total_found k d refl) (omega arith)

pub write_body-end-requires : goal.write_body-end-requires
write_body-end-requires c = let k = c.requires in let d = c.digits-planes.ensures in let m = c.mark_count-marks.ensures in
    body_ready k d m _ _ (total_found k d m) (omega (arith, c.write_header.auto.out))

pub overflow_add-result : goal.overflow_add-result
overflow_add-result c = let k = c.requires in let d = c.digits-planes.ensures in omega (arith, marked_most k d refl, c.write_body-end.ensures.at)

pub returns : goal.returns
returns c = let k = c.requires in let d = c.digits-planes.ensures in let m = c.mark_count-marks.ensures in
    let t = total_found k d m in
    let q = stream_laid k d m _ _ _ _ c.write_body-end.result t (omega arith) c.write_header.ensures c.write_body-end.ensures in
    written t (omega (arith, q.1)) (marks_found k d m) k.mask (omega arith) q.0
