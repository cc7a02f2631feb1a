-- The proofs of demands 2 and 3, of what arrived, of the small picture and of the brightness of what is shown, each part from the theorem that proves it. Assumes nothing.
use mathlib.Core.Path.{◌≡◌, sym, ap, subst}
use mathlib.Core.Bool.{true}
use Prim.Native.Nat.{◌≤◌}
use Rattle.refusal.specs.Numbers.{accepted}
use Rattle.wavelet.specs.Wavelet.{coefficients_of}
use Rattle.samples.specs.Samples.{in_range}
use Rattle.header.specs.Fields.{Shot}
use Rattle.header.specs.Arrival.{cut_to}
use Rattle.plane.proofs.Inverse.{undo_transform, transform_undo}
use Rattle.plane.proofs.Levels.{level_exact, region_level, undone_level, block_marked}
use Rattle.plane.proofs.Spare.{none_spared}
use Rattle.codestream.proofs.RoundTrip.{read_back}
use Rattle.codestream.proofs.Cuts.{Cuttable}
use Rattle.codestream.proofs.Arrivals.{arrived_cut, arrived_numbers}
use Rattle.exactness.specs.Shown.{level_area, stream_tests}
use Rattle.exactness.specs.Demands.{Demand2, Demand3, Arrived, SmallPicture, LampBrightness}
use Rattle.exactness.proofs.Levels.{number_full, tests_full, level_few, some_width, number_lowest, numbers_agree, number_within}
use Rattle.exactness.proofs.Streams.{stream_taken}
use Rattle.exactness.proofs.Cuts.{every_cut, cutter_exact, arrived_is, level_cut, level_shown}
use Rattle.exactness.proofs.Brightness.{bright_cut}
use Rattle.exactness.proofs.Captured.{captured, captured_cut, captured_arrived, level_captured, level_captured_shown, level_captured_cut, level_captured_cut_shown, bright_whole, bright_captured}

pub demand_2 : Demand2
demand_2 = record {
  picture_back = λ k J W H P. undo_transform k J W H P;
  plane_back = λ k J W H P. transform_undo k J W H P;
  stream_back = read_back;
}

pub demand_3 : Demand3
demand_3 = record {
  levels = λ k J W H B P P' a j h. level_exact k J W H B P P' a j h;
  region = λ k J W H B P. (region_level k J W H B P, undone_level k J W H B P);
  cuts = λ l n m c bytes read whole low high. every_cut l n m c bytes (record { read = read; whole = whole; low = low; high = high });
  cutter = cutter_exact;
  whole = captured;
  captured = captured_cut;
  spared = λ J W H B P v u p q t a. none_spared J W H B P v u p q t a;
}

pub arrived : Arrived
arrived = record {
  cut = λ l bytes good c low high. arrived_cut l good c low high bytes;
  told = arrived_numbers;
  exact = λ l n m c bytes read whole low high. let p : Cuttable l n m c = record { read = read; whole = whole; low = low; high = high } in
      (arrived_is l n m c bytes p, every_cut l n m c bytes p);
  captured = captured_arrived;
}

pub small_picture : SmallPicture
small_picture = record {
  full = λ k J D W H plane n s. (tests_full k J D W H plane n s, λ i. let e = number_full k J W H plane i in (e, ap (in_range D) e));
  lowest = λ k J D W H plane n s ok i h. let e = number_lowest k J W H plane i (some_width k J J D W H plane n s ok) h in (e, ap (in_range D) e);
  within = λ k J r D W H plane plane' n s ok same i h.
      let e = number_within k J r W H (coefficients_of W plane') plane (some_width k J r D W H plane n s ok) same i h in (e, ap (in_range D) e);
  alike = λ k J r D W H B plane plane' n s ok ok' a i h t.
      let e = numbers_agree k J r W H B plane plane' (some_width k J r D W H plane n s ok) (level_few k J r D W H plane n s ok) a i h t in (e, ap (in_range D) e);
  blocks = block_marked;
  taken = stream_taken;
  cuts = λ l n m c r bytes read whole low high few. let p : Cuttable l n m c = record { read = read; whole = whole; low = low; high = high } in
      let x = every_cut l n m c bytes p in (
        subst (λ (s : Shot). accepted (stream_tests (cut_to l c) r n m (level_area r s) (level_area r s)) ≡ true) x.shot
            (stream_taken (cut_to l c) n m r x.accepted (subst (λ (s : Shot). r ≤ s.levels) (sym x.shot) few)),
        (λ i h t. (level_cut l n m c bytes p r few i h t, level_shown l n m c bytes p r few i h t)),
      );
  whole = λ k J D W H rs samples p m n ok written r few i h.
      (level_captured k J D W H rs samples p m n ok written r few i h, level_captured_shown k J D W H rs samples p m n ok written r few i h);
  captured = λ k J D W H rs samples p m n ok written c low high r few i h t.
      (level_captured_cut k J D W H rs samples p m n ok written c low high r few i h t, level_captured_cut_shown k J D W H rs samples p m n ok written c low high r few i h t);
}

pub lamp_brightness : LampBrightness
lamp_brightness = record {
  cuts = λ l n m c bytes read whole low high region inside. bright_cut l n m c bytes (record { read = read; whole = whole; low = low; high = high }) region inside;
  whole = bright_whole;
  captured = bright_captured;
}
