-- The brightness of a region that is shown exactly is exact. Assumes nothing.
use mathlib.Core.Path.{◌≡◌, sym, ap, ◌∙◌}
use mathlib.Core.List.{List}
use Prim.Native.Nat.{ℕ, ◌<◌}
use lib.ListN.{get_or}
use Rattle.line.specs.Cells.{Line, listed}
use Rattle.line.proofs.Lists.{listed-length, listed_cell}
use Rattle.brightness.specs.Brightness.{Numbers, brightness_numbers}
use Rattle.brightness.proofs.Laws.{brightness}
use Rattle.header.specs.Fields.{Shot, shot_of}
use Rattle.header.specs.Arrival.{cut_to}
use Rattle.codestream.specs.Stream.{area}
use Rattle.codestream.specs.Cutting.{Bytes}
use Rattle.codestream.proofs.Cuts.{Cuttable}
use Rattle.exactness.specs.Shown.{shown_at, brightness_of, RegionInside}
use Rattle.exactness.proofs.Cuts.{every_cut}

-- samples X, row by row, shown by the shot s
abbrev of : Shot → Line ℕ → List ℕ → Numbers
of s X region = brightness_numbers s.width s.height (listed (area s) X) region

pub alike_of : (s : Shot) (X Y : Line ℕ) (region : List ℕ) → ((i : ℕ) → i < area s → get_or region i 0 ≡ 1 → X i ≡ Y i) → of s X region ≡ of s Y region
alike_of s X Y region e = brightness.alike s.width s.height _ _ region (listed-length (area s) X ∙ sym (listed-length (area s) Y)) (λ i h t.
    listed_cell (area s) X 0 i h ∙ e i h t ∙ sym (listed_cell (area s) Y 0 i h))

-- a stream with the header of s
pub of_shot : (l : List ℕ) (s : Shot) → shot_of l ≡ s → (region : List ℕ) → brightness_of l region ≡ of s (shown_at l) region
of_shot l s e region = ap (λ (t : Shot). of t (shown_at l) region) e

pub bright_cut : (l : List ℕ) (n m c : ℕ) → Bytes l → Cuttable l n m c → (region : List ℕ) → RegionInside (shot_of l) region → brightness_of (cut_to l c) region ≡ brightness_of l region
bright_cut l n m c bytes p region inside =
    let e = every_cut l n m c bytes p in
    of_shot (cut_to l c) (shot_of l) e.shot region ∙ alike_of (shot_of l) (shown_at (cut_to l c)) (shown_at l) region (λ i h t. e.shown i h (inside i h t))
