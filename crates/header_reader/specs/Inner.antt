-- The parts of the reading of a header: what only inner contracts and proofs cite.
--
--   rectangle_array l k == the numbers of k rectangles of the stream l, and 0 behind them
--   Set ..              == what is known of a stream once its setting is taken
--
-- Assumes nothing: these are definitions.
use Rattle.std.specs.Prelude.{◌≡◌, false, List, ℕ, ◌*◌, get_or}
use Rattle.kernel.specs.declared.Kernel.{Kernel}
use Rattle.kernel.specs.Kernels.{the_kernel}
use Rattle.line.specs.Cells.{listed}
use Rattle.refusal.specs.Numbers.{first}
use Rattle.header.specs.Header.{bad_header, bad_version}
use Rattle.header.specs.Fields.{numbers, shot_of}
use Rattle.setting.specs.declared.Setting.{Setting}
use Rattle.shot.specs.Shots.{setting_tests}

abbrev pub rectangle_array : List ℕ → ℕ → List ℕ
rectangle_array l k = listed 128 (λ i. get_or (numbers (4 * k) l 14) i 0)

pub record Set (l : List ℕ) (chosen : Kernel) (s : Setting) : Type 0 where
  pub header : bad_header l ≡ false
  pub version : bad_version l ≡ false
  pub kernel : s.kernel ≡ (shot_of l).kernel
  pub levels : s.levels ≡ (shot_of l).levels
  pub depth : s.depth ≡ (shot_of l).depth
  pub width : s.width ≡ (shot_of l).width
  pub height : s.height ≡ (shot_of l).height
  pub chosen_is : chosen ≡ the_kernel s.kernel
  pub setting : 0 ≡ first (setting_tests s.kernel s.levels s.depth s.width s.height)
