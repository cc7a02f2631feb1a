-- The header of a codestream as it is written and read (docs/FORMAT.md, "Header").
--
--   bytes_of n x         == the n bytes of the number x, highest byte first
--   Field                == a field: its size in bytes and its value
--   field n x            == the field of n bytes that holds x
--   laid fs              == the bytes of the fields fs, one after the other
--   Shot                 == what a header says of a shot; its rectangles are x, y, width and height of each in turn
--   fixed_fields s total == the first nine fields of the header of a stream of `total` bytes, in their order
--   rectangle_fields l   == the fields of the rectangles behind them
--   header s total       == the header's bytes
--   numbers n l at       == n numbers of two bytes from `at` on
--   shot_of l            == what the header of the stream l says
--
-- Assumes nothing: these are definitions.
use Rattle.std.specs.Prelude.{List, [], ◌∷◌, ◌++◌, ℕ, zero, suc, ◌+◌, ◌*◌, ◌-◌, ◌/◌, ◌%◌, length}
use Rattle.header.specs.Header.{number}

unfoldable pub bytes_of : ℕ → ℕ → List ℕ
bytes_of zero x = []
bytes_of (suc n) x = bytes_of n (x / 256) ++ (x % 256 ∷ [])

pub record Field : Type 0 where
  pub size : ℕ
  pub value : ℕ

abbrev pub field : ℕ → ℕ → Field
field n x = record { size = n; value = x }

unfoldable pub laid : List Field → List ℕ
laid [] = []
laid (f ∷ fs) = bytes_of f.size f.value ++ laid fs

pub record Shot : Type 0 where
  pub kernel : ℕ
  pub levels : ℕ
  pub depth : ℕ
  pub width : ℕ
  pub height : ℕ
  pub planes : ℕ
  pub rectangles : List ℕ

unfoldable pub rectangle_fields : List ℕ → List Field
rectangle_fields [] = []
rectangle_fields (x ∷ xs) = field 2 x ∷ rectangle_fields xs

abbrev pub fixed_fields : Shot → ℕ → List Field
fixed_fields s total =
    field 4 (total - 4) ∷ field 1 1 ∷ field 1 s.kernel ∷ field 1 s.levels ∷ field 1 s.depth ∷ field 2 s.width ∷ field 2 s.height
    ∷ field 1 (length s.rectangles / 4) ∷ field 1 s.planes ∷ []

abbrev pub header : Shot → ℕ → List ℕ
header s total = laid (fixed_fields s total ++ rectangle_fields s.rectangles)

unfoldable pub numbers : ℕ → List ℕ → ℕ → List ℕ
numbers zero l at = []
numbers (suc n) l at = number 2 l at ∷ numbers n l (at + 2)

abbrev pub shot_of : List ℕ → Shot
shot_of l = record {
  kernel = number 1 l 5;
  levels = number 1 l 6;
  depth = number 1 l 7;
  width = number 2 l 8;
  height = number 2 l 10;
  planes = number 1 l 13;
  rectangles = numbers (4 * number 1 l 12) l 14;
}
