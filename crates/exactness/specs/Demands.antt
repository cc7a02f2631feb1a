-- The demands that are theorems, each in one piece: a record with a field for each part (docs/FORMAT.md, "What arrives exactly").
-- The hypotheses are that calls are accepted, and of a stream that its numbers are bytes.
--
--   Demand2 == undoing the transform gives back the picture, transforming the undone numbers gives back the plane, and reading a whole stream returns the plane
--              that was written:
--     picture_back, plane_back
--              for every kernel, level count and size, and all whole numbers
--     stream_back
--              for every accepted call of the writer, and buffers of the plane's size
--
--   Exact l n m c == what the stream l cut to c bytes has in common with l, read into buffers of n coefficients and m mask bytes:
--     size, accepted    it is c bytes long, and the reader accepts it
--     shot              its header is the same but for the length field: so are kernel, J, D, W, H, T, rectangles, region and mask
--     whole .. marks    its marked part is whole, and its region mark and its number of marks are the same
--     marked            so is each marked coefficient
--     undone, shown     so are, in the region, the undone numbers and the shown samples
--     taken             the cutter accepts c for every buffer that has room; by its contract the buffer then begins with this cut
--
--   Demand3 == the region arrives exactly:
--     levels   any region of any size, and two planes of whole numbers that agree on its mask: at each level, from 0 to the deepest, the count of
--              places that this level's mask marks and where their pictures at that level differ is zero
--     region   at level 0 the mask is the region, and the picture the undone numbers
--     cuts     a stream of bytes that the reader accepts with its marked part whole, cut to whichever length from its region mark to its own, is accepted
--              again and shows each region sample as it does uncut, and the cutter takes that length
--     cutter   the same of every call that the cutter accepts
--     whole, captured
--              where the stream was written from the plane of an accepted picture, with the setting under which it was transformed, it shows the picture,
--              and each cut shows its region as captured
--     spared   with kernel S, for every region of any size and every marked coefficient that is accepted there is another accepted value which, put
--              in that one's place alone, alters a region sample, taken before it is brought into range
--
--   Arrived == what a call that broke off has left is a cut, once `arrived` has set its length field:
--     cut      of the first c bytes of a stream of bytes, c from the end of its header to its length, `arrived` leaves the stream cut to c bytes
--     told     it accepts them, and tells the length of the stream
--     exact    so what it leaves from the region mark on is accepted and shows each region sample as the whole stream does
--     captured and as captured, where the stream was written from the plane of an accepted picture
--
--   SmallPicture == the picture at level r, for every r from 0 to J:
--     full     r = 0 is accepted where undoing and showing are, and gives what they give
--     lowest   r = J gives the lowest area as it is stored
--     within   what is shown comes from the coefficients in level r's area alone: a plane that holds the same there, whatever it holds elsewhere, has the same
--              picture at level r
--     alike    two accepted planes of one size, kernel, level count and depth that agree on the mask show the area alike wherever level r's mask marks
--     blocks   level r's mask marks each place whose block of 2^r by 2^r samples holds a sample of the region
--     taken    a stream that the reader accepts is shown at level r in buffers as long as the area
--     cuts     a stream of bytes that the reader accepts with its marked part whole, cut to whichever length from its region mark to its own, shows what
--              level r's mask marks as it does uncut
--     whole, captured
--              where the stream was written from the plane of an accepted picture, it shows the picture's own transform with r levels, and each cut shows
--              what level r's mask marks of it
--
--   LampBrightness == the brightness of what is shown, all result numbers of the call, refusals too:
--     cuts     a stream of bytes that the reader accepts with its marked part whole, cut to whichever length from its region mark to its own, gives for
--              every region inside its own what it gives uncut
--     whole, captured
--              where the stream was written from the plane of an accepted picture, it gives for every region what the picture gives, and so does each cut
--              for every region inside the stream's own
--
-- Assumes nothing: these are definitions. `proofs/Demands.antt` proves Demand2, Demand3, Arrived, SmallPicture and LampBrightness.
use Rattle.std.specs.Prelude.{◌≡◌, ◌≢◌, Bool, true, false, ◌&&◌, List, ℕ, ◌+◌, ◌*◌, ◌-◌, ◌/◌, ◌%◌, ◌^◌, ◌<◌, ◌≤◌, ℤ, pos, ◌+ℤ◌, length, get_or, take}
use Rattle.whole.specs.Within.{Within}
use Rattle.kernel.specs.declared.Kernel.{Kernel}
use Rattle.kernel.specs.declared.Kernel.TheVariants.{S}
use Rattle.kernel.specs.Kernels.{the_kernel}
use Rattle.grid.specs.Picture.{Picture, side, AgreeOn}
use Rattle.plane.specs.Plane.{transformed, undone, mask_of, level_mask, level_picture, changed, Altered}
use Rattle.plane.specs.Counts.{places, differs}
use Rattle.refusal.specs.Numbers.{first, accepted}
use Rattle.wavelet.specs.Wavelet.{coefficients_of, undone_number, transform_tests, undo_tests}
use Rattle.brightness.specs.Brightness.{brightness_numbers}
use Rattle.samples.specs.Samples.{in_range, show_tests}
use Rattle.level_picture.specs.Level.{level_number, level_sample, level_tests}
use Rattle.header.specs.Header.{front_length, bad_header}
use Rattle.header.specs.Fields.{shot_of}
use Rattle.header.specs.Arrival.{cut_to, arrived_of, arrival_numbers}
use Rattle.shot.specs.Shots.{shot_mask}
use Rattle.codestream.specs.Stream.{area, region_mark, total_length, stream}
use Rattle.codestream.specs.Writing.{shot_for, write_tests}
use Rattle.codestream.specs.Reading.{answer_of, plane_of, read_tests, read_numbers, ReadBack}
use Rattle.codestream.specs.Cutting.{cut_tests, Bytes}
use Rattle.exactness.specs.Shown.{undone_at, shown_at, in_region_at, plane_for, brightness_of, RegionInside, level_area, level_number_at, level_sample_at, own_number, in_level_mask, in_level_at, stream_tests}

pub record Demand2 : Type 0 where
  pub picture_back : (k : Kernel) (J W H : ℕ) (P : Picture ℤ) → undone k J W H (transformed k J W H P) ≡ P
  pub plane_back : (k : Kernel) (J W H : ℕ) (P : Picture ℤ) → transformed k J W H (undone k J W H P) ≡ P
  pub stream_back : (k J D W H : ℕ) (rs : List ℕ) (plane : List ℤ) (m n : ℕ) → let s = shot_for k J D W H rs plane in
      accepted (write_tests s plane m n) ≡ true → (p : List ℤ) (b : List ℕ) → length p ≡ area s → length b ≡ area s → ReadBack (stream s plane) s plane p b

pub record Exact (l : List ℕ) (n m c : ℕ) : Type 0 where
  pub size : length (cut_to l c) ≡ c
  pub accepted : accepted (read_tests (cut_to l c) n m) ≡ true
  pub shot : shot_of (cut_to l c) ≡ shot_of l
  pub whole : (answer_of (cut_to l c)).whole ≡ true
  pub region_mark : (answer_of (cut_to l c)).region_mark ≡ (answer_of l).region_mark
  pub marks : (read_numbers (cut_to l c) n m).marks ≡ (read_numbers l n m).marks
  pub marked : (i : ℕ) → i < area (shot_of l) → get_or (shot_mask (shot_of l)) i 2 ≡ 1 → get_or (plane_of (cut_to l c)) i (pos 0) ≡ get_or (plane_of l) i (pos 0)
  pub undone : (i : ℕ) → i < area (shot_of l) → in_region_at (shot_of l) i ≡ true → undone_at (cut_to l c) i ≡ undone_at l i
  pub shown : (i : ℕ) → i < area (shot_of l) → in_region_at (shot_of l) i ≡ true → shown_at (cut_to l c) i ≡ shown_at l i
  pub taken : (o : ℕ) → c ≤ o → first (cut_tests l n m c o) ≡ 0

pub record Demand3 : Type 0 where
  pub levels : (k : Kernel) (J W H : ℕ) (B : Picture Bool) (P P' : Picture ℤ) → AgreeOn W H (mask_of k J W H B) P P' → (j : ℕ) → j ≤ J
      → places (side j W) (side j H) (differs (level_mask k j W H B) (level_picture k J j W H P) (level_picture k J j W H P')) ≡ 0
  pub region : (k : Kernel) (J W H : ℕ) (B : Picture Bool) (P : Picture ℤ) → (level_mask k 0 W H B ≡ B) × (level_picture k J 0 W H P ≡ undone k J W H P)
  pub cuts : (l : List ℕ) (n m c : ℕ) → Bytes l → accepted (read_tests l n m) ≡ true → (answer_of l).whole ≡ true → (answer_of l).region_mark ≤ c → c ≤ length l → Exact l n m c
  pub cutter : (l : List ℕ) (n m c o : ℕ) → Bytes l → accepted (cut_tests l n m c o) ≡ true → Exact l n m c
  pub whole : (k J D W H : ℕ) (rs samples : List ℕ) (p m n : ℕ) → let plane = plane_for k J W H samples in let s = shot_for k J D W H rs plane in
      accepted (transform_tests k J D W H samples p) ≡ true → accepted (write_tests s plane m n) ≡ true
      → (i : ℕ) → i < W * H → shown_at (stream s plane) i ≡ get_or samples i 0
  pub captured : (k J D W H : ℕ) (rs samples : List ℕ) (p m n : ℕ) → let plane = plane_for k J W H samples in let s = shot_for k J D W H rs plane in
      accepted (transform_tests k J D W H samples p) ≡ true → accepted (write_tests s plane m n) ≡ true
      → (c : ℕ) → region_mark s plane ≤ c → c ≤ total_length s plane → (i : ℕ) → i < W * H → in_region_at s i ≡ true → shown_at (cut_to (stream s plane) c) i ≡ get_or samples i 0
  pub spared : (J W H : ℕ) (B : Picture Bool) (P : Picture ℤ) (v u : ℕ) → v < H → u < W → mask_of S J W H B v u ≡ true → Within (2 ^ 22 - 1) (P v u)
      → (d : ℤ) × (P v u +ℤ d ≢ P v u) × Within (2 ^ 22 - 1) (P v u +ℤ d) × Altered W H B (undone S J W H P) (undone S J W H (changed P v u d))

pub record Arrived : Type 0 where
  pub cut : (l : List ℕ) → Bytes l → bad_header l ≡ false → (c : ℕ) → front_length l ≤ c → c ≤ length l → arrived_of (take c l) ≡ cut_to l c
  pub told : (l : List ℕ) → bad_header l ≡ false → (c : ℕ) → front_length l ≤ c → c ≤ length l → arrival_numbers (take c l) ≡ record { refusal = 0; sent = length l }
  pub exact : (l : List ℕ) (n m c : ℕ) → Bytes l → accepted (read_tests l n m) ≡ true → (answer_of l).whole ≡ true → (answer_of l).region_mark ≤ c → c ≤ length l
      → (arrived_of (take c l) ≡ cut_to l c) × Exact l n m c
  pub captured : (k J D W H : ℕ) (rs samples : List ℕ) (p m n : ℕ) → let plane = plane_for k J W H samples in let s = shot_for k J D W H rs plane in
      accepted (transform_tests k J D W H samples p) ≡ true → accepted (write_tests s plane m n) ≡ true
      → (c : ℕ) → region_mark s plane ≤ c → c ≤ total_length s plane → (i : ℕ) → i < W * H → in_region_at s i ≡ true → shown_at (arrived_of (take c (stream s plane))) i ≡ get_or samples i 0

pub record SmallPicture : Type 0 where
  pub full : (k J D W H : ℕ) (plane : List ℤ) (n s : ℕ)
      → (accepted (level_tests k J 0 D W H plane n s) ≡ (accepted (undo_tests k J W H plane n) && accepted (show_tests D W H n s)))
      × ((i : ℕ) → (level_number k J 0 W H plane i ≡ undone_number k J W H plane i) × (level_sample k J 0 D W H plane i ≡ in_range D (undone_number k J W H plane i)))
  pub lowest : (k J D W H : ℕ) (plane : List ℤ) (n s : ℕ) → accepted (level_tests k J J D W H plane n s) ≡ true
      → (i : ℕ) → i < side J W * side J H → let stored = get_or plane (i / side J W * W + i % side J W) (pos 0) in
      (level_number k J J W H plane i ≡ stored) × (level_sample k J J D W H plane i ≡ in_range D stored)
  pub within : (k J r D W H : ℕ) (plane plane' : List ℤ) (n s : ℕ) → accepted (level_tests k J r D W H plane n s) ≡ true
      → ((y x : ℕ) → y < side r H → x < side r W → coefficients_of W plane y x ≡ coefficients_of W plane' y x)
      → (i : ℕ) → i < side r W * side r H
      → (level_number k J r W H plane i ≡ level_number k J r W H plane' i) × (level_sample k J r D W H plane i ≡ level_sample k J r D W H plane' i)
  pub alike : (k J r D W H : ℕ) (B : Picture Bool) (plane plane' : List ℤ) (n s : ℕ)
      → accepted (level_tests k J r D W H plane n s) ≡ true → accepted (level_tests k J r D W H plane' n s) ≡ true
      → AgreeOn W H (mask_of (the_kernel k) J W H B) (coefficients_of W plane) (coefficients_of W plane')
      → (i : ℕ) → i < side r W * side r H → in_level_mask k r W H B i ≡ true
      → (level_number k J r W H plane i ≡ level_number k J r W H plane' i) × (level_sample k J r D W H plane i ≡ level_sample k J r D W H plane' i)
  pub blocks : (k : Kernel) (r W H : ℕ) (B : Picture Bool) (y x : ℕ) → y < H → x < W → B y x ≡ true → level_mask k r W H B (y / 2 ^ r) (x / 2 ^ r) ≡ true
  pub taken : (l : List ℕ) (n m r : ℕ) → accepted (read_tests l n m) ≡ true → r ≤ (shot_of l).levels
      → let a = level_area r (shot_of l) in accepted (stream_tests l r n m a a) ≡ true
  pub cuts : (l : List ℕ) (n m c r : ℕ) → Bytes l → accepted (read_tests l n m) ≡ true → (answer_of l).whole ≡ true → (answer_of l).region_mark ≤ c → c ≤ length l → r ≤ (shot_of l).levels
      → let a = level_area r (shot_of l) in (accepted (stream_tests (cut_to l c) r n m a a) ≡ true)
      × ((i : ℕ) → i < a → in_level_at r (shot_of l) i ≡ true → (level_number_at r (cut_to l c) i ≡ level_number_at r l i) × (level_sample_at r (cut_to l c) i ≡ level_sample_at r l i))
  pub whole : (k J D W H : ℕ) (rs samples : List ℕ) (p m n : ℕ) → let plane = plane_for k J W H samples in let s = shot_for k J D W H rs plane in
      accepted (transform_tests k J D W H samples p) ≡ true → accepted (write_tests s plane m n) ≡ true
      → (r : ℕ) → r ≤ J → (i : ℕ) → i < level_area r s
      → (level_number_at r (stream s plane) i ≡ own_number k r W H samples i) × (level_sample_at r (stream s plane) i ≡ in_range D (own_number k r W H samples i))
  pub captured : (k J D W H : ℕ) (rs samples : List ℕ) (p m n : ℕ) → let plane = plane_for k J W H samples in let s = shot_for k J D W H rs plane in
      accepted (transform_tests k J D W H samples p) ≡ true → accepted (write_tests s plane m n) ≡ true
      → (c : ℕ) → region_mark s plane ≤ c → c ≤ total_length s plane → (r : ℕ) → r ≤ J → (i : ℕ) → i < level_area r s → in_level_at r s i ≡ true
      → (level_number_at r (cut_to (stream s plane) c) i ≡ own_number k r W H samples i) × (level_sample_at r (cut_to (stream s plane) c) i ≡ in_range D (own_number k r W H samples i))

pub record LampBrightness : Type 0 where
  pub cuts : (l : List ℕ) (n m c : ℕ) → Bytes l → accepted (read_tests l n m) ≡ true → (answer_of l).whole ≡ true → (answer_of l).region_mark ≤ c → c ≤ length l
      → (region : List ℕ) → RegionInside (shot_of l) region → brightness_of (cut_to l c) region ≡ brightness_of l region
  pub whole : (k J D W H : ℕ) (rs samples : List ℕ) (p m n : ℕ) → let plane = plane_for k J W H samples in let s = shot_for k J D W H rs plane in
      accepted (transform_tests k J D W H samples p) ≡ true → accepted (write_tests s plane m n) ≡ true
      → (region : List ℕ) → brightness_of (stream s plane) region ≡ brightness_numbers W H samples region
  pub captured : (k J D W H : ℕ) (rs samples : List ℕ) (p m n : ℕ) → let plane = plane_for k J W H samples in let s = shot_for k J D W H rs plane in
      accepted (transform_tests k J D W H samples p) ≡ true → accepted (write_tests s plane m n) ≡ true
      → (c : ℕ) → region_mark s plane ≤ c → c ≤ total_length s plane → (region : List ℕ) → RegionInside s region
      → brightness_of (cut_to (stream s plane) c) region ≡ brightness_numbers W H samples region
