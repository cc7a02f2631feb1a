-- A header is read back field by field. Assumes nothing.
use mathlib.Core.Path.{◌≡◌, refl, sym, ap, ap₂, ◌∙◌}
use mathlib.Core.List.{List, [], ◌∷◌, ◌++◌, append_assoc}
use Prim.Native.Nat.{ℕ, zero, suc, ◌+◌, ◌*◌, ◌-◌, ◌/◌, ◌%◌, ◌^◌, ◌<◌, ◌≤◌}
use native.Mathlib.Omega.{arith}
use native.Mathlib.Nat.{pow-suc}
use lib.ListN.{length, get_or, take, length-append, get_or-append}
use lib.Seq.{get_or-append-add, take-suc}
use Rattle.header.specs.Header.{number, front_length}
use Rattle.header.specs.Fields.{bytes_of, Field, field, laid, Shot, fixed_fields, rectangle_fields, header, numbers, shot_of}

-- ---- a number of n bytes
pub bytes_length : (n x : ℕ) → length (bytes_of n x) ≡ n
unfolding bytes_of
bytes_length zero x = refl
bytes_length (suc n) x = length-append (bytes_of n (x / 256)) (x % 256 ∷ []) ∙ omega (arith, bytes_length n (x / 256))

pub number_before : (n : ℕ) (l r : List ℕ) (at : ℕ) → at + n ≤ length l → number n (l ++ r) at ≡ number n l at
unfolding number
number_before zero l r at h = refl
number_before (suc n) l r at h = rw (number_before n l r at (omega arith), get_or-append l r 0 (at + n) (omega arith))

number_behind : (n : ℕ) (l r : List ℕ) (at : ℕ) → number n (l ++ r) (length l + at) ≡ number n r at
unfolding number
number_behind zero l r at = refl
number_behind (suc n) l r at =
    let e : length l + at + n ≡ length l + (at + n) = omega arith in
    rw (number_behind n l r at, e, get_or-append-add l r (at + n) 0)

number_bytes : (n x : ℕ) → x < 256 ^ n → number n (bytes_of n x) 0 ≡ x
unfolding number bytes_of
number_bytes zero x h = omega arith
number_bytes (suc n) x h =
    let l = bytes_of n (x / 256) in
    let e : 0 + n ≡ length l + 0 = omega (arith, bytes_length n (x / 256)) in
    let s : x / 256 < 256 ^ n = omega (arith, pow-suc 256 n) in
    rw (number_before n l (x % 256 ∷ []) 0 (omega arith), number_bytes n (x / 256) s, e, get_or-append-add l (x % 256 ∷ []) 0 0) (omega arith)

-- and back: the bytes of a number that was read
pub bytes_number : (l : List ℕ) → ((i : ℕ) → get_or l i 0 < 256) → (n : ℕ) → n ≤ length l → bytes_of n (number n l 0) ≡ take n l
unfolding number bytes_of
bytes_number l bytes zero h = refl
bytes_number l bytes (suc n) h =
    let x = number n l 0 in let b = get_or l n 0 in
    let q : (x * 256 + b) / 256 ≡ x = omega (arith, bytes n) in let r : (x * 256 + b) % 256 ≡ b = omega (arith, bytes n) in
    let z : 0 + n ≡ n = omega arith in
    rw (z, q, r) (ap (λ (k : List ℕ). k ++ (b ∷ [])) (bytes_number l bytes n (omega arith)) ∙ sym (take-suc l n 0 (omega arith)))

-- a number behind the bytes p, whatever follows
pub number_at : (p : List ℕ) (n x : ℕ) (rest : List ℕ) → x < 256 ^ n → number n (p ++ (bytes_of n x ++ rest)) (length p) ≡ x
number_at p n x rest h =
    let e : length p ≡ length p + 0 = omega arith in
    rw (e, number_behind n p (bytes_of n x ++ rest) 0) (number_before n (bytes_of n x) rest 0 (omega (arith, bytes_length n x)) ∙ number_bytes n x h)

-- ---- fields, one after the other
pub laid-append : (fs gs : List Field) → laid (fs ++ gs) ≡ laid fs ++ laid gs
unfolding laid
laid-append [] gs = refl
laid-append (f ∷ fs) gs = ap (λ (l : List ℕ). bytes_of f.size f.value ++ l) (laid-append fs gs) ∙ sym (append_assoc (bytes_of f.size f.value) (laid fs) (laid gs))

unfoldable pub sizes : List Field → ℕ
sizes [] = 0
sizes (f ∷ fs) = f.size + sizes fs

pub laid-length : (fs : List Field) → length (laid fs) ≡ sizes fs
unfolding laid sizes
laid-length [] = refl
laid-length (f ∷ fs) = length-append (bytes_of f.size f.value) (laid fs) ∙ ap₂ (λ (a b : ℕ). a + b) (bytes_length f.size f.value) (laid-length fs)

-- field i, and where it begins
unfoldable nth : List Field → ℕ → Field
nth [] i = field 0 0
nth (f ∷ fs) zero = f
nth (f ∷ fs) (suc i) = nth fs i

unfoldable begins : List Field → ℕ → ℕ
begins [] i = 0
begins (f ∷ fs) zero = 0
begins (f ∷ fs) (suc i) = f.size + begins fs i

field_back : (fs : List Field) (i : ℕ) (rest : List ℕ) → (nth fs i).value < 256 ^ (nth fs i).size → number (nth fs i).size (laid fs ++ rest) (begins fs i) ≡ (nth fs i).value
unfolding laid nth begins number
field_back [] i rest h = refl
field_back (f ∷ fs) zero rest h = rw (append_assoc (bytes_of f.size f.value) (laid fs) rest) (number_at [] f.size f.value (laid fs ++ rest) h)
field_back (f ∷ fs) (suc i) rest h =
    let b = bytes_of f.size f.value in
    let e : f.size + begins fs i ≡ length b + begins fs i = omega (arith, bytes_length f.size f.value) in
    rw (append_assoc b (laid fs) rest, e, number_behind (nth fs i).size b (laid fs ++ rest) (begins fs i)) (field_back fs i rest h)

rectangles_back : (p rs rest : List ℕ) → ((i : ℕ) → get_or rs i 0 < 65536) → numbers (length rs) (p ++ (laid (rectangle_fields rs) ++ rest)) (length p) ≡ rs
unfolding numbers laid rectangle_fields
rectangles_back p [] rest h = refl
rectangles_back p (x ∷ rs) rest h =
    let b = bytes_of 2 x in let more = laid (rectangle_fields rs) in
    let e : length p + 2 ≡ length (p ++ b) = omega (arith, length-append p b, bytes_length 2 x) in
    rw (append_assoc b more rest, number_at p 2 x (more ++ rest) (h 0), e, ← append_assoc p b (more ++ rest), rectangles_back (p ++ b) rs rest (λ i. h (suc i)))

pub rectangles_size : (rs : List ℕ) → sizes (rectangle_fields rs) ≡ 2 * length rs
unfolding sizes rectangle_fields
rectangles_size [] = refl
rectangles_size (x ∷ rs) = omega (arith, rectangles_size rs)

-- ---- the header of a shot
-- each field has room for its value
pub record Held (s : Shot) (total : ℕ) : Type 0 where
  pub kernel : s.kernel < 256
  pub levels : s.levels < 256
  pub depth : s.depth < 256
  pub width : s.width < 65536
  pub height : s.height < 65536
  pub planes : s.planes < 256
  pub rectangle : (i : ℕ) → get_or s.rectangles i 0 < 65536
  pub fours : 4 * (length s.rectangles / 4) ≡ length s.rectangles
  pub few : length s.rectangles / 4 < 256
  pub all : total - 4 < 4294967296

module _ (s : Shot) (total : ℕ) (h : Held s total) (rest : List ℕ) where
  abbrev fixed : List Field
  fixed = fixed_fields s total

  abbrev behind : List ℕ
  behind = laid (rectangle_fields s.rectangles) ++ rest

  apart : header s total ++ rest ≡ laid fixed ++ behind
  apart = rw (laid-append fixed (rectangle_fields s.rectangles), append_assoc (laid fixed) (laid (rectangle_fields s.rectangles)) rest)

  fixed_back : (i : ℕ) → (nth fixed i).value < 256 ^ (nth fixed i).size → number (nth fixed i).size (header s total ++ rest) (begins fixed i) ≡ (nth fixed i).value
  fixed_back i b = rw apart (field_back fixed i behind b)

  count_back : number 1 (header s total ++ rest) 12 ≡ length s.rectangles / 4
  unfolding nth begins
  count_back = fixed_back 7 h.few

  pub length_back : number 4 (header s total ++ rest) 0 ≡ total - 4
  unfolding nth begins
  length_back = fixed_back 0 h.all

  pub version_back : number 1 (header s total ++ rest) 4 ≡ 1
  unfolding nth begins
  version_back = fixed_back 1 (omega arith)

  fixed-length : length (laid fixed) ≡ 14
  unfolding sizes
  fixed-length = laid-length fixed

  pub header-length : length (header s total) ≡ front_length (header s total ++ rest)
  header-length = rw (count_back, laid-append fixed (rectangle_fields s.rectangles), length-append) (omega (arith, fixed-length, laid-length (rectangle_fields s.rectangles), rectangles_size s.rectangles, h.fours))

  numbers_back : numbers (4 * number 1 (header s total ++ rest) 12) (header s total ++ rest) 14 ≡ s.rectangles
  numbers_back = rw (count_back, h.fours, apart, ← fixed-length) (rectangles_back (laid fixed) s.rectangles rest h.rectangle)

  pub shot_back : shot_of (header s total ++ rest) ≡ s
  unfolding nth begins
  shot_back = rw (fixed_back 2 h.kernel, fixed_back 3 h.levels, fixed_back 4 h.depth, fixed_back 5 h.width, fixed_back 6 h.height, fixed_back 8 h.planes, numbers_back)
