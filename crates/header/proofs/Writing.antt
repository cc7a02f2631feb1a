-- Bytes laid into a buffer one after the other make up a header. Assumes nothing.
use mathlib.Core.Path.{◌≡◌, refl, sym, ap, ◌∙◌}
use mathlib.Core.List.{List, [], ◌∷◌, ◌++◌, append-nil}
use Prim.Native.Nat.{ℕ, ◌+◌, ◌*◌, ◌-◌, ◌/◌, ◌%◌, ◌<◌, ◌≤◌}
use native.Mathlib.Omega.{arith}
use native.Mathlib.Numerals.{add-one}
use lib.ListN.{length, get_or, set, take, drop, length-set, length-append, length-take, length-drop, get_or-append}
use lib.Seq.{ext_get_or, get_or-set_same, get_or-set_other, get_or-append-add, get_or-drop, take-suc, take_all}
use Rattle.line.proofs.Cells.{by_lt}
use Rattle.header.specs.Fields.{bytes_of, Field, field, laid, Shot, fixed_fields, rectangle_fields, header}
use Rattle.header.specs.Writing.{Laid, Headed}
use Rattle.header.proofs.Fields.{bytes_length, laid-append, sizes, laid-length, rectangles_size}

-- ---- numbers of several bytes from those of fewer
bytes_two : (x : ℕ) → bytes_of 2 x ≡ bytes_of 1 (x / 256) ++ bytes_of 1 (x % 256)
unfolding bytes_of
bytes_two x = let e : x % 256 % 256 ≡ x % 256 = omega arith in rw e

bytes_four : (x : ℕ) → bytes_of 4 x ≡ bytes_of 2 (x / 65536) ++ bytes_of 2 (x % 65536)
unfolding bytes_of
bytes_four x =
    let a : x / 256 / 256 ≡ x / 65536 = omega arith in
    let b : x % 65536 / 256 % 256 ≡ x / 256 % 256 = omega arith in
    let c : x % 65536 % 256 ≡ x % 256 = omega arith in
    rw (a, b, c)

-- ---- one byte, and one part behind another
pub laid_byte : (l : List ℕ) (at x : ℕ) → at < length l → x < 256 → Laid at (bytes_of 1 x) l (set l at x)
unfolding bytes_of
laid_byte l at x h s = record {
  len = length-set l at x;
  inside = λ i k. let e : at + i ≡ at = omega arith in let d : i ≡ 0 = omega arith in let v : x ≡ x % 256 = omega arith in rw (e, d, get_or-set_same l at x 0 h) v;
  before = λ i k. get_or-set_other l at i x 0 (omega arith);
  behind = λ i k. get_or-set_other l at i x 0 (omega arith);
}

pub laid_both : {a b k l m : List ℕ} (at p : ℕ) → p ≡ at + length a → Laid at a k l → Laid p b l m → Laid at (a ++ b) k m
laid_both {a} {b} at p e f g = record {
  len = g.len ∙ f.len;
  inside = λ i h. by_lt i (length a)
      (λ lt. g.before (at + i) (omega arith) ∙ f.inside i lt ∙ sym (get_or-append a b 0 i lt))
      (λ ge. let j = i - length a in let q : at + i ≡ p + j = omega arith in let d : length a + j ≡ i = omega arith in
      rw q (g.inside j (omega (arith, length-append a b)) ∙ sym (get_or-append-add a b j 0) ∙ ap (λ n. get_or (a ++ b) n 0) d));
  before = λ i h. g.before i (omega arith) ∙ f.before i h;
  behind = λ i h. g.behind i (omega (arith, length-append a b)) ∙ f.behind i (omega (arith, length-append a b));
}

pub laid_two : {k l m : List ℕ} (at x : ℕ) → Laid at (bytes_of 1 (x / 256)) k l → Laid (at + 1) (bytes_of 1 (x % 256)) l m → Laid at (bytes_of 2 x) k m
laid_two at x f g = rw (bytes_two x) (laid_both at (at + 1) (omega (arith, bytes_length 1 (x / 256))) f g)

pub laid_four : {k l m : List ℕ} (at x : ℕ) → Laid at (bytes_of 2 (x / 65536)) k l → Laid (at + 2) (bytes_of 2 (x % 65536)) l m → Laid at (bytes_of 4 x) k m
laid_four at x f g = rw (bytes_four x) (laid_both at (at + 2) (omega (arith, bytes_length 2 (x / 65536))) f g)

-- the bytes p in front of what l held
module _ (p l : List ℕ) {m : List ℕ} (n : ℕ) (size : length p ≡ n) (room : n ≤ length l) (len : length m ≡ length l) where
  pub in_front : ((i : ℕ) → i < n → get_or m i 0 ≡ get_or p i 0) → ((i : ℕ) → n ≤ i → get_or m i 0 ≡ get_or l i 0) → m ≡ p ++ drop n l
  in_front f g = ext_get_or 0 m (p ++ drop n l) (len ∙ omega (arith, length-append p (drop n l), length-drop n l))
      (λ i h. by_lt i n
      (λ lt. f i lt ∙ sym (get_or-append p (drop n l) 0 i (omega arith)))
      (λ ge. let j = i - n in let d : length p + j ≡ i = omega arith in let e : n + j ≡ i = omega arith in
      g i ge ∙ ap (λ (k : ℕ). get_or l k 0) (sym e) ∙ sym (get_or-drop n l j 0) ∙ sym (get_or-append-add p (drop n l) j 0) ∙ ap (λ (k : ℕ). get_or (p ++ drop n l) k 0) d))

pub laid_front : (p l : List ℕ) {m : List ℕ} (n : ℕ) → length p ≡ n → n ≤ length l → Laid 0 p l m → m ≡ p ++ drop n l
laid_front p l n size room f =
    in_front p l n size room f.len (λ i h. let z : 0 + i ≡ i = omega arith in rw z at (f.inside i (omega arith))) (λ i h. f.behind i (omega arith))

-- a field, and what follows it
laid_field : {b k l m : List ℕ} (n x at p : ℕ) → p ≡ at + n → Laid at (bytes_of n x) k l → Laid p b l m → Laid at (bytes_of n x ++ b) k m
laid_field n x at p e f g = laid_both at p (omega (arith, bytes_length n x)) f g

-- ---- the rectangles, number by number
laid_none : (at : ℕ) (l : List ℕ) → Laid at [] l l
laid_none at l = record { len = refl; inside = λ i h. absurd (omega arith); before = λ i h. refl; behind = λ i h. refl }

fields_append : (a b : List ℕ) → rectangle_fields (a ++ b) ≡ rectangle_fields a ++ rectangle_fields b
unfolding rectangle_fields
fields_append [] b = refl
fields_append (x ∷ a) b = ap (λ (fs : List Field). field 2 x ∷ fs) (fields_append a b)

abbrev rectangle_bytes : List ℕ → List ℕ
rectangle_bytes l = laid (rectangle_fields l)

rectangles_length : (l : List ℕ) → length (rectangle_bytes l) ≡ 2 * length l
rectangles_length l = laid-length (rectangle_fields l) ∙ rectangles_size l

rectangles_next : (l : List ℕ) (i : ℕ) → i < length l → rectangle_bytes (take (i + 1) l) ≡ rectangle_bytes (take i l) ++ bytes_of 2 (get_or l i 0)
unfolding rectangle_fields laid
rectangles_next l i h = rw (add-one, take-suc l i 0 h, fields_append (take i l) (get_or l i 0 ∷ []), laid-append (rectangle_fields (take i l)), append-nil)

-- l holds the first i numbers
pub record Listed (numbers : List ℕ) (i : ℕ) (k l : List ℕ) : Type 0 where
  pub upto : i ≤ length numbers
  pub bytes : Laid 14 (rectangle_bytes (take i numbers)) k l

module _ (numbers : List ℕ) where
  pub listed_none : (k : List ℕ) → Listed numbers 0 k k
  unfolding rectangle_fields laid
  listed_none k = record { upto = omega arith; bytes = laid_none 14 k }

  pub listed_more : {k l m : List ℕ} (i : ℕ) → i < length numbers → Listed numbers i k l → Laid (14 + 2 * i) (bytes_of 2 (get_or numbers i 0)) l m → Listed numbers (i + 1) k m
  listed_more i h f g = record {
    upto = omega arith;
    bytes = rw (rectangles_next numbers i h) (laid_both 14 (14 + 2 * i) (omega (arith, rectangles_length (take i numbers), length-take i numbers)) f.bytes g);
  }

  pub listed_all : {k l : List ℕ} (i : ℕ) → length numbers ≤ i → Listed numbers i k l → Laid 14 (rectangle_bytes numbers) k l
  listed_all i h f = rw (take_all i numbers h) at f.bytes

-- ---- the whole header
pub header_size : (s : Shot) (total : ℕ) → length (header s total) ≡ 14 + 2 * length s.rectangles
unfolding sizes
header_size s total =
    let fixed = fixed_fields s total in
    rw (laid-append fixed (rectangle_fields s.rectangles), length-append) (omega (arith, laid-length fixed, rectangles_length s.rectangles))

headed : {l m : List ℕ} (s : Shot) (total : ℕ) → Laid 0 (header s total) l m → Headed s total l m
headed s total f =
    let n : length (header s total) ≡ 14 + 2 * length s.rectangles = header_size s total in
    record {
      len = f.len;
      front = λ i h. let e : 0 + i ≡ i = omega arith in rw e at (f.inside i (omega arith));
      rest = λ i h. f.behind i (omega arith);
    }

-- its fields, one after the other
module _ (s : Shot) (total : ℕ) where
  pub header_laid : {a b c d e f g h i j k : List ℕ} → Laid 0 (bytes_of 4 (total - 4)) a b → Laid 4 (bytes_of 1 1) b c → Laid 5 (bytes_of 1 s.kernel) c d → Laid 6 (bytes_of 1 s.levels) d e
      → Laid 7 (bytes_of 1 s.depth) e f → Laid 8 (bytes_of 2 s.width) f g → Laid 10 (bytes_of 2 s.height) g h → Laid 12 (bytes_of 1 (length s.rectangles / 4)) h i
      → Laid 13 (bytes_of 1 s.planes) i j → Laid 14 (rectangle_bytes s.rectangles) j k → Headed s total a k
  unfolding laid
  header_laid all version kernel levels depth width height count planes rectangles =
      headed s total (laid_field _ _ 0 4 refl all (laid_field _ _ 4 5 refl version (laid_field _ _ 5 6 refl kernel (laid_field _ _ 6 7 refl levels (laid_field _ _ 7 8 refl depth
      (laid_field _ _ 8 10 refl width (laid_field _ _ 10 12 refl height (laid_field _ _ 12 13 refl count (laid_field _ _ 13 14 refl planes rectangles)))))))))
