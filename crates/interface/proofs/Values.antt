-- The result numbers of an answer. Assumes nothing.
use mathlib.Core.Path.{◌≡◌, refl, sym, ap, ◌∙◌}
use mathlib.Core.Bool.{Bool, true, false}
use mathlib.Core.List.{List, [], ◌∷◌}
use Prim.Native.Nat.{ℕ, ◌+◌, ◌-◌}
use lib.Dec.{eqb}
use lib.ListN.{length, get_or, length-drop}
use mir.Val.{bool_byte}
use Rattle.line.specs.Cells.{choose, listed}
use Rattle.line.proofs.Lists.{listed-length, is_listed}
use Rattle.std.specs.Prelude.{Ok, Err, IfOk, Result as Answer}
use Rattle.refusal.specs.Numbers.{refusal_number, answer_number, first}
use Rattle.refusal.specs.declared.Refusal.{Refusal}
use Rattle.refusal.proofs.Named.{named}
use Rattle.refusal.proofs.Ordered.{passes_test}
use Rattle.header.specs.Header.{front_length, bad_header, body_tests}
use Rattle.header.specs.Fields.{Shot, shot_of}
use Rattle.header.specs.Answers as arriving
use Rattle.brightness.specs.Answers as measuring
use Rattle.brightness.specs.declared.Figures.{Figures}
use Rattle.encoder.specs.Answers as writing
use Rattle.encoder.specs.declared.Lengths.{Lengths}
use Rattle.cutter.specs.Answers as cutting
use Rattle.codestream.specs.Reading.{Numbers, numbers_under, shot_under}
use Rattle.header_reader.specs.Answers.{header_for}
use Rattle.decoder.specs.Answers.{is_whole, place_of, found_in, numbers_of}
use Rattle.decoder.specs.declared.Reading.{Reading}
use Rattle.decoder.specs.declared.Body.{Body}
use Rattle.header_reader.specs.declared.Header.{Header}
use Rattle.interface.specs.Inner.{header_in}
use Rattle.interface.specs.Results.{GivenAt, Given, body_numbers, header_numbers, shot_results, read_results, body_results}
use Rattle.interface.proofs.Giving.{given_eq, given_both}

byte_is : (b : Bool) → bool_byte b ≡ choose b 1 0
byte_is true = refl
byte_is false = refl

pub found_values : (b : Body) → (b.marks ∷ bool_byte (is_whole b.region_mark) ∷ place_of b.region_mark ∷ b.missing ∷ []) ≡ body_numbers (found_in (Ok b))
found_values b = rw (byte_is (is_whole b.region_mark)) refl

-- ---- the refusal of an answer is that of its numbers
pub written : (a : Answer Lengths Refusal) → answer_number a ≡ (writing.numbers_of a).refusal
written (Ok n) = refl
written (Err r) = refl

pub read : (a : Answer Reading Refusal) → answer_number a ≡ (numbers_of a).refusal
read (Ok n) = refl
read (Err r) = refl

pub cut : (a : Answer ℕ Refusal) → answer_number a ≡ (cutting.numbers_of a).refusal
cut (Ok n) = refl
cut (Err r) = refl

pub arrived : (a : Answer ℕ Refusal) → answer_number a ≡ (arriving.numbers_of a).refusal
arrived (Ok n) = refl
arrived (Err r) = refl

pub measured : (a : Answer Figures Refusal) → answer_number a ≡ (measuring.numbers_of a).refusal
measured (Ok n) = refl
measured (Err r) = refl

-- ---- the header of an answer
pub header_under : (f : ℕ) (l : List ℕ) (a : Answer Reading Refusal) → numbers_of a ≡ numbers_under f l → IfOk a (λ x. x.header ≡ header_for (shot_of l)) → header_in a ≡ header_for (shot_under f l)
header_under f l (Ok x) e h = let z : 0 ≡ f = ap (λ (n : Numbers). n.refusal) e in rw (← z) h
header_under f l (Err r) e h = let z : refusal_number r ≡ f = ap (λ (n : Numbers). n.refusal) e in rw (← z, named r) refl

-- ---- the body's part
pub no_body : (l : List ℕ) → eqb (first (body_tests l)) 0 ≡ false → 0 ∷ 0 ∷ [] ≡ body_results l
no_body l e = rw e refl

pub body_values : (l : List ℕ) (n : ℕ) → n ≡ front_length l → first (body_tests l) ≡ 0 → n ∷ (length l - n) ∷ [] ≡ body_results l
body_values l n e f = rw (f, e, length-drop (front_length l) l) refl

pub body_good : (l : List ℕ) → first (body_tests l) ≡ 0 → bad_header l ≡ false
body_good l e = (passes_test (bad_header l) 11 _ (ap (λ (x : ℕ). eqb x 0) e)).0

-- ---- a header, and what was read with it
pub header_values : {at : ℕ} {w x l m n : List ℕ} {h : Header} (s : Shot) → h ≡ header_for s → w ≡ h.kernel ∷ h.levels ∷ h.depth ∷ h.width ∷ h.height ∷ h.planes ∷ h.count ∷ []
    → x ≡ listed 128 (λ i. get_or h.rectangles i 0) → GivenAt at w l m → GivenAt (at + 7) x m n → GivenAt at (shot_results s) l n
header_values {at} {w} {x} s f i g q r =
    let y : w ≡ header_numbers s = i ∙ ap (λ (z : Header). z.kernel ∷ z.levels ∷ z.depth ∷ z.width ∷ z.height ∷ z.planes ∷ z.count ∷ []) f in
    let c = listed 128 (λ i. get_or s.rectangles i 0) in
    let z : x ≡ c = g ∙ ap (λ (z : Header). listed 128 (λ i. get_or z.rectangles i 0)) f ∙ sym (is_listed 128 (λ i. get_or c i 0) 0 c (listed-length 128 (λ i. get_or s.rectangles i 0)) (λ i h. refl)) in
    given_both refl (given_eq y q) (given_eq z r)

pub read_values : {v l m n : List ℕ} (a : Numbers) (s : Shot) → v ≡ body_numbers a → GivenAt 0 v l m → GivenAt 4 (shot_results s) m n → Given (read_results a s) l n
read_values a s e p q = given_both refl (given_eq e p) q
