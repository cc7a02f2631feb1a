-- The parts of the reader: what only inner contracts and proofs cite.
--
--   Taken l k h    == the header h of the stream l passed its tests, and k is its kernel
--   Masked ..      == what is known of a call once the mask is drawn
--   Found f ..     == the answer of the body, and what the buffers then hold, where f is the number of the first test that holds, 0 if none does
--   Answered f ..  == the same of the answer with its header
--
-- Assumes nothing: these are definitions.
use Rattle.std.specs.Prelude.{◌≡◌, false, List, ℕ, ℤ, pos, length, Result, IfOk}
use Rattle.kernel.specs.declared.Kernel.{Kernel}
use Rattle.kernel.specs.Kernels.{the_kernel}
use Rattle.refusal.specs.Numbers.{first}
use Rattle.refusal.specs.Tests.{bad_size}
use Rattle.refusal.specs.declared.Refusal.{Refusal}
use Rattle.header.specs.Header.{bad_header, bad_version}
use Rattle.header.specs.Fields.{shot_of}
use Rattle.shot.specs.Shots.{shot_mask}
use Rattle.codestream.specs.Stream.{area}
use Rattle.codestream.specs.Reading.{plane_of, bad_planes, header_tests, numbers_under, held_under}
use Rattle.header_reader.specs.declared.Header.{Header}
use Rattle.header_reader.specs.Answers.{header_for}
use Rattle.decoder.specs.declared.Body.{Body}
use Rattle.decoder.specs.declared.Reading.{Reading}
use Rattle.decoder.specs.Answers.{found_in, numbers_of}

pub record Taken (l : List ℕ) (k : Kernel) (h : Header) : Type 0 where
  pub tests : first (header_tests l) ≡ 0
  pub kernel : k ≡ the_kernel (shot_of l).kernel
  pub header : h ≡ header_for (shot_of l)

pub record Masked (l : List ℕ) (plane : List ℤ) (mask : List ℕ) (T : ℕ) : Type 0 where
  pub header : bad_header l ≡ false
  pub version : bad_version l ≡ false
  pub planes : T ≡ (shot_of l).planes
  pub few : bad_planes T ≡ false
  pub size : bad_size (shot_of l).width (shot_of l).height ≡ false
  pub full : length plane ≡ area (shot_of l)
  pub mask_is : mask ≡ shot_mask (shot_of l)

pub record Found (f : ℕ) (l : List ℕ) (plane plane' : List ℤ) (mask mask' : List ℕ) (r : Result Body Refusal) : Type 0 where
  pub numbers : found_in r ≡ numbers_under f l
  pub plane_held : plane' ≡ held_under (pos 0) f (plane_of l) plane
  pub mask_held : mask' ≡ held_under 0 f (shot_mask (shot_of l)) mask

pub record Answered (f : ℕ) (l : List ℕ) (plane plane' : List ℤ) (mask mask' : List ℕ) (r : Result Reading Refusal) : Type 0 where
  pub numbers : numbers_of r ≡ numbers_under f l
  pub header : IfOk r (λ a. a.header ≡ header_for (shot_of l))
  pub plane_held : plane' ≡ held_under (pos 0) f (plane_of l) plane
  pub mask_held : mask' ≡ held_under 0 f (shot_mask (shot_of l)) mask
