-- `decoder::read_headed` tests the buffers, draws the mask and reads the body. Assumes nothing.
use mathlib.Core.Path.{◌≡◌, refl, ap, ap₂, ◌∙◌}
use mathlib.Core.List.{List}
use Prim.Native.Nat.{ℕ, ◌*◌}
use native.Mathlib.Omega.{arith}
use lib.ListN.{length}
use borrow.Author.Rules.{rules}
use Rattle.refusal.specs.Numbers.{first}
use Rattle.refusal.proofs.Passed.{area}
use Rattle.header.specs.Fields.{shot_of}
use Rattle.codestream.specs.Reading.{bad_planes, buffer_tests, filling_test}
use Rattle.header_reader.specs.declared.Header.{Header}
use Rattle.decoder.proofs.Tests.{full_length, filling_only, Passed, passed}
use Rattle.decoder.proofs.Answered.{body_refused, body_done, few, room, sides, front_length, drawable, mask_drawn}
use Rattle.decoder.proofs.read_headed.Goals as goal

pub overflow_mul-w : goal.overflow_mul-w
overflow_mul-w c = let L : List ℕ = c.args.stream.now in
    area (sides L c.requires)

pub overflow_mul-n : goal.overflow_mul-n
overflow_mul-n c = let L : List ℕ = c.args.stream.now in
    omega (arith, few L c.requires)

pub slice_bounds-rectangles-end : goal.slice_bounds-rectangles-end
slice_bounds-rectangles-end c = let L : List ℕ = c.args.stream.now in
    omega (arith, few L c.requires, room L c.requires)

pub slice_bounds-draw_mask-end : goal.slice_bounds-draw_mask-end
slice_bounds-draw_mask-end c = let L : List ℕ = c.args.stream.now in
    front_length L c.requires refl

pub draw_mask-requires : goal.draw_mask-requires
draw_mask-requires c = let L : List ℕ = c.args.stream.now in
    drawable L c.requires refl (search rules)

pub read_masked-requires : goal.read_masked-requires
read_masked-requires c = let L : List ℕ = c.args.stream.now in
    let known : Passed L = passed L c.requires.tests in
    let width : c.args.headed.header.width ≡ (shot_of L).width = ap (λ (h : Header). h.width) c.requires.header in
    let height : c.args.headed.header.height ≡ (shot_of L).height = ap (λ (h : Header). h.height) c.requires.header in
    let planes : c.args.headed.header.planes ≡ (shot_of L).planes = ap (λ (h : Header). h.planes) c.requires.header in
    record {
      header = known.header;
      version = known.version;
      planes = planes;
      few = ap bad_planes planes ∙ known.planes;
      size = known.setting.size;
      full = search rules ∙ ap₂ (λ (a b : ℕ). a * b) width height;
      mask_is = c.draw_mask.ensures ∙ mask_drawn L c.requires refl;
    }

pub returns-in_err-body : goal.returns-in_err-body
returns-in_err-body c = let L : List ℕ = c.args.stream.now in
    let width : c.args.headed.header.width ≡ (shot_of L).width = ap (λ (h : Header). h.width) c.requires.header in
    let height : c.args.headed.header.height ≡ (shot_of L).height = ap (λ (h : Header). h.height) c.requires.header in
    let N : ℕ = length c.args.plane.now in
    let M : ℕ = length c.args.mask.now in
    let last : first (filling_test L) ≡ first (buffer_tests L N M) = filling_only L N M (full_length width height (search rules)) (full_length width height (search rules)) in
    let a = body_refused c.draw_mask.auto.mask last c.read_masked.ensures _ c.in_err-body.was in search rules

pub returns : goal.returns
returns c = let L : List ℕ = c.args.stream.now in
    let width : c.args.headed.header.width ≡ (shot_of L).width = ap (λ (h : Header). h.width) c.requires.header in
    let height : c.args.headed.header.height ≡ (shot_of L).height = ap (λ (h : Header). h.height) c.requires.header in
    let N : ℕ = length c.args.plane.now in
    let M : ℕ = length c.args.mask.now in
    let last : first (filling_test L) ≡ first (buffer_tests L N M) = filling_only L N M (full_length width height (search rules)) (full_length width height (search rules)) in
    body_done c.draw_mask.auto.mask last c.read_masked.ensures _ c.in_ok-body.was c.requires.header
