-- `showing::bad_level` tests the level against the stream's. Assumes nothing.
use mathlib.Core.Path.{◌≡◌, sym, ap, ◌∙◌}
use mathlib.Core.Bool.{false}
use mathlib.Core.List.{List}
use Prim.Native.Nat.{ℕ}
use native.Mathlib.Omega.{arith}
use borrow.Author.Tests.{le-leb, lt-leb}
use lib.Dec.{ltb}
use Rattle.refusal.specs.Tests.{bad_kernel, bad_levels}
use Rattle.header.specs.Header.{bad_header, bad_version}
use Rattle.header.specs.Fields.{shot_of}
use Rattle.showing.proofs.Fronts.{header_before, version_before, kernel_before, levels_before, none_before}
use Rattle.showing.proofs.bad_level.Goals as goal

pub returns-then-bad_header : goal.returns-then-bad_header
returns-then-bad_header c = let L : List ℕ = c.args.stream.now in
    let R : ℕ = c.args.r in
    header_before L R (sym c.bad_header.ensures ∙ c.if-bad_header.true)

pub returns-then-bad_version : goal.returns-then-bad_version
returns-then-bad_version c = let L : List ℕ = c.args.stream.now in
    let R : ℕ = c.args.r in
    let good : bad_header L ≡ false = sym c.bad_header.ensures ∙ c.if-bad_header.false in
    version_before L R good (sym c.bad_version.ensures ∙ c.if-bad_version.true)

pub returns-then-one_byte-gt3 : goal.returns-then-one_byte-gt3
returns-then-one_byte-gt3 c = let L : List ℕ = c.args.stream.now in
    let R : ℕ = c.args.r in
    let good : bad_header L ≡ false = sym c.bad_header.ensures ∙ c.if-bad_header.false in
    let version : bad_version L ≡ false = sym c.bad_version.ensures ∙ c.if-bad_version.false in
    kernel_before L R good version (ap bad_kernel (sym c.one_byte.ensures.value) ∙ le-leb 4 c.one_byte.result (omega (arith, c.if-one_byte-gt3.true)))

pub returns-then-bad_levels : goal.returns-then-bad_levels
returns-then-bad_levels c = let L : List ℕ = c.args.stream.now in
    let R : ℕ = c.args.r in
    let good : bad_header L ≡ false = sym c.bad_header.ensures ∙ c.if-bad_header.false in
    let version : bad_version L ≡ false = sym c.bad_version.ensures ∙ c.if-bad_version.false in
    let kernel : bad_kernel (shot_of L).kernel ≡ false = ap bad_kernel (sym c.one_byte.ensures.value) ∙ lt-leb 4 c.one_byte.result (omega (arith, c.if-one_byte-gt3.false)) in
    let levels : bad_levels c.one_byte-levels.result ≡ bad_levels (shot_of L).levels = ap bad_levels c.one_byte-levels.ensures.value in
    levels_before L R good version kernel (sym levels ∙ sym c.bad_levels.ensures ∙ c.if-bad_levels.true)

pub returns : goal.returns
returns c = let L : List ℕ = c.args.stream.now in
    let R : ℕ = c.args.r in
    let good : bad_header L ≡ false = sym c.bad_header.ensures ∙ c.if-bad_header.false in
    let version : bad_version L ≡ false = sym c.bad_version.ensures ∙ c.if-bad_version.false in
    let kernel : bad_kernel (shot_of L).kernel ≡ false = ap bad_kernel (sym c.one_byte.ensures.value) ∙ lt-leb 4 c.one_byte.result (omega (arith, c.if-one_byte-gt3.false)) in
    let levels : bad_levels c.one_byte-levels.result ≡ bad_levels (shot_of L).levels = ap bad_levels c.one_byte-levels.ensures.value in
    c.bad_level.ensures ∙ ap (λ (n : ℕ). ltb n R) c.one_byte-levels.ensures.value
    ∙ none_before L R good version kernel (sym levels ∙ sym c.bad_levels.ensures ∙ c.if-bad_levels.false)
