-- No refusal has the number 0, and only 11 has a needed length. Assumes nothing.
use mathlib.Core.Path.{◌≡◌, refl, sym}
use mathlib.Core.Bool.{false, false≢true}
use lib.Dec.{eqb}
use Rattle.refusal.specs.Numbers.{refusal_number, needed_length}
use Rattle.refusal.specs.declared.Refusal.{Refusal}
use Rattle.refusal.specs.declared.Refusal.TheVariants.{Kernel, Levels, Depth, Size, Length, Sample, Numbers, Rectangle, Mark, Magnitude, Room, Header, Version, Planes, Cut, Filling, Level, NoSample}

pub named : (r : Refusal) → eqb (refusal_number r) 0 ≡ false
named Kernel = refl
named Levels = refl
named Depth = refl
named Size = refl
named Length = refl
named Sample = refl
named Numbers = refl
named Rectangle = refl
named Mark = refl
named Magnitude = refl
named (Room n) = refl
named Header = refl
named Version = refl
named Planes = refl
named Cut = refl
named Filling = refl
named Level = refl
named NoSample = refl

pub none_needed : (r : Refusal) → eqb (refusal_number r) 11 ≡ false → needed_length r ≡ 0
none_needed Kernel e = refl
none_needed Levels e = refl
none_needed Depth e = refl
none_needed Size e = refl
none_needed Length e = refl
none_needed Sample e = refl
none_needed Numbers e = refl
none_needed Rectangle e = refl
none_needed Mark e = refl
none_needed Magnitude e = refl
none_needed (Room n) e = absurd (false≢true (sym e))
none_needed Header e = refl
none_needed Version e = refl
none_needed Planes e = refl
none_needed Cut e = refl
none_needed Filling e = refl
none_needed Level e = refl
none_needed NoSample e = refl
