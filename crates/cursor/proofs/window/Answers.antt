-- `cursor::window` gathers the bits of 8 bytes. Assumes nothing.
use mathlib.Core.Path.{◌∙◌}
use native.Mathlib.Omega.{arith}
use Rattle.cursor.proofs.Windows.{eight_bytes}
use Rattle.cursor.proofs.window.Goals as goal

pub returns : goal.returns
returns c = c.from_be_bytes.ensures ∙ omega (arith, eight_bytes c.args.body.now c.args.k (λ i. (c.type_inv.body i).fits))
