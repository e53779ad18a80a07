-- `types::sign_extend` meets its contract: the two cases of `sign_extended`, by the test.
use mathlib.Core.Path.{sym}
use Rattle.types.proofs.Shapes.{signed_plus, signed_minus}
use Rattle.types.proofs.sign_extend.Goals as goal

pub returns-then-low-lt2147483648 : goal.returns-then-low-lt2147483648
returns-then-low-lt2147483648 c = sym (signed_plus _ c.if-low-lt2147483648.true)

pub returns : goal.returns
returns c = sym (signed_minus _ c.if-low-lt2147483648.false)
