-- `types::read::address_len` meets its contract: 6 and 7 are the only kinds here, and each has its line.
use native.Mathlib.Omega.{arith}
use Rattle.types.proofs.Shapes.{shape_is, row}
use Rattle.types.proofs.read.address_len.Goals as goal

pub returns-then-kind-eq6 : goal.returns-then-kind-eq6
returns-then-kind-eq6 c = row 6 c.if-kind-eq6.true shape_is.6

pub returns-else-kind-eq6 : goal.returns-else-kind-eq6
returns-else-kind-eq6 c = row 7 (omega (arith, c.requires.0, c.if-kind-eq6.false)) shape_is.7
