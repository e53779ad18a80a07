-- `payload::pair::moved_value` meets its contract: only kinds 6 to 9 point.
use native.Mathlib.Omega.{arith}
use Rattle.types.proofs.Shapes.{points_no, points_yes, points_reserved}
use Rattle.payload.proofs.pair.moved_value.Goals as goal

pub returns-then-kind-lt6 : goal.returns-then-kind-lt6
returns-then-kind-lt6 c = rw (points_no _ c.if-kind-lt6.true)

pub returns-then-kind-ge10 : goal.returns-then-kind-ge10
returns-then-kind-ge10 c = rw (points_reserved _ c.if-kind-ge10.true)

pub overflow_add-result : goal.overflow_add-result
overflow_add-result c = omega (arith, c.requires c.if-kind-lt6.false c.if-kind-ge10.false)

pub returns : goal.returns
returns c = rw (points_yes _ c.if-kind-lt6.false c.if-kind-ge10.false)
