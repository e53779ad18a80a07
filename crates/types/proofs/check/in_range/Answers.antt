-- `types::check::in_range` meets its contract: kinds 6 to 9 point, and the others are in range as they are.
use Rattle.std.proofs.Common.{◌∙◌, arith}
use Rattle.types.proofs.Shapes.{points_no, points_yes, points_reserved}
use Rattle.types.proofs.check.in_range.Goals as goal

pub returns-in-6-to-9 : goal.returns-in-6-to-9
returns-in-6-to-9 c = c.part_inside.ensures ∙ rw (points_yes c.args.value.kind (omega arith) (omega arith))

pub returns-in_default : goal.returns-in_default
returns-in_default c = rw (points_no c.args.value.kind (omega arith))

pub returns-in_default-2 : goal.returns-in_default-2
returns-in_default-2 c = rw (points_reserved c.args.value.kind (omega arith))
