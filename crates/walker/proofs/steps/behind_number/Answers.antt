-- `walker::steps::behind_number` meets its contract.
use Rattle.std.proofs.Common.{sym, arith}
use Rattle.varint.proofs.Reading.{accepted}
use Rattle.walker.proofs.Stepping.{none_past}
use Rattle.walker.proofs.steps.behind_number.Goals as goal

pub returns-in_default : goal.returns-in_default
returns-in_default c = none_past _ _ (omega (arith, c.in_default.ensures.lookup.0))

pub overflow_add-result : goal.overflow_add-result
overflow_add-result c =
    omega (arith, (accepted _ _ _ (sym c.in-Ok.ensures.says)).1, (accepted _ _ _ (sym c.in-Ok.ensures.says)).2, c.in-Some.ensures.lookup.0.3, c.well_formed)
