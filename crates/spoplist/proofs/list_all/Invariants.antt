-- `spoplist::list_all` meets its contract. The loop's invariant: `at` lies within the input, no more frames were listed than bytes passed, and
-- the listing of the input stops where that of what is left does. The measure is what is left of the input.
use Rattle.std.proofs.Common.{◌-◌, ◌≤◌, length}
use Rattle.spoplist.specs.Inner.{side_in}
use Rattle.spoplist.proofs.Stopping.{Stopping}
use Rattle.spoplist.proofs.list_all.Given as goal

abbrev pub invariant-loop-at : goal.invariant-loop-at
invariant-loop-at g l =
    record {
      in_range : l.at ≤ length l.input;
      passed : l.index ≤ l.at;
      stopping : Stopping (side_in l.side) l.input l.at;
    }

abbrev pub decreases-loop-at : goal.decreases-loop-at
decreases-loop-at g l = length l.input - l.at
