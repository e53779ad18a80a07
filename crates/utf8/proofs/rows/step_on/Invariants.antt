-- `utf8::rows::step_on` meets its contract. The loop's invariant: the places that are filled are the `at` so far and those that are filled
-- from there on, of which there are as many as the row still has, the next as `allowed` says.
use Rattle.std.proofs.Common.{◌≡◌, suc, ◌+◌, ◌-◌, ◌≤◌, length, drop}
use Rattle.utf8.specs.Text.{follow, matching}
use Rattle.utf8.specs.Inner.{as_range}
use Rattle.utf8.proofs.rows.step_on.Given as goal

abbrev pub invariant-loop-at : goal.invariant-loop-at
invariant-loop-at l = record {
  filled : suc (matching (follow (l.bytes - 1) (as_range l.fn.second)) (drop 1 l.s)) ≡ l.at + matching (follow (l.bytes - l.at) (as_range l.allowed)) (drop l.at l.s);
  there : l.at ≤ length l.s;
  most : l.at ≤ suc (l.bytes - 1);
}
