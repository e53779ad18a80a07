-- `utf8::equal::surely_same` meets its contract. The loop's invariant: the bytes up to `at` are the same.
use Rattle.std.proofs.Common.{◌≡◌, ◌-◌, take}
use Rattle.utf8.proofs.equal.surely_same.Given as goal

abbrev pub invariant-loop-at : goal.invariant-loop-at
invariant-loop-at l = take l.at l.a ≡ take l.at l.b

abbrev pub decreases-loop-at : goal.decreases-loop-at
decreases-loop-at l = l.last - l.at
