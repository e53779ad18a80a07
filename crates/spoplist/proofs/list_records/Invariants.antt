-- `spoplist::list_records` meets its contract. The loop's measure: how many messages and pairs are left, of which each line takes one. Each of them has a line
-- that fits, so at no place is one refused.
use Rattle.std.proofs.Common.{◌≡◌, ◌+◌, ◌-◌, length}
use Rattle.spoplist.proofs.list_records.Given as goal

abbrev pub invariant-loop-line : goal.invariant-loop-line
invariant-loop-line g l = length l.out ≡ length l.initial.out

abbrev pub decreases-loop-line : goal.decreases-loop-line
decreases-loop-line g l = (l.counts.messages - l.place.messages) + (l.counts.pairs - l.place.pairs)
