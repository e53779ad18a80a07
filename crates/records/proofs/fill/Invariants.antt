-- `records::fill` meets its contract: the pairs that were met stand at the front of their table and the messages in theirs, and what is left comes to the whole
-- payload, which is accepted.
use Rattle.std.proofs.Common.{◌≡◌, ◌-◌, List, ◌++◌, length, drop}
use Rattle.frame.specs.declared.Pair.{Pair}
use Rattle.records.proofs.Meeting.{Meets}
use Rattle.records.proofs.fill.Given as goal

abbrev pub invariant-loop-pair : goal.invariant-loop-pair
invariant-loop-pair l =
    (ps : List Pair) × Meets l.input l.kind l.start l.initial.messages (length l.initial.pairs) l.x l.messages ps × (l.pairs ≡ ps ++ drop (length ps) l.initial.pairs)

abbrev pub decreases-loop-pair : goal.decreases-loop-pair
decreases-loop-pair l = length l.input - l.x.at
