-- `utf8::replace::steps_room` meets its contract. The loop's invariant: the whole text has room exactly where what is left of it has room in
-- what is left of the room.
use Rattle.std.proofs.Common.{◌≡◌, leb, length}
use Rattle.utf8.specs.Text.{lossy}
use Rattle.utf8.proofs.replace.steps_room.Given as goal

abbrev pub invariant-loop-bytes : goal.invariant-loop-bytes
invariant-loop-bytes l = leb (length (lossy l.fn.bytes)) l.fn.room ≡ leb (length (lossy l.bytes)) l.room

abbrev pub decreases-loop-bytes : goal.decreases-loop-bytes
decreases-loop-bytes l = length l.bytes
