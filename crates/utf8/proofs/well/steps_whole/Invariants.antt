-- `utf8::well::steps_whole` meets its contract. The loop's invariant: the whole is well-formed exactly where what is left of it is.
use Rattle.std.proofs.Common.{◌≡◌, length}
use Rattle.utf8.specs.Text.{is_utf8}
use Rattle.utf8.proofs.well.steps_whole.Given as goal

abbrev pub invariant-loop-bytes : goal.invariant-loop-bytes
invariant-loop-bytes l = is_utf8 l.fn.bytes ≡ is_utf8 l.bytes

abbrev pub decreases-loop-bytes : goal.decreases-loop-bytes
decreases-loop-bytes l = length l.bytes
