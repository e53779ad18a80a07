-- `utf8::equal::same_steps` meets its contract. The loop's invariant: the texts are the same exactly where what is left of them is.
use Rattle.std.proofs.Common.{◌≡◌, length}
use Rattle.utf8.specs.Text.{same_text}
use Rattle.utf8.proofs.equal.same_steps.Given as goal

abbrev pub invariant-loop-a : goal.invariant-loop-a
invariant-loop-a l = same_text l.fn.a l.fn.b ≡ same_text l.a l.b

abbrev pub decreases-loop-a : goal.decreases-loop-a
decreases-loop-a l = length l.a
