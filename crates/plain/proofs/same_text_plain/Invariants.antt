-- `plain::same_text_plain` meets its contract: without room nothing is written, and else both texts stand in their buffers. The loop's
-- invariant: the texts are the same exactly where what is left of them is.
use Rattle.plain.proofs.Laws.{SameTo}
use Rattle.plain.proofs.same_text_plain.Given as goal

abbrev pub invariant-loop-i : goal.invariant-loop-i
invariant-loop-i l = SameTo l.a l.b l.i
