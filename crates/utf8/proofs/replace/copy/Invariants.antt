-- `utf8::replace::copy` meets its contract. The loop's invariant: the bytes are partly written, and what is left to write are those from `i`
-- on.
use Rattle.std.proofs.Common.{drop}
use Rattle.answer.proofs.Output.{Partly}
use Rattle.utf8.proofs.replace.copy.Given as goal

abbrev pub invariant-loop-i : goal.invariant-loop-i
invariant-loop-i l = Partly l.s l.initial.out l.i (drop l.i l.s) l.out
