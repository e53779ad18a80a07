-- `types::write::put_many` meets its contract. The loop's invariant: the bytes are partly written, and what is left to write are those
-- from `at` on. The last block starts no further than that.
use lib.ListN.{drop}
use Rattle.answer.proofs.Output.{Partly}
use Rattle.types.proofs.write.put_many.Given as goal

abbrev pub invariant-loop-at : goal.invariant-loop-at
invariant-loop-at l = Partly l.bytes l.initial.out l.at (drop l.at l.bytes) l.out
