-- `writer::records::put_records` meets its contract: the loop writes one record after the other, each into the tail behind the one before.
use Rattle.answer.proofs.Loops.{Putting}
use Rattle.writer.proofs.records.put_records.Given as goal

abbrev pub invariant-loop-i : goal.invariant-loop-i
invariant-loop-i g l = Putting (g.R.Put.bytes l.list) (g.R.Records.at l.list) l.from l.to l.initial.out l.i l.at l.out
