-- `writer::records::check_records` meets its contract: the loop checks and measures one record after the other.
use Rattle.writer.proofs.Checking.{Checking}
use Rattle.writer.proofs.records.check_records.Given as goal

abbrev pub invariant-loop-i : goal.invariant-loop-i
invariant-loop-i g l = Checking (g.R.Measure.checks l.list) (g.R.Measure.measured l.list) (g.R.Records.at l.list) l.most l.len l.i
