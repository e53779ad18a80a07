-- Each record passes or is the first that is refused.
use Rattle.std.proofs.Common.{length, arith}
use Rattle.writer.proofs.Capped.{capped_most}
use Rattle.writer.proofs.Checking.{checking_none, checking_small, checking_on, checking_here}
use Rattle.writer.proofs.records.check_records.Goals as goal

pub loop-i-init : goal.loop-i-init
loop-i-init g c = checking_none _ _ _ _

pub overflow_add-len : goal.overflow_add-len
overflow_add-len g c =
    let s = c.args.list.now in
    omega (arith, checking_small c.loop-i.invariant, c.in-Ok.ensures.1, capped_most c.args.most (length (g.R.Measure.measured s (g.R.Records.at s c.loop-i.i))), c.ranges)

pub returns-in-Err : goal.returns-in-Err
returns-in-Err g c = checking_here c.loop-i.invariant _ c.loop-i-test.true _ c.in-Err.ensures c.at.ensures

pub loop-i-preserved : goal.loop-i-preserved
loop-i-preserved g c = checking_on c.loop-i.invariant c.in-Ok.ensures.0 _ _ c.in-Ok.ensures.1 c.cap-len.ensures
