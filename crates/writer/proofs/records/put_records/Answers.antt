-- Each record finds its room, and at the end all are written.
use Rattle.std.proofs.Common.{arith}
use Rattle.answer.proofs.Loops.{putting_room, putting_on, putting_count, putting_all}
use Rattle.writer.proofs.records.put_records.Goals as goal

pub put-at-requires-clause-room : goal.put-at-requires-clause-room
put-at-requires-clause-room g c = putting_room c.loop-i.invariant c.loop-i-test.true

pub loop-i-preserved : goal.loop-i-preserved
loop-i-preserved g c = putting_on c.loop-i.invariant c.loop-i-test.true _ _ c.put-at.ensures.value c.put-at.ensures.out_after

pub returns-clause-value : goal.returns-clause-value
returns-clause-value g c = putting_count c.loop-i.invariant (omega (arith, c.loop-i-test.false))

pub returns-clause-out_after : goal.returns-clause-out_after
returns-clause-out_after g c = putting_all c.loop-i.invariant (omega (arith, c.loop-i-test.false))
