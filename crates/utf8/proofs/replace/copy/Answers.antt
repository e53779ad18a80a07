use Rattle.answer.proofs.Parts.{copy_next}
use Rattle.utf8.proofs.replace.copy.Goals as goal

pub loop-i-preserved : goal.loop-i-preserved
loop-i-preserved c = copy_next c.loop-i.invariant c.loop-i-test.true
