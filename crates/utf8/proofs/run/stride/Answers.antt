-- `utf8::run::stride` meets its contract: ASCII is a well-formed text, and a step goes on.
use Rattle.utf8.proofs.Ascii.{ascii_well}
use Rattle.utf8.proofs.Advance.{step_advances, text_advances}
use Rattle.utf8.proofs.run.stride.Goals as goal

pub returns-then-n-gt0 : goal.returns-then-n-gt0
returns-then-n-gt0 c = let a = c.ascii_front-n.ensures in text_advances _ _ c.if-n-gt0.true a.there (ascii_well _ a.are)

pub returns : goal.returns
returns c = rw c.front_step.ensures (step_advances _)
