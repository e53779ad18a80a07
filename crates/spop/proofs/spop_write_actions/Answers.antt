-- `spop::spop_write_actions` meets its contract: what the writer answers is told, and what it leaves is left.
use Rattle.spop.proofs.Telling.{left_writes}
use Rattle.spop.proofs.spop_write_actions.Goals as goal

pub returns : goal.returns
returns c = left_writes c.write_actions-answer.ensures c.tell.ensures
