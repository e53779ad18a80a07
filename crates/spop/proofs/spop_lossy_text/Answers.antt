-- `spop::spop_lossy_text` meets its contract: what the writer answers is told, and what it leaves is left.
use Rattle.spop.proofs.Telling.{left_writes}
use Rattle.spop.proofs.spop_lossy_text.Goals as goal

pub returns : goal.returns
returns c = left_writes c.lossy_text-answer.ensures c.tell.ensures
