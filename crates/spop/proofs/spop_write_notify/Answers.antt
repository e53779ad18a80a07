-- `spop::spop_write_notify` meets its contract: what the writer answers is told, and what it leaves is left.
use Rattle.spop.proofs.Telling.{left_writes}
use Rattle.spop.proofs.spop_write_notify.Goals as goal

pub returns : goal.returns
returns c = left_writes c.write_notify-answer.ensures c.tell.ensures
