-- `spop::spop_write_kv` meets its contract: what the writer answers is told, and what it leaves is left.
use Rattle.spop.proofs.Telling.{left_writes}
use Rattle.spop.proofs.spop_write_kv.Goals as goal

pub returns : goal.returns
returns c = left_writes c.write_kv-answer.ensures c.tell.ensures
