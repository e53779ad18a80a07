-- `spop::spop_encode_varint` meets its contract: what the writer answers is told, and what it leaves is left.
use Rattle.spop.proofs.Telling.{left_writes}
use Rattle.spop.proofs.spop_encode_varint.Goals as goal

pub returns : goal.returns
returns c = left_writes c.encode_varint-answer.ensures c.tell.ensures
