-- `writer::kv::KvList::key_met` meets its contract: the loop compares the key with one earlier key after the other.
use Rattle.answer.proofs.Loops.{Seeking}
use Rattle.frame.specs.Records.{pair_at, same_key}
use Rattle.writer.proofs.kv.KvList.key_met.Given as goal

abbrev pub invariant-loop-j : goal.invariant-loop-j
invariant-loop-j l =
    Seeking (same_key l.self.pairs.buffer.now (pair_at l.self.pairs.table.now l.i)) (pair_at l.self.pairs.table.now) l.i l.j
