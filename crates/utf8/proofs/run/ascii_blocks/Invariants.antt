-- `utf8::run::ascii_blocks` meets its contract. The loop's invariant: the bytes so far are ASCII, and the blocks that are left start behind them.
use Rattle.std.proofs.Common.{◌≡◌, drop}
use Rattle.std.specs.Slice.Iter.{chunks_exact_rest, chunks_exact_size}
use Rattle.utf8.specs.Inner.{AsciiTo}
use Rattle.utf8.proofs.run.ascii_blocks.Given as goal

abbrev pub invariant-loop-block : goal.invariant-loop-block
invariant-loop-block g l = record {
  known : AsciiTo l.s l.at;
  left : chunks_exact_rest l.block-iterator ≡ drop l.at l.s;
  size : chunks_exact_size l.block-iterator ≡ g.row.N;
}
