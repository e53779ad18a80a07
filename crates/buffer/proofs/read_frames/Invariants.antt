-- `buffer::read_frames` meets its contract: each turn of the loop reads a frame into the tails behind what was read, and puts its row; what stops it ends the whole.
use mathlib.Core.Path.{◌≡◌}
use Rattle.buffer.proofs.Going.{Going}
use Rattle.buffer.proofs.read_frames.Given as goal

abbrev pub invariant-loop-row : goal.invariant-loop-row
invariant-loop-row l = record {
  counted : l.totals.frames ≡ l.row;
  going : Going l.input l.limit l.initial.rows l.initial.messages l.initial.pairs l.totals l.rows l.messages l.pairs;
}
