-- `payload::fill::put` meets its contract: one number after the other.
use lib.ListN.{drop}
use Rattle.answer.proofs.Output.{Partly}
use Rattle.payload.proofs.fill.put.Given as goal

abbrev pub invariant-loop-i : goal.invariant-loop-i
invariant-loop-i l = Partly l.numbers l.initial.table l.i (drop l.i l.numbers) l.table
