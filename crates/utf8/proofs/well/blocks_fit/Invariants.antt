-- `utf8::well::blocks_fit` meets its contract. The loop's invariant: the bytes up to `at` fit. Each turn adds a block that was tested.
use Rattle.utf8.specs.Inner.{FitTo}
use Rattle.utf8.proofs.well.blocks_fit.Given as goal

abbrev pub invariant-loop-at : goal.invariant-loop-at
invariant-loop-at l = FitTo l.s l.at
