-- `utf8::well::block_fits` meets its contract. The loop's invariant: where `all` is true, the bytes so far fit.
use Rattle.std.proofs.Common.{◌≡◌, true}
use Rattle.utf8.specs.Inner.{FitTo}
use Rattle.utf8.proofs.well.block_fits.Given as goal

abbrev pub invariant-loop-i : goal.invariant-loop-i
invariant-loop-i l = l.all ≡ true → FitTo l.s l.i
