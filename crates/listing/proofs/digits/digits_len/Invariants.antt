-- `listing::digits::digits_len` meets its contract. The loop's invariant: the digits counted and those of `rest` are one more than all.
use mathlib.Core.Path.{◌≡◌}
use Prim.Native.Nat.{◌+◌}
use lib.ListN.{length}
use Rattle.listing.specs.Digits.{decimal}
use Rattle.listing.proofs.digits.digits_len.Given as goal

abbrev pub invariant-loop-rest : goal.invariant-loop-rest
invariant-loop-rest l = l.len + length (decimal l.rest) ≡ length (decimal l.n) + 1

abbrev pub decreases-loop-rest : goal.decreases-loop-rest
decreases-loop-rest l = l.rest
