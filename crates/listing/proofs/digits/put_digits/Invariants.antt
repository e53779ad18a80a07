-- `listing::digits::put_digits` meets its contract. The loop's invariant: the digits behind the first `at` are written, and those are
-- the digits of `rest`.
use Rattle.listing.proofs.Decimal.{Backwards}
use Rattle.listing.proofs.digits.put_digits.Given as goal

abbrev pub invariant-loop-at : goal.invariant-loop-at
invariant-loop-at l = Backwards l.n l.initial.out l.at l.rest l.out
