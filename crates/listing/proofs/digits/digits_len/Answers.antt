use native.Mathlib.Omega.{arith}
use Rattle.listing.proofs.Decimal.{length_on, length_last, decimal_most, decimal_some}
use Rattle.listing.proofs.digits.digits_len.Goals as goal

pub overflow_add-len : goal.overflow_add-len
overflow_add-len c = omega (arith, decimal_most c.args.n c.ranges.n.fits, decimal_some c.loop-rest.rest)

pub loop-rest-preserved : goal.loop-rest-preserved
loop-rest-preserved c = omega (arith, length_on c.loop-rest.rest c.loop-rest-test.true)

pub returns : goal.returns
returns c = omega (arith, length_last c.loop-rest.rest c.loop-rest-test.false)
