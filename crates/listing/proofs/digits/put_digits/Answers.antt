use Rattle.listing.proofs.Decimal.{backwards_none, backwards_on, backwards_all}
use Rattle.listing.proofs.digits.put_digits.Goals as goal

pub loop-at-init : goal.loop-at-init
loop-at-init c = backwards_none _ _ _ c.requires c.digits_len-len.ensures

pub loop-at-preserved : goal.loop-at-preserved
loop-at-preserved c = rw c.glyph.ensures (backwards_on _ c.loop-at.invariant c.loop-at-test.true)

pub returns : goal.returns
returns c = backwards_all _ _ c.loop-at.invariant c.digits_len-len.ensures c.loop-at-test.false
