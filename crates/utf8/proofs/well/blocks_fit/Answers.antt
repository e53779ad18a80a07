use Rattle.std.proofs.Common.{◌+◌, arith}
use Rattle.answer.proofs.Output.{lent_tail_lem}
use Rattle.utf8.specs.Inner.{FitTo}
use Rattle.utf8.proofs.Fitting.{fit_on}
use Rattle.utf8.proofs.well.blocks_fit.Goals as goal
use Rattle.utf8.proofs.well.blocks_fit.Goals.{Else-not-block_fits}

-- one block more
more : (c : Else-not-block_fits) → FitTo c.args.s.now (c.loop-at.at + 16)
more c = fit_on c.args.s.now c.loop-at.at 16 c.loop-at.invariant (rw (lent_tail_lem c.loop-at.at c.args.s.now) at (c.block_fits.ensures c.if-not-block_fits.false))

pub loop-at-preserved : goal.loop-at-preserved
loop-at-preserved c = more ((goal.at.loop-at-preserved c).Else-not-block_fits)

pub returns-else-not-block_fits : goal.returns-else-not-block_fits
returns-else-not-block_fits c = λ t i h. more ((goal.at.returns-else-not-block_fits c).Else-not-block_fits) i (omega (arith, c.if-last-at-gt16.false))
