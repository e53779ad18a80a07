-- `utf8::well::all_fit` meets its contract: the first bytes fit, those in blocks and in the last block do, and none is wanted at the end.
-- A no promises nothing.
use Rattle.std.proofs.Common.{◌≡◌, ◌+◌, ◌-◌, ℕ, length, arith}
use mathlib.Core.Path.{subst}
use Rattle.answer.proofs.Output.{lent_tail_lem}
use Rattle.utf8.specs.Inner.{FitTo}
use Rattle.utf8.proofs.Fitting.{fit_on, fit_well}
use Rattle.utf8.proofs.well.all_fit.Goals as goal

pub returns-then-blocks_fit : goal.returns-then-blocks_fit
returns-then-blocks_fit c = λ t.
    let s = c.args.s.now in
    let long = c.if-s-lt19.false in
    let last = length s - 19 in
    let all : last + 16 ≡ length s - 3 = omega arith in
    fit_well s (omega arith)
    (c.first_fit.ensures c.if-not-first_fit.false)
    (c.ends_whole.ensures c.if-not-ends_whole.false)
    (subst (λ (n : ℕ). FitTo s n) all (fit_on s last 16 (c.blocks_fit.ensures c.if-blocks_fit.true) (rw (lent_tail_lem last s) at (c.block_fits.ensures t))))
