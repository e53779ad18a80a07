-- `walker::steps::step_at` meets its contract: the end, the pair's own refusal, or the pair.
use Rattle.std.proofs.Common.{◌∙◌, sym}
use Rattle.std.proofs.lemmas.Result.{err_from_is_err_and}
use Rattle.walker.proofs.Stepping.{step_end, step_is}
use Rattle.walker.proofs.steps.step_at.Goals as goal

pub returns-then-not-comes : goal.returns-then-not-comes
returns-then-not-comes c = sym (step_end _ _ (sym c.comes.ensures ∙ c.if-not-comes.true))

pub returns-in_err-pair : goal.returns-in_err-pair
returns-in_err-pair c =
    let p = err_from_is_err_and c.from_residual.result c.from_residual.ensures.1 in
    rw (p.1, p.2) (sym (step_is _ _ (sym c.comes.ensures ∙ c.if-not-comes.false) _ (sym c.in_err-pair.ensures)))

pub returns : goal.returns
returns c = rw c.behind.ensures (sym (step_is _ _ (sym c.comes.ensures ∙ c.if-not-comes.false) _ (sym c.in_ok-pair.ensures)))
