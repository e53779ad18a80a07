-- `spop::spop_same_text_plain` meets its contract: each case of the answer is told as it is, and the buffers are as the call left them.
use mathlib.Core.Path.{sym, ap, ◌∙◌}
use Rattle.plain.specs.Promise.{compared}
use Rattle.spop.proofs.Telling.{told_done, told_refused}
use Rattle.spop.proofs.spop_same_text_plain.Goals as goal

pub returns-in-Ok : goal.returns-in-Ok
returns-in-Ok c =
    let e = c.same_text_plain.ensures in
    let t = told_done (λ x. x) _ (sym e.says ∙ ap compared c.in-Ok.is) in
    record { told = t.0; value = t.1; texts = e.texts }

pub returns-in-Err : goal.returns-in-Err
returns-in-Err c =
    let e = c.same_text_plain.ensures in
    let t = told_refused (λ x. x) _ (sym e.says ∙ ap compared c.in-Err.is) c.refuse.ensures in
    record { told = t.0; value = t.1; texts = e.texts }
