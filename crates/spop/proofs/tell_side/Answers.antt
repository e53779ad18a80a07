-- `spop::tell_side` meets its contract: each case of the reader's answer is told as it is.
use mathlib.Core.Path.{sym, ap, ◌∙◌}
use Rattle.parser.specs.Promise.{frame_said}
use Rattle.spop.proofs.Telling.{head_done, head_stopped}
use Rattle.spop.proofs.tell_side.Goals as goal

pub returns-in-Ok : goal.returns-in-Ok
returns-in-Ok c x e =
    let a = c.args in
    head_done a.side a.head.now x _ _ _ (ap frame_said (sym c.in-Ok.is) ∙ e) c.head_numbers.ensures

pub returns-in-Err : goal.returns-in-Err
returns-in-Err c x e =
    let a = c.args in
    head_stopped a.side a.head.now x _ (ap frame_said (sym c.in-Err.is) ∙ e) c.tell_stop.ensures
