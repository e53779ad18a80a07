-- `spop::spop_negotiate_max_frame_size` meets its contract: each case of the answer is told as it is.
use mathlib.Core.Path.{sym, ap, ◌∙◌}
use Rattle.answer.specs.Writes.{said}
use Rattle.spop.proofs.Telling.{told_done, told_refused}
use Rattle.spop.proofs.spop_negotiate_max_frame_size.Goals as goal

pub returns-in-Ok : goal.returns-in-Ok
returns-in-Ok c = (told_done (λ n. n) tt (sym c.negotiate_max_frame_size.ensures ∙ ap said c.in-Ok.is)).0

pub returns-in-Err : goal.returns-in-Err
returns-in-Err c =
    (told_refused (λ n. n) tt (sym c.negotiate_max_frame_size.ensures ∙ ap said c.in-Err.is) c.refuse.ensures).0
