-- `spop::spop_read_pair` meets its contract: each case of the reader's answer is told as it is.
use mathlib.Core.Path.{sym, ap, ◌∙◌}
use Rattle.frame.specs.Records.{pair_numbers}
use Rattle.answer.specs.Writes.{read_said}
use Rattle.spop.proofs.Telling.{told_done, told_refused}
use Rattle.spop.proofs.spop_read_pair.Goals as goal

pub returns-in-Ok : goal.returns-in-Ok
returns-in-Ok c = rw c.into.ensures (told_done pair_numbers _ (sym c.read_pair.ensures ∙ ap read_said c.in-Ok.is))

pub returns-in-Err : goal.returns-in-Err
returns-in-Err c =
    told_refused pair_numbers _ (sym c.read_pair.ensures ∙ ap read_said c.in-Err.is) c.refuse.ensures
