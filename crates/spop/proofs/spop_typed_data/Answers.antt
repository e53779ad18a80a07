-- `spop::spop_typed_data` meets its contract: each case of the reader's answer is told as it is.
use mathlib.Core.Path.{sym, ap, ◌∙◌}
use Rattle.types.specs.Promise.{value_said}
use Rattle.spop.proofs.Telling.{told_done, told_refused}
use Rattle.spop.specs.Values.{record_numbers}
use Rattle.spop.proofs.spop_typed_data.Goals as goal

pub returns-in-Ok : goal.returns-in-Ok
returns-in-Ok c = rw c.into.ensures (told_done record_numbers _ (sym c.typed_data.ensures ∙ ap value_said c.in-Ok.is))

pub returns-in-Err : goal.returns-in-Err
returns-in-Err c =
    told_refused record_numbers _ (sym c.typed_data.ensures ∙ ap value_said c.in-Err.is) c.refuse.ensures
