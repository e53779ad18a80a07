-- `spop::spop_check_value` meets its contract: the record is the lent numbers.
use mathlib.Core.Path.{ap, ◌∙◌}
use Rattle.answer.specs.Order.{in_order}
use Rattle.types.specs.Value.{Record}
use Rattle.types.specs.Check.{value_checks}
use Rattle.spop.specs.Values.{record_in}
use Rattle.spop.proofs.spop_check_value.Goals as goal

pub returns-in-Ok : goal.returns-in-Ok
returns-in-Ok c = c.in-Ok.ensures ∙ ap (λ (v : Record). in_order (value_checks c.args.buffer.now v) 0) (ap record_in c.from.ensures)

pub returns-in-Err : goal.returns-in-Err
returns-in-Err c = c.into.ensures ∙ c.in-Err.ensures ∙ ap (λ (v : Record). in_order (value_checks c.args.buffer.now v) 0) (ap record_in c.from.ensures)
