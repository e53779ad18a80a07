-- `spop::spop_value_len` meets its contract: the record is the lent numbers.
use mathlib.Core.Path.{ap, ◌∙◌}
use Rattle.types.specs.Value.{Record}
use Rattle.types.specs.Form.{value_answer, length_of}
use Rattle.spop.specs.Values.{record_in}
use Rattle.spop.proofs.spop_value_len.Goals as goal

pub returns : goal.returns
returns c = c.value_len.ensures ∙ ap (λ (v : Record). length_of (value_answer c.args.buffer.now v)) (ap record_in c.from.ensures)
