-- `types::read::read_address` meets its contract: the address is too short or whole, by the test.
use mathlib.Core.Path.{ap, ◌∙◌}
use Rattle.answer.specs.Writes.{refusal_said}
use Rattle.types.proofs.Behind.{address_none, address_some}
use Rattle.types.proofs.read.read_address.Goals as goal

pub returns-then-input-len : goal.returns-then-input-len
returns-then-input-len c = ap refusal_said c.at.ensures ∙ address_none c.args.kind c.args.flags c.args.input.now c.args.len c.requires.kind_value c.if-input-len.true

pub returns : goal.returns
returns c = address_some c.args.kind c.args.flags c.args.input.now c.args.len c.requires.kind_value c.if-input-len.false
