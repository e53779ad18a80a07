-- `types::read::integer_value` meets its contract: the number is narrowed.
use mathlib.Core.Path.{ap}
use Prim.Native.Nat.{ℕ}
use Rattle.answer.specs.Answer.{done}
use Rattle.types.specs.Value.{value}
use Rattle.types.proofs.read.integer_value.Goals as goal

pub returns : goal.returns
returns c = λ w row. let a = c.args in ap (λ (x : ℕ). done (value a.kind x 0 a.flags) a.used) (c.narrow.ensures w row)
