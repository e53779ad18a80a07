-- `spop::spop_write_value` meets its contract: the record is the lent numbers, what the writer answers is told, and what it
-- leaves is left.
use mathlib.Core.Path.{ap, subst}
use mathlib.Core.List.{List}
use Prim.Native.Nat.{ℕ}
use Rattle.answer.specs.Answer.{Answer}
use Rattle.answer.specs.Writes.{Writes}
use Rattle.types.specs.Form.{value_answer}
use Rattle.spop.proofs.Telling.{left_writes}
use Rattle.spop.specs.Values.{record_in}
use Rattle.spop.proofs.spop_write_value.Goals as goal

pub returns : goal.returns
returns c =
    let a = c.args in
    let w =
    subst
    (λ (x : Answer (List ℕ)). Writes x c.write_value-answer.result a.out.now c.write_value-answer.new.out)
    (ap (value_answer a.buffer.now) (ap record_in c.from.ensures)) c.write_value-answer.ensures in
    left_writes w c.tell.ensures
