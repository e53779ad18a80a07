-- `types::read::read_string` meets its contract: each answer is what `string` gives for what the number reader answered.
use Rattle.std.proofs.Common.{◌∙◌, sym, ap, arith}
use Rattle.std.proofs.lemmas.Result.{err_from_is_err_and}
use Rattle.answer.specs.Writes.{refusal_said}
use Rattle.varint.proofs.Reading.{accepted}
use Rattle.types.proofs.Reading.{string_refused, string_whole, string_short}
use Rattle.types.proofs.read.read_string.Goals as goal

pub returns-in_err-n : goal.returns-in_err-n
returns-in_err-n c =
    let p = err_from_is_err_and c.from_residual.result c.from_residual.ensures.1 in
    rw (p.1, p.2) (sym (string_refused c.args.input.now _ _ (sym c.in_err-n.ensures.says)))

pub overflow_sub-input : goal.overflow_sub-input
overflow_sub-input c = (accepted _ _ _ (sym c.in_ok-n.ensures.says)).2

pub returns-then-input-used : goal.returns-then-input-used
returns-then-input-used c =
    let read = sym c.in_ok-n.ensures.says in
    ap refusal_said c.at.ensures ∙ sym (string_short c.args.input.now _ _ read (omega (arith, accepted c.args.input.now _ _ read)))

pub returns : goal.returns
returns c =
    let read = sym c.in_ok-n.ensures.says in
    sym (string_whole c.args.input.now _ _ read (omega (arith, accepted c.args.input.now _ _ read)))
