-- `types::write::write_value` meets its contract: `put_value` writes what is to be written, and where it counts nothing `why_not` says why.
use mathlib.Core.Path.{sym, ◌∙◌, ap, ◌∙◌}
use lib.ListN.{length}
use Rattle.answer.specs.Answer.{within}
use Rattle.answer.specs.Writes.{refusal_said}
use Rattle.types.specs.Form.{value_answer}
use Rattle.types.specs.Promise.{record_of}
use Rattle.types.proofs.Output.{told}
use Rattle.types.proofs.write.write_value.Goals as goal

pub returns-then-n-eq0 : goal.returns-then-n-eq0
returns-then-n-eq0 c = let a = c.args in
    let p = c.put_value-n.ensures in
    record { says = ap refusal_said c.at.ensures ∙ sym (c.why_not.ensures (length a.out.now) (sym p.counts ∙ c.if-n-eq0.true)); holds = p.holds }

pub returns : goal.returns
returns c = let a = c.args in
    let p = c.put_value-n.ensures in
    record { says = told (within (length a.out.now) (value_answer a.buffer.now (record_of a.value))) _ p.counts c.if-n-eq0.false; holds = p.holds }
