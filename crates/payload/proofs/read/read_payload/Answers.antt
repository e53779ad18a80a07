-- `payload::read::read_payload` meets its contract: 3 where it starts behind the bytes, and else each kind has its own copy of the passes.
use mathlib.Core.Path.{ap, ◌∙◌}
use Rattle.answer.specs.Writes.{refusal_said}
use Rattle.payload.proofs.Fitting.{behind_tells, behind_fills}
use Rattle.payload.proofs.read.read_payload.Goals as goal

pub returns-then-input-start : goal.returns-then-input-start
returns-then-input-start c =
    let h = c.if-input-start.true in
    record { says = ap refusal_said c.at.ensures ∙ behind_tells _ _ _ _ h; fills = behind_fills _ _ _ _ h _ _ _ }

pub returns-in-KvList : goal.returns-in-KvList
returns-in-KvList c = rw c.in-KvList.is c.read_within.ensures

pub returns-in-Messages : goal.returns-in-Messages
returns-in-Messages c = rw c.in-Messages.is c.read_within-in-Messages.ensures

pub returns-in-Actions : goal.returns-in-Actions
returns-in-Actions c = rw c.in-Actions.is c.read_within-in-Actions.ensures
