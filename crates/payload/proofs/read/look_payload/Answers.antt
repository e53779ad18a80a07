-- `payload::read::look_payload` meets its contract: 3 where it starts behind the bytes, and else what the pass comes to.
use mathlib.Core.Path.{◌≡◌, sym, ap, ◌∙◌}
use mathlib.Core.List.{List}
use Prim.Native.Nat.{ℕ}
use Rattle.answer.specs.Writes.{refusal_said}
use Rattle.payload.specs.declared.Counts.{Counts}
use Rattle.payload.specs.declared.Payload.{Payload}
use Rattle.payload.specs.Payload.{payload}
use Rattle.payload.specs.Promise.{payload_tells}
use Rattle.payload.proofs.Fitting.{behind_tells}
use Rattle.payload.proofs.read.look_payload.Goals as goal

pub returns-then-input-start : goal.returns-then-input-start
returns-then-input-start c = ap refusal_said c.at.ensures ∙ behind_tells _ _ _ _ c.if-input-start.true

-- each kind has its own copy of the pass
of_kind : (rooms : Counts) (start : ℕ) (s : List ℕ) {kind q : Payload} → kind ≡ q → payload_tells (payload kind rooms start s) ≡ payload_tells (payload q rooms start s)
of_kind rooms start s e = ap (λ (z : Payload). payload_tells (payload z rooms start s)) e

pub returns-in-KvList : goal.returns-in-KvList
returns-in-KvList c = c.answered.ensures ∙ c.look.ensures.says ∙ of_kind _ _ _ (sym c.in-KvList.is)

pub returns-in-Messages : goal.returns-in-Messages
returns-in-Messages c = c.answered-in-Messages.ensures ∙ c.look-in-Messages.ensures.says ∙ of_kind _ _ _ (sym c.in-Messages.is)

pub returns-in-Actions : goal.returns-in-Actions
returns-in-Actions c = c.answered-in-Actions.ensures ∙ c.look-in-Actions.ensures.says ∙ of_kind _ _ _ (sym c.in-Actions.is)
