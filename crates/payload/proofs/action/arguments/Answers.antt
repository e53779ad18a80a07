-- `payload::action::arguments` meets its contract.
use borrow.Author.Tests.{eq-eqb, ne_eqb}
use Rattle.payload.proofs.action.arguments.Goals as goal

pub returns-then-verb-eq-SET_VAR : goal.returns-then-verb-eq-SET_VAR
returns-then-verb-eq-SET_VAR c = rw (eq-eqb _ _ c.if-verb-eq-SET_VAR.true)

pub returns-else-verb-eq-SET_VAR : goal.returns-else-verb-eq-SET_VAR
returns-else-verb-eq-SET_VAR c = rw (ne_eqb _ _ c.if-verb-eq-SET_VAR.false)
