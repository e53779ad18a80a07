-- `utf8::rows::front_step` meets its contract: there is no byte, the first is ASCII, or its row decides, if it has one.
use Rattle.std.proofs.Common.{◌≡◌, sym, ap, ◌∙◌, arith}
use borrow.Author.Tests.{ltb-true}
use Rattle.utf8.specs.Text.{step}
use Rattle.utf8.specs.Inner.{led_by}
use Rattle.utf8.proofs.Stepping.{step_behind, step_for_lem, step_ends, step_ascii_front}
use Rattle.utf8.proofs.rows.front_step.Goals as goal
use Rattle.utf8.proofs.rows.front_step.Goals.{After-lead_row}

which : (c : After-lead_row) → step c.args.s.now ≡ step_behind (led_by c.lead_row.result) c.args.s.now
which c =
    step_for_lem _ c.in-Some.field-0.now c.in-Some.ensures.item.3.0 (sym (c.in-Some.ensures.item.3.1 0))
    ∙ ap (λ x. step_behind x c.args.s.now) (sym c.lead_row.ensures)

pub returns-in_default : goal.returns-in_default
returns-in_default c = let h = rw c.in_default.is at c.first.ensures.item in sym (step_ends _ (omega (arith, h.3)))

pub returns-then-is_ascii : goal.returns-then-is_ascii
returns-then-is_ascii c = let h = c.in-Some.ensures.item.3 in sym (step_ascii_front _ h.0 (rw (sym (h.1 0)) (ltb-true _ _ (sym c.is_ascii.ensures ∙ c.if-is_ascii.true))))

pub returns-in-Some-lead_row : goal.returns-in-Some-lead_row
returns-in-Some-lead_row c = c.step_on.ensures ∙ sym (rw c.in-Some-lead_row.is at (which ((goal.at.returns-in-Some-lead_row c).After-lead_row)))

pub returns-in-None : goal.returns-in-None
returns-in-None c = sym (rw c.in-None.is at (which ((goal.at.returns-in-None c).After-lead_row)))
