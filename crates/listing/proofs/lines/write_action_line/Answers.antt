-- `listing::lines::write_action_line` meets its contract: the action is refused, or its line is written, a set's or an unset's.
use mathlib.Core.Path.{sym}
use mathlib.Core.List.{◌∷◌}
use borrow.Author.Tests.{eq-eqb, ne_eqb}
use Rattle.answer.specs.Answer.{written}
use Rattle.answer.specs.Inner.{Passes}
use Rattle.answer.specs.Table.{joined}
use Rattle.answer.proofs.Order.{passes_zero, lines_pass}
use Rattle.listing.specs.Lines.{filled, action_line}
use Rattle.listing.specs.Check.{is_action, pair_line_checks}
use Rattle.listing.proofs.Pieces.{line_refused}
use Rattle.listing.proofs.lines.write_action_line.Goals as goal
use Rattle.listing.proofs.lines.write_action_line.Goals.{In_default}

passed : (c : In_default) → let a = c.args in Passes ((14, is_action a.action) ∷ pair_line_checks a.frame.now a.action.pair)
passed c = passes_zero _ tt (sym c.in_default.ensures)

pub returns-in-Err : goal.returns-in-Err
returns-in-Err c = line_refused _ _ _ c.in-Err.ensures c.at.ensures

pub part-name-requires : goal.part-name-requires
part-name-requires c = (passed ((goal.at.part-name-requires c).In_default)).1.1.0

pub value_text-requires : goal.value_text-requires
value_text-requires c = let p = passed ((goal.at.value_text-requires c).In_default) in record { fields = p.1.0; range = p.1.1.1.0 }

pub returns-then-action-eq-SET_VAR : goal.returns-then-action-eq-SET_VAR
unfolding joined filled action_line
returns-then-action-eq-SET_VAR c =
    let a = c.args in
    rw (lines_pass _ (passed ((goal.at.returns-then-action-eq-SET_VAR c).In_default)) 0 (written (action_line a.index a.frame.now a.action)), eq-eqb a.action.verb 1 c.if-action-eq-SET_VAR.true)
    (rw (c.part-name.ensures, c.value_text.ensures) at c.write_line.ensures)

pub returns : goal.returns
unfolding joined filled action_line
returns c =
    let a = c.args in
    rw (lines_pass _ (passed ((goal.at.returns c).In_default)) 0 (written (action_line a.index a.frame.now a.action)), ne_eqb a.action.verb 1 c.if-action-eq-SET_VAR.false)
    (rw c.part-name.ensures at c.write_line-2.ensures)
