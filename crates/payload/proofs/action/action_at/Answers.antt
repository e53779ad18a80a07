-- `payload::action::action_at` meets its contract: what is read from the place on, with its starts moved by it and by its three first bytes.
use Rattle.std.proofs.Common.{◌∙◌, sym, ap, arith}
use Rattle.std.proofs.lemmas.Result.{err_from_is_err_and}
use Rattle.answer.specs.Answer.{refused}
use Rattle.answer.specs.Reason.{number_of}
use Rattle.answer.proofs.Answers.{at_done, at_refused, at_fits}
use Rattle.types.proofs.Shapes.{points_yes}
use Rattle.payload.specs.Action.{action}
use Rattle.payload.specs.Inner.{action_behind, variable_moved}
use Rattle.payload.proofs.Pairs.{moved_twice}
use Rattle.payload.proofs.Actions.{action_ends, action_moved, action_none_at, action_some_at}
use Rattle.payload.proofs.action.action_at.Goals as goal

pub behind-requires : goal.behind-requires
behind-requires c =
    let a = c.args in
    at_fits action_behind variable_moved action_moved action action_ends a.input.now a.at c.requires (omega (arith, c.well_formed)) c.read_action.result c.read_action.ensures

pub returns-in_err-action : goal.returns-in_err-action
returns-in_err-action c =
    let a = c.args in
    let p = err_from_is_err_and c.from_residual.result c.from_residual.ensures.1 in
    let o = at_refused action_behind variable_moved action_moved action action_ends a.input.now a.at c.requires (omega (arith, c.well_formed)) c.read_action.result c.read_action.ensures c.in_err-action.ensures in
    rw (p.1, p.2) (ap (refused (number_of c.in_err-action.field-0.0.reason)) o.2 ∙ sym (action_none_at a.input.now a.at c.requires _ _ o.1).0)

pub moved_pair-requires : goal.moved_pair-requires
moved_pair-requires c =
    let a = c.args in
    let o = at_done action_behind variable_moved action_moved action action_ends a.input.now a.at c.requires (omega (arith, c.well_formed)) c.read_action.result c.read_action.ensures c.in_ok-action.ensures in
    let i = (action_some_at a.input.now a.at c.requires _ _ o.1).1 in (
      omega (arith, i.name, i.most, c.requires, c.well_formed),
      λ h l. omega (arith, rw (points_yes _ h l) at (i.value h l), i.most, c.requires, c.well_formed),
    )

pub returns : goal.returns
returns c =
    let a = c.args in
    let o = at_done action_behind variable_moved action_moved action action_ends a.input.now a.at c.requires (omega (arith, c.well_formed)) c.read_action.result c.read_action.ensures c.in_ok-action.ensures in
    rw (c.moved_pair.ensures, sym (moved_twice a.at 3 c.in_ok-action.field-0.value.pair), o.2) (sym (action_some_at a.input.now a.at c.requires _ _ o.1).0)
