-- `payload::action::read_set` meets its contract: what is read behind the three bytes.
use Rattle.std.proofs.Common.{◌∙◌, sym, ap, arith}
use Rattle.std.proofs.lemmas.Result.{err_from_is_err_and}
use Rattle.answer.specs.Answer.{refused}
use Rattle.answer.specs.Reason.{number_of}
use Rattle.answer.specs.Writes.{read_said}
use Rattle.answer.proofs.Answers.{at_done, at_refused, at_fits, itself}
use Rattle.payload.specs.Pair.{pair}
use Rattle.payload.proofs.Pairs.{pair_ends}
use Rattle.payload.proofs.Actions.{set_refused, set_done}
use Rattle.payload.proofs.action.read_set.Goals as goal

pub behind-requires : goal.behind-requires
behind-requires c =
    at_fits read_said (λ x. x) itself pair pair_ends c.args.input.now 3 c.requires.long (omega (arith, c.well_formed)) c.read_pair.result c.read_pair.ensures

pub returns-in_err-pair : goal.returns-in_err-pair
returns-in_err-pair c =
    let s = c.args.input.now in
    let p = err_from_is_err_and c.from_residual.result c.from_residual.ensures.1 in
    let o = at_refused read_said (λ x. x) itself pair pair_ends s 3 c.requires.long (omega (arith, c.well_formed)) c.read_pair.result c.read_pair.ensures c.in_err-pair.ensures in
    rw (p.1, p.2) (ap (refused (number_of c.in_err-pair.field-0.0.reason)) o.2 ∙ sym (set_refused s _ c.requires _ _ o.1))

pub returns : goal.returns
returns c =
    let s = c.args.input.now in
    let o = at_done read_said (λ x. x) itself pair pair_ends s 3 c.requires.long (omega (arith, c.well_formed)) c.read_pair.result c.read_pair.ensures c.in_ok-pair.ensures in
    rw o.2 (sym (set_done s _ c.requires _ _ o.1))
