-- `payload::action::read_unset` meets its contract: what is read behind the three bytes.
use Rattle.std.proofs.Common.{◌≡◌, ◌∙◌, sym, ap, arith}
use Rattle.std.proofs.lemmas.Result.{err_from_is_err_and}
use Rattle.answer.specs.Answer.{refused}
use Rattle.answer.specs.Reason.{number_of}
use Rattle.answer.specs.Writes.{read_said}
use Rattle.answer.proofs.Answers.{at_done, at_refused, at_fits, itself}
use Rattle.types.specs.Value.{string}
use Rattle.types.proofs.Reading.{string_ends}
use Rattle.types.proofs.Unique.{value_numbers_unique}
use Rattle.payload.proofs.Actions.{name_refused, name_done}
use Rattle.payload.proofs.action.read_unset.Goals as goal

pub behind-requires : goal.behind-requires
behind-requires c =
    at_fits read_said (λ x. x) itself string string_ends c.args.input.now 3 c.requires.long (omega (arith, c.well_formed)) c.read_string.result c.read_string.ensures

pub returns-in_err-name : goal.returns-in_err-name
returns-in_err-name c =
    let s = c.args.input.now in
    let p = err_from_is_err_and c.from_residual.result c.from_residual.ensures.1 in
    let o = at_refused read_said (λ x. x) itself string string_ends s 3 c.requires.long (omega (arith, c.well_formed)) c.read_string.result c.read_string.ensures c.in_err-name.ensures in
    rw (p.1, p.2) (ap (refused (number_of c.in_err-name.field-0.0.reason)) o.2 ∙ sym (name_refused s _ c.requires _ _ o.1))

pub returns : goal.returns
returns c =
    let s = c.args.input.now in
    let o = at_done read_said (λ x. x) itself string string_ends s 3 c.requires.long (omega (arith, c.well_formed)) c.read_string.result c.read_string.ensures c.in_ok-name.ensures in
    let e = c.default.ensures in
    let zero : c.default.result ≡ record { kind = 0; a = 0; b = 0; flags = 0 } = value_numbers_unique _ _ (cc (e.0, e.1.0, e.1.1.0, e.1.1.1)) in
    rw (zero, o.2) (sym (name_done s _ c.requires _ _ _ o.1))
