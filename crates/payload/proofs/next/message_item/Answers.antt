-- `payload::next::message_item` meets its contract: the name's own refusal, 3 at the count byte, or the message.
use Rattle.std.proofs.Common.{◌≡◌, ◌∙◌, sym, ap, arith, ◌+◌}
use Rattle.std.proofs.lemmas.Result.{err_from_is_err_and}
use Rattle.answer.specs.Answer.{done, refused}
use Rattle.answer.specs.Reason.{number_of}
use Rattle.answer.specs.Writes.{refusal_said, read_said}
use Rattle.answer.proofs.Answers.{at_done, at_refused, at_fits, itself}
use Rattle.answer.specs.Answer.{behind}
use Rattle.answer.proofs.Cases.{found}
use Rattle.types.specs.Value.{span, string}
use Rattle.types.proofs.Reading.{string_accepted, string_ends}
use Rattle.payload.specs.declared.Item.TheVariants as i
use Rattle.payload.specs.Payload.{moved_span}
use Rattle.payload.specs.Item.{item_of}
use Rattle.payload.proofs.Steps.{name_refused, count_missing, count_there}
use Rattle.payload.proofs.next.message_item.Goals as goal

pub behind-requires : goal.behind-requires
behind-requires c =
    let a = c.args in
    at_fits read_said (λ x. x) itself string string_ends a.input.now a.at c.requires (omega (arith, c.well_formed)) c.read_string.result c.read_string.ensures

pub returns-in_err-name : goal.returns-in_err-name
returns-in_err-name c =
    let a = c.args in
    let p = err_from_is_err_and c.from_residual.result c.from_residual.ensures.1 in
    let o = at_refused read_said (λ x. x) itself string string_ends a.input.now a.at c.requires (omega (arith, c.well_formed)) c.read_string.result c.read_string.ensures c.in_err-name.ensures in
    rw (p.1, p.2) (ap (refused (number_of c.in_err-name.field-0.0.reason)) o.2 ∙ ap (item_of i.Message) (sym (name_refused a.first a.at a.input.now _ _ (ap (behind moved_span a.at) o.1))))

pub returns-in_default : goal.returns-in_default
returns-in_default c =
    let a = c.args in
    let o = at_done read_said (λ x. x) itself string string_ends a.input.now a.at c.requires (omega (arith, c.well_formed)) c.read_string.result c.read_string.ensures c.in_ok-name.ensures in
    let end : a.at + o.0 ≡ c.in_ok-name.field-0.used = sym o.2 in
    ap refusal_said c.at.ensures
    ∙ ap (item_of i.Message) (sym (count_missing a.first a.at a.input.now _ _ (ap (behind moved_span a.at) o.1 ∙ ap (done (span (a.at + c.in_ok-name.field-0.value.start) c.in_ok-name.field-0.value.len)) end) c.in_default.ensures.lookup.3))

pub overflow_add-result : goal.overflow_add-result
overflow_add-result c =
    let a = c.args in
    let o = at_done read_said (λ x. x) itself string string_ends a.input.now a.at c.requires (omega (arith, c.well_formed)) c.read_string.result c.read_string.ensures c.in_ok-name.ensures in
    omega (arith, string_accepted _ _ _ _ o.1, o.2, o.3, c.well_formed)

pub returns : goal.returns
returns c =
    let a = c.args in
    let o = at_done read_said (λ x. x) itself string string_ends a.input.now a.at c.requires (omega (arith, c.well_formed)) c.read_string.result c.read_string.ensures c.in_ok-name.ensures in
    let end : a.at + o.0 ≡ c.in_ok-name.field-0.used = sym o.2 in
    let byte = found a.input.now c.in_ok-name.field-0.used c.in-Some.ensures.lookup.3 (sym c.from.ensures) in
    ap (λ n. item_of i.Message (done (record { start = a.at + c.in_ok-name.field-0.value.start; len = c.in_ok-name.field-0.value.len; first = a.first; count = n }) (c.in_ok-name.field-0.used + 1))) (byte.is 0)
    ∙ ap (item_of i.Message) (sym (count_there a.first a.at a.input.now _ _ (ap (behind moved_span a.at) o.1 ∙ ap (done (span (a.at + c.in_ok-name.field-0.value.start) c.in_ok-name.field-0.value.len)) end) byte.here))
