-- `types::read::typed_data` meets its contract: there is no type byte, or its low half says who reads what follows.
use Rattle.std.proofs.Common.{refl, sym, ap, ◌∙◌, ◌%◌, arith}
use borrow.Author.Tests.{eq-eqb, ne_eqb}
use Rattle.answer.specs.Writes.{refusal_said}
use Rattle.answer.proofs.Cases.{found}
use Rattle.types.proofs.Reading.{typed_empty, typed_front}
use Rattle.types.proofs.Shapes.{numbered_bit}
use Rattle.types.proofs.read.typed_data.Goals as goal

pub returns-in_default : goal.returns-in_default
returns-in_default c = ap refusal_said c.at.ensures ∙ sym (typed_empty _ (omega (arith, c.in_default.ensures.item.3)))

pub read_number-requires : goal.read_number-requires
read_number-requires c =
    let byte = found c.args.input.now 0 c.in-Some.ensures.item.3 refl in
    record { input_nonzero = byte.here; kind_value = sym (numbered_bit (c.in-Some.field-0.now % 16) (omega arith)) ∙ eq-eqb _ _ c.if-kind-eq1.true }

pub returns-then-kind-eq1 : goal.returns-then-kind-eq1
returns-then-kind-eq1 c =
    let byte = found c.args.input.now 0 c.in-Some.ensures.item.3 refl in
    c.read_number.ensures ∙ sym (typed_front _ byte)

pub read_other-requires : goal.read_other-requires
read_other-requires c =
    let byte = found c.args.input.now 0 c.in-Some.ensures.item.3 refl in
    record { input_nonzero = byte.here; kind_value = sym (numbered_bit (c.in-Some.field-0.now % 16) (omega arith)) ∙ ne_eqb _ _ c.if-kind-eq1.false }

pub returns : goal.returns
returns c =
    let byte = found c.args.input.now 0 c.in-Some.ensures.item.3 refl in
    c.read_other.ensures ∙ sym (typed_front _ byte)
