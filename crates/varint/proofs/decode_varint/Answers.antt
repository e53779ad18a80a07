-- `varint::decode_varint` meets its contract: there is no first byte, it is the number, or `decode_more` reads on.
use Rattle.std.proofs.Common.{◌∙◌, sym, ap, arith}
use Rattle.answer.specs.Writes.{refusal_said}
use Rattle.answer.proofs.Cases.{found}
use Rattle.varint.proofs.Reading.{decoded}
use Rattle.varint.proofs.Next.{begins_none, begins_one, begins_on}
use Rattle.varint.proofs.decode_varint.Goals as goal

pub returns-in_default : goal.returns-in_default
returns-in_default c = decoded _ _ (λ i h. omega (arith, c.type_inv.input i)) (ap refusal_said c.at.ensures ∙ sym (begins_none _ c.in_default.ensures.item.3))

pub returns-then-first-ge240 : goal.returns-then-first-ge240
returns-then-first-ge240 c =
    let byte = found c.args.input.now 0 c.in-Some.ensures.item.3 (sym c.from.ensures) in
    decoded _ _ (λ i h. omega (arith, c.type_inv.input i)) (c.decode_more.ensures ∙ sym (begins_on _ _ byte (omega arith)))

pub returns : goal.returns
returns c =
    let byte = found c.args.input.now 0 c.in-Some.ensures.item.3 (sym c.from-2.ensures) in
    decoded _ _ (λ i h. omega (arith, c.type_inv.input i)) (sym (begins_one _ _ byte (omega arith)))
