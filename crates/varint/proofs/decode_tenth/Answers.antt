-- `varint::decode_tenth` meets its contract: the byte is missing, has more than four bits, makes the sum too large, or is the last.
use Rattle.std.proofs.Common.{◌∙◌, sym, ap, refl, arith}
use Rattle.answer.specs.Writes.{refusal_said}
use Rattle.answer.proofs.Cases.{found}
use Rattle.varint.proofs.Next.{ends_here, high, over, last}
use Rattle.varint.proofs.decode_tenth.Goals as goal

pub returns-in_default : goal.returns-in_default
returns-in_default c = ap refusal_said c.at.ensures ∙ sym (ends_here _ _ _ c.in_default.ensures.lookup.3)

pub returns-then-byte-gt15 : goal.returns-then-byte-gt15
returns-then-byte-gt15 c =
    let byte = found c.args.input.now 9 c.in-Some.ensures.lookup.3 c.in-Some.byte-is in
    ap refusal_said c.at-then-byte-gt15.ensures ∙ sym (high _ _ _ _ byte refl (omega arith))

pub returns-then-sum-addend : goal.returns-then-sum-addend
returns-then-sum-addend c =
    let byte = found c.args.input.now 9 c.in-Some.ensures.lookup.3 (sym c.from-addend.ensures) in
    ap refusal_said c.at-then-sum-addend.ensures ∙ sym (over _ _ _ _ byte (λ e. omega arith) (omega arith) (omega arith))

pub returns : goal.returns
returns c =
    let byte = found c.args.input.now 9 c.in-Some.ensures.lookup.3 (sym c.from-addend.ensures) in
    sym (last _ _ _ _ byte (λ e. omega arith) (omega arith) (omega arith) (omega arith))
