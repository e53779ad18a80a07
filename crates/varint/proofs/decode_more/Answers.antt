use Rattle.std.proofs.Common.{◌∙◌, ◌<◌, sym, ap, arith}
use Rattle.answer.specs.Writes.{refusal_said}
use Rattle.answer.proofs.Cases.{found}
use Rattle.varint.proofs.Next.{ends_here, last, on, byte_fits, sum_fits, next_below}
use Rattle.varint.proofs.decode_more.Goals as goal

pub returns-in_default : goal.returns-in_default
returns-in_default c = ap refusal_said c.at.ensures ∙ sym (c.loop-k.invariant.so_far ∙ ends_here _ _ _ c.in_default.ensures.lookup.3)

pub returns-then-byte-lt128 : goal.returns-then-byte-lt128
returns-then-byte-lt128 c =
    let byte = found c.args.input.now c.loop-k.k c.in-Some.ensures.lookup.3 (sym c.from.ensures) in
    let small : c.from.result < 256 = omega (arith, c.type_inv.input c.loop-k.k, byte.is 0) in
    let low = c.loop-k.invariant.below in
    sym
    (c.loop-k.invariant.so_far
    ∙ last _ _ _ _ byte (λ e. absurd (omega arith)) (byte_fits _ _ _ (omega arith) (omega arith) small low) (sum_fits _ _ _ (omega arith) (omega arith) small low) (omega arith))

pub loop-k-preserved : goal.loop-k-preserved
loop-k-preserved c =
    let byte = found c.args.input.now c.loop-k.k c.in-Some.ensures.lookup.3 (sym c.from.ensures) in
    let small : c.from.result < 256 = omega (arith, c.type_inv.input c.loop-k.k, byte.is 0) in
    let low = c.loop-k.invariant.below in
    record {
      so_far = c.loop-k.invariant.so_far ∙ on _ _ _ _ byte (λ e. absurd (omega arith)) (byte_fits _ _ _ (omega arith) (omega arith) small low) (sum_fits _ _ _ (omega arith) (omega arith) small low) (omega arith);
      below = next_below _ _ _ (omega arith) (omega arith) small low;
    }
