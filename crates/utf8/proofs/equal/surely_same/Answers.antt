use Rattle.std.proofs.Common.{◌≡◌, true, ◌-◌, ℕ, Bool, List, length, take, drop, sym, ◌∙◌, arith}
use Rattle.answer.proofs.Output.{lent_tail_lem}
use Rattle.utf8.specs.Text.{same_bytes}
use Rattle.utf8.proofs.Walk.{equal_on, equal_less, equal_all}
use Rattle.utf8.proofs.equal.surely_same.Goals as goal

-- eight more, as the call was told of the bytes that it was lent
eight : (s t : List ℕ) (at : ℕ) {told : Bool} → told ≡ same_bytes (take 8 (take (length s - at) (drop at s))) (take 8 (take (length t - at) (drop at t))) → told ≡ true → same_bytes (take 8 (drop at s)) (take 8 (drop at t)) ≡ true
eight s t at is e = rw (lent_tail_lem at s, lent_tail_lem at t) at (sym is ∙ e)

pub loop-at-preserved : goal.loop-at-preserved
loop-at-preserved c = equal_on _ _ c.loop-at.at c.loop-at.invariant (eight _ _ c.loop-at.at c.all_same.ensures c.if-not-all_same.false)

pub returns : goal.returns
returns c = λ e.
    let a = c.args.a.now in
    let b = c.args.b.now in
    let last = length a - 8 in
    equal_all a b last (equal_less a b c.loop-at.at c.loop-at.invariant last c.loop-at-test.false) (omega arith) (omega arith) (eight a b last c.all_same-2.ensures e)
