-- `frame::read::cut` meets its contract: the lines of the cut, one after the other.
use mathlib.Core.Path.{sym, ap, ◌∙◌}
use Prim.Native.Nat.{ℕ, ◌+◌, ◌-◌}
use lib.ListN.{length, take}
use Rattle.answer.specs.Answer.{done}
use Rattle.answer.specs.Writes.{refusal_said}
use Rattle.frame.specs.Read.{wait, answered}
use Rattle.frame.proofs.Cutting.{cut_start, cut_over, cut_wait, cut_whole}
use Rattle.frame.proofs.read.cut.Goals as goal

pub returns-then-have-lt4 : goal.returns-then-have-lt4
returns-then-have-lt4 c = let a = c.args in sym (cut_start a.limit a.input.now c.if-have-lt4.true)

pub returns-then-limit-len : goal.returns-then-limit-len
returns-then-limit-len c =
    let a = c.args in
    ap (λ r. answered (refusal_said r)) c.at.ensures ∙ sym (cut_over a.limit a.input.now c.if-have-lt4.false (rw (sym c.four-len.ensures) c.if-limit-len.true))

pub returns-then-have-end : goal.returns-then-have-end
returns-then-have-end c =
    let a = c.args in
    ap (λ (n : ℕ). wait (4 + n - length a.input.now)) c.four-len.ensures
    ∙ sym (cut_wait a.limit a.input.now c.if-have-lt4.false (rw (sym c.four-len.ensures) c.if-limit-len.false) (rw (sym c.four-len.ensures) c.if-have-end.true))

pub returns : goal.returns
returns c =
    let a = c.args in
    ap (λ (n : ℕ). answered (done (take (4 + n) a.input.now) (4 + n))) c.four-len.ensures
    ∙ sym (cut_whole a.limit a.input.now c.if-have-lt4.false (rw (sym c.four-len.ensures) c.if-limit-len.false) (rw (sym c.four-len.ensures) c.if-have-end.false))
