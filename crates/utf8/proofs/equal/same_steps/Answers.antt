use Rattle.std.proofs.Common.{sym, ap₂, ◌∙◌, arith, refl}
use borrow.Author.Tests.{eqb-true}
use Rattle.utf8.specs.Text.{same_text}
use Rattle.utf8.proofs.Lossy.{empty}
use Rattle.utf8.proofs.Walk.{same_text_none}
use Rattle.utf8.proofs.equal.same_steps.Goals as goal

pub returns : goal.returns
returns c =
    let ended = empty c.loop-a.a.now (omega (arith, eqb-true _ _ (sym c.is_empty.ensures ∙ c.loop-a-test.false))) in
    sym (c.loop-a.invariant ∙ ap₂ same_text ended refl ∙ same_text_none c.loop-a.b.now ∙ sym c.is_empty-2.ensures)
