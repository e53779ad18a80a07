-- `types::write::why_not` meets its contract: a value that has a written form is refused only where there is no room for it.
use mathlib.Core.Path.{◌≡◌, sym, ap, ◌∙◌}
use mathlib.Core.Bool.{true}
use mathlib.Core.List.{List}
use borrow.Author.Tests.{not-true, not-false}
use Rattle.answer.specs.Answer.{Answer, within, tells}
use Rattle.types.specs.Form.{value_bytes, writable_record, ranged}
use Rattle.types.specs.Promise.{record_of}
use Rattle.types.proofs.Writing.{value_some, form_unwritable, form_outside, form_whole}
use Rattle.types.proofs.Output.{told_short}
use Prim.Native.Nat.{ℕ}
use Rattle.types.proofs.write.why_not.Goals as goal
use Rattle.types.proofs.write.why_not.Goals.{Else-not-in_range, Else-not-writable}

-- what the tests say
fields : (c : Else-not-writable) → writable_record (record_of c.args.value) ≡ true
fields c = sym c.writable.ensures ∙ not-false _ c.if-not-writable.false-raw

range : (c : Else-not-in_range) → let a = c.args in ranged a.buffer.now (record_of a.value) ≡ true
range c = sym c.in_range.ensures ∙ not-false _ c.if-not-in_range.false-raw

pub returns-then-not-writable : goal.returns-then-not-writable
returns-then-not-writable c = λ room none. let a = c.args in
    ap (λ (x : Answer (List ℕ)). tells (within room x)) (form_unwritable a.buffer.now (record_of a.value) (sym c.writable.ensures ∙ not-true _ c.if-not-writable.true-raw))

pub returns-then-not-in_range : goal.returns-then-not-in_range
returns-then-not-in_range c = λ room none. let a = c.args in
    ap (λ (x : Answer (List ℕ)). tells (within room x))
    (form_outside a.buffer.now (record_of a.value) (fields ((goal.at.returns-then-not-in_range c).Else-not-writable)) (sym c.in_range.ensures ∙ not-true _ c.if-not-in_range.true-raw))

pub returns : goal.returns
returns c = λ room none. let a = c.args in
    let v = a.value in
    told_short (value_bytes a.buffer.now (record_of v)) room (form_whole a.buffer.now (record_of v) (fields ((goal.at.returns c).Else-not-writable)) (range ((goal.at.returns c).Else-not-in_range)))
    (value_some a.buffer.now v.kind v.a v.b v.flags (fields ((goal.at.returns c).Else-not-writable))) none
