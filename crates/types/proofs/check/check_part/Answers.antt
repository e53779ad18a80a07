-- `types::check::check_part` meets its contract: a string by its range and text, any other by its range.
use mathlib.Core.Path.{sym, ◌∙◌}
use borrow.Author.Tests.{not-true, not-false}
use Rattle.types.proofs.Checking.{part_string, part_outside, part_within}
use Rattle.types.proofs.check.check_part.Goals as goal

pub returns-then-value-eq8 : goal.returns-then-value-eq8
returns-then-value-eq8 c = let a = c.args in
    let v = a.value in
    c.check_string.ensures ∙ sym (part_string a.buffer.now v.kind v.a v.b v.flags c.if-value-eq8.true)

pub returns-then-not-in_range : goal.returns-then-not-in_range
returns-then-not-in_range c = let a = c.args in
    let v = a.value in
    sym (part_outside a.buffer.now v.kind v.a v.b v.flags (sym c.in_range.ensures ∙ not-true _ c.if-not-in_range.true-raw))

pub returns : goal.returns
returns c = let a = c.args in
    let v = a.value in
    sym (part_within a.buffer.now v.kind v.a v.b v.flags c.if-value-eq8.false (sym c.in_range.ensures ∙ not-false _ c.if-not-in_range.false-raw))
