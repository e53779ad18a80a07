-- `types::check::check_string` meets its contract: the range first, and then the text of the part that lies inside.
use Prim.Native.Nat.{◌+◌, ◌≤◌}
use mathlib.Core.Path.{◌≡◌, sym, ap, ◌∙◌}
use mathlib.Core.Bool.{true}
use native.Mathlib.Omega.{arith}
use lib.ListN.{length}
use borrow.Author.Tests.{not-true, not-false, leb-true}
use Rattle.utf8.specs.Text.{is_utf8}
use Rattle.types.specs.Form.{inside, part}
use Rattle.types.proofs.Writing.{part_lent}
use Rattle.types.proofs.Checking.{string_outside, string_ill, string_well}
use Rattle.types.proofs.check.check_string.Goals as goal
use Rattle.types.proofs.check.check_string.Goals.{After-is_utf8, Else-not-part_inside}

-- past the first test the part lies inside
within : (c : Else-not-part_inside) → let a = c.args in inside a.buffer.now a.start a.len ≡ true
within c = sym c.part_inside.ensures ∙ not-false _ c.if-not-part_inside.false-raw

range : (c : Else-not-part_inside) → let a = c.args in a.start + a.len ≤ length a.buffer.now
range c = let a = c.args in leb-true (a.start + a.len) (length a.buffer.now) (within c)

-- and the second is of that part
tested : (c : After-is_utf8) → let a = c.args in c.is_utf8.result ≡ is_utf8 (part a.buffer.now a.start a.len)
tested c = let a = c.args in
    c.is_utf8.ensures ∙ ap is_utf8 (part_lent a.buffer.now a.start a.len)

pub returns-then-not-part_inside : goal.returns-then-not-part_inside
returns-then-not-part_inside c = let a = c.args in
    sym (string_outside a.buffer.now a.start a.len (sym c.part_inside.ensures ∙ not-true _ c.if-not-part_inside.true-raw))

pub overflow_add-to : goal.overflow_add-to
overflow_add-to c = omega (arith, range ((goal.at.overflow_add-to c).Else-not-part_inside), c.well_formed)

pub slice_bounds-is_utf8-end : goal.slice_bounds-is_utf8-end
slice_bounds-is_utf8-end c = range ((goal.at.slice_bounds-is_utf8-end c).Else-not-part_inside)

pub returns-then-not-is_utf8 : goal.returns-then-not-is_utf8
returns-then-not-is_utf8 c = let a = c.args in
    sym (string_ill a.buffer.now a.start a.len (within ((goal.at.returns-then-not-is_utf8 c).Else-not-part_inside)) (sym (tested ((goal.at.returns-then-not-is_utf8 c).After-is_utf8)) ∙ not-true _ c.if-not-is_utf8.true-raw))

pub returns : goal.returns
returns c = let a = c.args in
    sym (string_well a.buffer.now a.start a.len (within ((goal.at.returns c).Else-not-part_inside)) (sym (tested ((goal.at.returns c).After-is_utf8)) ∙ not-false _ c.if-not-is_utf8.false-raw))
