-- `types::check::check_value` meets its contract: the fields first, and then the part.
use mathlib.Core.Path.{sym, ◌∙◌}
use borrow.Author.Tests.{not-true, not-false}
use Rattle.types.specs.Promise.{record_of}
use Rattle.types.proofs.Checking.{value_fields, value_part}
use Rattle.types.proofs.check.check_value.Goals as goal

pub returns-then-not-writable : goal.returns-then-not-writable
returns-then-not-writable c = let a = c.args in
    sym (value_fields a.buffer.now (record_of a.value) (sym c.writable.ensures ∙ not-true _ c.if-not-writable.true-raw))

pub returns : goal.returns
returns c = let a = c.args in
    c.check_part.ensures
    ∙ sym (value_part a.buffer.now (record_of a.value) (sym c.writable.ensures ∙ not-false _ c.if-not-writable.false-raw))
