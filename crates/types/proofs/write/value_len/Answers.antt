-- `types::write::value_len` meets its contract: past the two tests the value has its written form, and `form_len` says how long.
use mathlib.Core.Path.{◌≡◌, sym, ap, ◌∙◌}
use mathlib.Core.Bool.{true}
use native.Mathlib.Omega.{arith}
use lib.ListN.{length}
use borrow.Author.Tests.{not-true, not-false}
use Rattle.types.specs.Form.{part, writable_record, ranged, length_of}
use Rattle.types.specs.Promise.{record_of}
use Rattle.types.proofs.Writing.{value_bytes_lem, part_whole, part_small, form_unwritable, form_outside, form_whole}
use Rattle.types.proofs.write.value_len.Goals as goal
use Rattle.types.proofs.write.value_len.Goals.{Else-not-in_range, Else-not-writable}

-- what the tests say
fields : (c : Else-not-writable) → writable_record (record_of c.args.value) ≡ true
fields c = sym c.writable.ensures ∙ not-false _ c.if-not-writable.false-raw

range : (c : Else-not-in_range) → ranged c.args.buffer.now (record_of c.args.value) ≡ true
range c = sym c.in_range.ensures ∙ not-false _ c.if-not-in_range.false-raw

pub returns-then-not-writable : goal.returns-then-not-writable
returns-then-not-writable c = let a = c.args in
    sym (ap length_of (form_unwritable a.buffer.now (record_of a.value) (sym c.writable.ensures ∙ not-true _ c.if-not-writable.true-raw)))

pub returns-then-not-in_range : goal.returns-then-not-in_range
returns-then-not-in_range c = let a = c.args in
    sym (ap length_of (form_outside a.buffer.now (record_of a.value) (fields ((goal.at.returns-then-not-in_range c).Else-not-writable)) (sym c.in_range.ensures ∙ not-true _ c.if-not-in_range.true-raw)))

pub form_len-requires : goal.form_len-requires
form_len-requires c =
    let v = c.args.value in record { value_value = fields ((goal.at.form_len-requires c).Else-not-writable); b_bound = part_small c.args.buffer.now v.kind v.a v.b v.flags (fields ((goal.at.form_len-requires c).Else-not-writable)) (range ((goal.at.form_len-requires c).Else-not-in_range)) (omega (arith, c.well_formed)) }

pub returns : goal.returns
returns c = let a = c.args in
    let v = a.value in
    c.form_len.ensures (part a.buffer.now v.a v.b) (part_whole a.buffer.now v.kind v.a v.b v.flags (fields ((goal.at.returns c).Else-not-writable)) (range ((goal.at.returns c).Else-not-in_range)))
    ∙ sym (ap length_of (form_whole a.buffer.now (record_of v) (fields ((goal.at.returns c).Else-not-writable)) (range ((goal.at.returns c).Else-not-in_range))) ∙ ap length (value_bytes_lem a.buffer.now v.kind v.a v.b v.flags))
