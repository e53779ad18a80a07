-- `types::check::writable` meets its contract: flags of more than four bits are no kind's, and each kind's line of the table has its own test.
use Prim.Native.Nat.{ℕ}
use mathlib.Core.Path.{sym, ap, ◌∙◌}
use mathlib.Core.Bool.{Bool, ◌&&◌, and-false}
use native.Mathlib.Omega.{arith}
use borrow.Author.Tests.{ne_eqb}
use Rattle.types.specs.Value.{shape, in_fields, in_flags}
use Rattle.types.proofs.Shapes.{shape_is, unused, address_field, text_field, flags_over, fields_alone}
use Rattle.types.proofs.check.writable.Goals as goal

pub returns-then-value-ge16 : goal.returns-then-value-ge16
returns-then-value-ge16 c = let v = c.args.value in
    sym (ap (λ (x : Bool). x && in_fields (shape v.kind) v.a v.b) (flags_over v.kind v.flags c.if-value-ge16.true))

pub returns-else-value-eq0 : goal.returns-else-value-eq0
returns-else-value-eq0 c = let v = c.args.value in
    ne_eqb v.b 0 c.if-value-eq0.false
    ∙ sym
    (ap (λ (x : Bool). in_flags (shape v.kind) v.flags && x) (unused v.kind v.a v.b (omega arith) c.if-value-eq0.false)
    ∙ and-false (in_flags (shape v.kind) v.flags))

pub in_field-requires : goal.in_field-requires
in_field-requires c = ((omega arith), c.if-value-ge16.false)

pub returns-then-value-eq0 : goal.returns-then-value-eq0
returns-then-value-eq0 c = let v = c.args.value in
    c.in_field.ensures ∙ ap (λ (n : ℕ). in_flags (shape v.kind) v.flags && in_fields (shape v.kind) v.a n) (sym c.if-value-eq0.true)

pub returns-in-6 : goal.returns-in-6
returns-in-6 c = let v = c.args.value in
    let k = c.in-6.is in
    sym (fields_alone v.kind v.a v.b v.flags (λ z. omega arith) c.if-value-ge16.false ∙ address_field v.kind v.a v.b 6 4 k shape_is.6)

pub returns-in-7 : goal.returns-in-7
returns-in-7 c = let v = c.args.value in
    let k = c.in-7.is in
    sym (fields_alone v.kind v.a v.b v.flags (λ z. omega arith) c.if-value-ge16.false ∙ address_field v.kind v.a v.b 7 16 k shape_is.7)

pub returns-in_default-2 : goal.returns-in_default-2
returns-in_default-2 c = let v = c.args.value in
    sym
    (fields_alone v.kind v.a v.b v.flags (λ z. omega arith) c.if-value-ge16.false
    ∙ text_field v.kind v.a v.b (omega arith) (omega (arith, c.well_formed)))
