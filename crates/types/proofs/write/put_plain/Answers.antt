-- `types::write::put_plain` meets its contract: the value has no written form, there is no room, or the one byte is stored.
use borrow.Author.Rules.{rules}
use Prim.Native.Nat.{◌+◌, ◌*◌, ◌<◌}
use mathlib.Core.Path.{◌≡◌, sym, ◌∙◌}
use mathlib.Core.Bool.{true}
use mathlib.Core.List.{[], ◌∷◌}
use native.Mathlib.Omega.{arith}
use lib.ListN.{length}
use borrow.Author.Tests.{not-true, not-false}
use Rattle.types.specs.Form.{type_of, writable_record}
use Rattle.types.specs.Promise.{record_of}
use Rattle.types.proofs.Writing.{plain_bytes, form_unwritable, form_plain}
use Rattle.types.proofs.Output.{puts_refusal, puts_short, puts_whole, begun_byte}
use Rattle.types.proofs.write.put_plain.Goals as goal
use Rattle.types.proofs.write.put_plain.Goals.{Else-not-writable}

fields : (c : Else-not-writable) → writable_record (record_of c.args.value) ≡ true
fields c = sym c.writable.ensures ∙ not-false _ c.if-not-writable.false-raw

-- a bool's number is 0 or 1, and null's is 0; its flags are four bits; and so the byte is one
small : (c : Else-not-writable) → let v = c.args.value in (v.a < 2) × (v.flags < 16) × (type_of v.kind v.flags + 16 * v.a < 256)
small c = let v = c.args.value in
    let p = plain_bytes [] v.kind v.a v.b v.flags c.requires (fields c) in
    (p.0, p.1, p.2)

pub returns-then-not-writable : goal.returns-then-not-writable
returns-then-not-writable c = λ buffer. let a = c.args in
    puts_refusal (length a.out.now) 14 a.out.now
    (form_unwritable buffer (record_of a.value) (sym c.writable.ensures ∙ not-true _ c.if-not-writable.true-raw))

pub returns-then-out-eq0 : goal.returns-then-out-eq0
returns-then-out-eq0 c = λ buffer. let v = c.args.value in
    puts_short ((type_of v.kind v.flags + 16 * v.a) ∷ []) c.args.out.now (form_plain buffer v.kind v.a v.b v.flags c.requires (fields ((goal.at.returns-then-out-eq0 c).Else-not-writable))) (omega (arith, c.if-out-eq0.true))

pub overflow_mul-out : goal.overflow_mul-out
overflow_mul-out c = omega (arith, (small ((goal.at.overflow_mul-out c).Else-not-writable)).1)

pub overflow_add-out : goal.overflow_add-out
overflow_add-out c = omega (arith, (small ((goal.at.overflow_add-out c).Else-not-writable)).2)

pub overflow_mul-out-2 : goal.overflow_mul-out-2
overflow_mul-out-2 c = omega (arith, (small ((goal.at.overflow_mul-out-2 c).Else-not-writable)).0)

pub overflow_add-out-2 : goal.overflow_add-out-2
overflow_add-out-2 c = omega (arith, (small ((goal.at.overflow_add-out-2 c).Else-not-writable)).2)

pub overflow_cast-out : goal.overflow_cast-out
overflow_cast-out c = omega (arith, (small ((goal.at.overflow_cast-out c).Else-not-writable)).2)

pub bounds-out-0 : goal.bounds-out-0
bounds-out-0 c = search rules

pub returns : goal.returns
returns c = λ buffer. let v = c.args.value in
    puts_whole ((type_of v.kind v.flags + 16 * v.a) ∷ []) c.args.out.now (form_plain buffer v.kind v.a v.b v.flags c.requires (fields ((goal.at.returns c).Else-not-writable)))
    (omega (arith, bounds-out-0 c)) (begun_byte _ [] c.args.out.now (omega (arith, bounds-out-0 c))).first
