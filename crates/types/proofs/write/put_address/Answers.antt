-- `types::write::put_address` meets its contract: the length is not the address's, the bytes lie outside, there is no room,
-- or the type byte is stored and the bytes are what `put_bytes` leaves in the tail behind it.
use Prim.Native.Nat.{◌+◌, ◌-◌, ◌≤◌}
use mathlib.Core.Path.{◌≡◌, sym, ◌∙◌}
use mathlib.Core.Bool.{true}
use mathlib.Core.List.{[], ◌∷◌}
use native.Mathlib.Omega.{arith}
use lib.ListN.{length, take, drop, set}
use borrow.Author.Tests.{not-true, not-false, leb-true}
use Rattle.types.specs.Form.{type_of, inside}
use Rattle.types.proofs.Writing.{lent_length, form_length, form_address, form_address_outside}
use Rattle.types.proofs.Output.{puts_refusal, puts_short, puts_whole, Begun, begun_known, begun_both}
use Rattle.types.proofs.write.put_address.Goals as goal
use Rattle.types.proofs.write.put_address.Goals.{After-type_byte, Else-not-part_inside}

-- past the second test the bytes lie inside
within_buffer : (c : Else-not-part_inside) → let a = c.args in inside a.buffer.now a.value.a a.len ≡ true
within_buffer c = sym c.part_inside.ensures ∙ not-false _ c.if-not-part_inside.false-raw

ends : (c : Else-not-part_inside) → let a = c.args in a.value.a + a.len ≤ length a.buffer.now
ends c = leb-true _ _ (within_buffer c)

long : (c : Else-not-part_inside)
    → let a = c.args in
    length (take (a.value.a + a.len - a.value.a) (drop a.value.a a.buffer.now)) ≡ a.len
long c = let a = c.args in lent_length a.buffer.now a.value.a a.len (ends c)

-- past the third there is room for the type byte and the bytes
begun : (c : After-type_byte)
    → let a = c.args in
    let v = a.value in
    Begun (type_of v.kind v.flags ∷ []) (take (v.a + a.len - v.a) (drop v.a a.buffer.now)) a.out.now 1 (set a.out.now 0 c.type_byte.result)
begun c = begun_known _ _ c.type_byte.ensures (omega (arith, c.if-out-len.false, (let it : let a = c.args in length (take (a.value.a + a.len - a.value.a) (drop a.value.a a.buffer.now)) ≡ a.len = let a = c.args in lent_length a.buffer.now a.value.a a.len (let it : let a = c.args in a.value.a + a.len ≤ length a.buffer.now = leb-true _ _ (let it : let a = c.args in inside a.buffer.now a.value.a a.len ≡ true = sym c.part_inside.ensures ∙ not-false _ c.if-not-part_inside.false-raw in it) in it) in it)))

pub returns-then-value-len : goal.returns-then-value-len
returns-then-value-len c = let v = c.args.value in
    puts_refusal (length c.args.out.now) 14 c.args.out.now (form_length c.args.buffer.now v.kind v.a v.b v.flags c.args.len c.requires.kind_value c.if-value-len.true)

pub returns-then-not-part_inside : goal.returns-then-not-part_inside
returns-then-not-part_inside c = let v = c.args.value in
    puts_refusal (length c.args.out.now) 16 c.args.out.now
    (form_address_outside c.args.buffer.now v.kind v.a v.b v.flags c.args.len c.requires.kind_value c.requires.kind_bound.2 c.if-value-len.false (sym c.part_inside.ensures ∙ not-true _ c.if-not-part_inside.true-raw))

pub returns-then-out-len : goal.returns-then-out-len
returns-then-out-len c = let v = c.args.value in
    puts_short _ c.args.out.now
    (form_address c.args.buffer.now v.kind v.a v.b v.flags c.args.len c.requires.kind_value c.requires.kind_bound.2 c.if-value-len.false (within_buffer ((goal.at.returns-then-out-len c).Else-not-part_inside)))
    (omega (arith, c.if-out-len.true, long ((goal.at.returns-then-out-len c).Else-not-part_inside)))

pub returns : goal.returns
returns c = let v = c.args.value in
    puts_whole _ c.args.out.now
    (form_address c.args.buffer.now v.kind v.a v.b v.flags c.args.len c.requires.kind_value c.requires.kind_bound.2 c.if-value-len.false (within_buffer ((goal.at.returns c).Else-not-part_inside)))
    (begun ((goal.at.returns c).After-type_byte)).room (begun_both (begun ((goal.at.returns c).After-type_byte)) c.put_bytes.ensures)
