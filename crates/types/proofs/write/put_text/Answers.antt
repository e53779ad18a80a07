-- `types::write::put_text` meets its contract: the bytes lie outside, there is no room, or the type byte is stored and the string is what
-- `put_string` leaves in the tail behind it.
use Prim.Native.Nat.{◌+◌, ◌-◌, ◌≤◌}
use mathlib.Core.Path.{◌≡◌, sym, ◌∙◌}
use mathlib.Core.Bool.{true}
use mathlib.Core.List.{[], ◌∷◌}
use native.Mathlib.Omega.{arith}
use lib.ListN.{length, take, drop, set}
use borrow.Author.Tests.{not-true, not-false, leb-true, leb-false}
use Rattle.answer.specs.Answer.{written}
use Rattle.varint.specs.Number.{number_bytes}
use Rattle.types.specs.Form.{type_of, inside, string_bytes, value_answer}
use Rattle.types.specs.Promise.{record_of}
use Rattle.types.proofs.Writing.{part_lent, string_long, form_text, form_text_outside}
use Rattle.types.proofs.Output.{puts_refusal, puts_short, puts_whole, Begun, begun_known, begun_room, begun_both}
use Rattle.types.proofs.write.put_text.Goals as goal
use Rattle.types.proofs.write.put_text.Goals.{After-type_byte, Else-not-part_inside}

-- past the first test the bytes lie inside
within_buffer : (c : Else-not-part_inside) → let a = c.args in inside a.buffer.now a.value.a a.value.b ≡ true
within_buffer c = sym c.part_inside.ensures ∙ not-false _ c.if-not-part_inside.false-raw

ends : (c : Else-not-part_inside) → let a = c.args in a.value.a + a.value.b ≤ length a.buffer.now
ends c = leb-true _ _ (within_buffer c)

long : (c : Else-not-part_inside)
    → let a = c.args in
    let v = a.value in
    length (string_bytes (take (v.a + v.b - v.a) (drop v.a a.buffer.now))) ≡ length (number_bytes v.b) + v.b
long c = let a = c.args in
    rw part_lent (string_long a.buffer.now a.value.a a.value.b (ends c))

bytes : (c : Else-not-part_inside)
    → let a = c.args in
    let v = a.value in
    value_answer a.buffer.now (record_of v) ≡ written (type_of v.kind v.flags ∷ string_bytes (take (v.a + v.b - v.a) (drop v.a a.buffer.now)))
bytes c = let v = c.args.value in
    form_text c.args.buffer.now v.kind v.a v.b v.flags c.requires.0 c.requires.1 (omega (arith, c.well_formed)) c.requires.2 (within_buffer c)

-- past the others there is room for the type byte and the string
begun : (c : After-type_byte)
    → let a = c.args in
    let v = a.value in
    Begun (type_of v.kind v.flags ∷ []) (string_bytes (take (v.a + v.b - v.a) (drop v.a a.buffer.now))) a.out.now 1 (set a.out.now 0 c.type_byte.result)
begun c = let a = c.args in
    let h = leb-true (1 + length (number_bytes a.value.b)) (length a.out.now - a.value.b) (sym c.number_fits.ensures ∙ not-false _ c.if-not-number_fits.false-raw) in
    begun_known _ _ c.type_byte.ensures (omega (
      arith,
      h,
      c.if-out-len.false,
      (let it : let a = c.args in let v = a.value in length (string_bytes (take (v.a + v.b - v.a) (drop v.a a.buffer.now))) ≡ length (number_bytes v.b) + v.b = let a = c.args in
          rw part_lent (string_long a.buffer.now a.value.a a.value.b (let it : let a = c.args in a.value.a + a.value.b ≤ length a.buffer.now = leb-true _ _ (let it : let a = c.args in inside a.buffer.now a.value.a a.value.b ≡ true = sym c.part_inside.ensures ∙ not-false _ c.if-not-part_inside.false-raw in it) in it)) in it),
    ))

pub returns-then-not-part_inside : goal.returns-then-not-part_inside
returns-then-not-part_inside c = let v = c.args.value in
    puts_refusal (length c.args.out.now) 16 c.args.out.now
    (form_text_outside c.args.buffer.now v.kind v.a v.b v.flags c.requires.0 c.requires.1 (omega (arith, c.well_formed)) c.requires.2 (sym c.part_inside.ensures ∙ not-true _ c.if-not-part_inside.true-raw))

pub returns-then-out-len : goal.returns-then-out-len
returns-then-out-len c = puts_short _ _ (bytes ((goal.at.returns-then-out-len c).Else-not-part_inside)) (omega (arith, c.if-out-len.true, long ((goal.at.returns-then-out-len c).Else-not-part_inside)))

pub returns-then-not-number_fits : goal.returns-then-not-number_fits
returns-then-not-number_fits c = let a = c.args in
    let h = leb-false (1 + length (number_bytes a.value.b)) (length a.out.now - a.value.b) (sym c.number_fits.ensures ∙ not-true _ c.if-not-number_fits.true-raw) in
    puts_short _ _ (bytes ((goal.at.returns-then-not-number_fits c).Else-not-part_inside)) (omega (arith, h, long ((goal.at.returns-then-not-number_fits c).Else-not-part_inside)))

pub put_string-requires : goal.put_string-requires
put_string-requires c = begun_room (begun ((goal.at.put_string-requires c).After-type_byte))

pub returns : goal.returns
returns c = puts_whole _ _ (bytes ((goal.at.returns c).Else-not-part_inside)) (begun ((goal.at.returns c).After-type_byte)).room (begun_both (begun ((goal.at.returns c).After-type_byte)) c.put_string.ensures)
