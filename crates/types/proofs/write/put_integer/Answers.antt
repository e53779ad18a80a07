-- `types::write::put_integer` meets its contract: the value has no written form, there is no room, or the type byte is
-- stored and the number is what `encode_varint` leaves in the tail behind it.
use Prim.Native.Nat.{ℕ, ◌+◌, ◌-◌}
use mathlib.Core.Path.{◌≡◌, sym, ◌∙◌}
use mathlib.Core.List.{List, [], ◌∷◌}
use native.Mathlib.Omega.{arith}
use lib.ListN.{length, take, drop, set}
use borrow.Author.Tests.{not-true, not-false, leb-true, leb-false}
use Rattle.answer.specs.Answer.{written}
use Rattle.varint.specs.Number.{number_bytes}
use Rattle.types.specs.Form.{type_of, value_answer}
use Rattle.types.specs.Promise.{record_of}
use Rattle.types.specs.Inner.{Puts}
use Rattle.types.proofs.Writing.{form_unwritable, form_integer}
use Rattle.types.proofs.Shapes.{four_bits}
use Rattle.types.proofs.Output.{puts_refusal, puts_short, puts_whole, puts_wrote, Begun, begun_known, begun_start, begun_room, begun_both, begun_most, begun_length}
use Rattle.types.proofs.write.put_integer.Goals as goal
use Rattle.types.proofs.write.put_integer.Goals.{After-type_byte, After-wrote, Else-not-writable}

bytes : (c : Else-not-writable) (buffer : List ℕ)
    → let v = c.args.value in
    value_answer buffer (record_of v) ≡ written (type_of v.kind v.flags ∷ number_bytes v.a)
bytes c buffer = let v = c.args.value in
    form_integer buffer v.kind v.a v.b v.flags c.requires.0 c.requires.1 (sym c.writable.ensures ∙ not-false _ c.if-not-writable.false-raw)

-- past the tests there is room for the type byte and the number
begun : (c : After-type_byte)
    → let a = c.args in
    Begun (type_of a.value.kind a.value.flags ∷ []) (number_bytes a.value.a) a.out.now 1 (set a.out.now 0 c.type_byte.result)
begun c = let a = c.args in
    begun_known (number_bytes a.value.a) a.out.now c.type_byte.ensures
    (omega (arith, leb-true (1 + length (number_bytes a.value.a)) (length a.out.now) (sym c.number_fits.ensures ∙ not-false _ c.if-not-number_fits.false-raw)))

number : (c : After-wrote)
    → let a = c.args in
    let out = set a.out.now 0 c.type_byte.result in
    Puts (written (number_bytes a.value.a)) c.wrote.result (take (length out - 1) (drop 1 out)) c.encode_varint.new.out
number c = puts_wrote _ c.encode_varint.ensures (begun_room (let it : let a = c.args in Begun (type_of a.value.kind a.value.flags ∷ []) (number_bytes a.value.a) a.out.now 1 (set a.out.now 0 c.type_byte.result) = let a = c.args in
    begun_known (number_bytes a.value.a) a.out.now c.type_byte.ensures
    (omega (arith, leb-true (1 + length (number_bytes a.value.a)) (length a.out.now) (sym c.number_fits.ensures ∙ not-false _ c.if-not-number_fits.false-raw))) in it)) c.wrote.ensures

pub returns-then-not-writable : goal.returns-then-not-writable
returns-then-not-writable c = λ buffer. let a = c.args in
    puts_refusal (length a.out.now) 14 a.out.now
    (form_unwritable buffer (record_of a.value) (sym c.writable.ensures ∙ not-true _ c.if-not-writable.true-raw))

pub returns-then-not-number_fits : goal.returns-then-not-number_fits
returns-then-not-number_fits c = λ buffer. let a = c.args in
    puts_short (type_of a.value.kind a.value.flags ∷ number_bytes a.value.a) a.out.now (bytes ((goal.at.returns-then-not-number_fits c).Else-not-writable) buffer)
    (omega (arith, leb-false (1 + length (number_bytes a.value.a)) (length a.out.now) (sym c.number_fits.ensures ∙ not-true _ c.if-not-number_fits.true-raw)))

pub type_byte-requires : goal.type_byte-requires
type_byte-requires c = let v = c.args.value in
    (omega (arith, c.requires.1), four_bits v.kind v.a v.b v.flags (sym c.writable.ensures ∙ not-false _ c.if-not-writable.false-raw))

pub bounds-out-0 : goal.bounds-out-0
bounds-out-0 c = omega (arith, (begun ((goal.at.bounds-out-0 c).After-type_byte)).room)

pub slice_bounds-encode_varint-count : goal.slice_bounds-encode_varint-count
slice_bounds-encode_varint-count c = begun_start (begun ((goal.at.slice_bounds-encode_varint-count c).After-type_byte))

pub slice_bounds-encode_varint-start : goal.slice_bounds-encode_varint-start
slice_bounds-encode_varint-start c = begun_start (begun ((goal.at.slice_bounds-encode_varint-start c).After-type_byte))

pub overflow_add-result : goal.overflow_add-result
overflow_add-result c = omega (arith, begun_most (begun ((goal.at.overflow_add-result c).After-type_byte)) (number ((goal.at.overflow_add-result c).After-wrote)))

pub shape_of-out : goal.shape_of-out
shape_of-out c = begun_length (begun ((goal.at.shape_of-out c).After-type_byte)) (number ((goal.at.shape_of-out c).After-wrote))

pub returns : goal.returns
returns c = λ buffer. puts_whole _ _ (bytes ((goal.at.returns c).Else-not-writable) buffer) (begun ((goal.at.returns c).After-type_byte)).room (begun_both (begun ((goal.at.returns c).After-type_byte)) (number ((goal.at.returns c).After-wrote)))
