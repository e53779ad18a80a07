-- `writer::pair::measure_pair` meets its contract: the value is looked at once, and its refusal comes in its turn: before the key's where its
-- numbers are not writable, and else behind it. Where none is refused, the lengths of the key and of the value are the pair's.
use borrow.Author.Rules.{rules}
use mathlib.Core.Path.{◌≡◌, refl, sym, ap, ◌∙◌}
use mathlib.Core.Bool.{true, false}
use Rattle.answer.proofs.Cases.{true_false}
use mathlib.Core.List.{List}
use Prim.Native.Nat.{ℕ, ◌+◌}
use native.Mathlib.Omega.{arith}
use lib.ListN.{length}
use Rattle.std.specs.Prelude.{Result, Ok, Err}
use Rattle.std.specs.Result.{is_err}
use Rattle.std.proofs.lemmas.Result.{err_from_is_err_and}
use Rattle.answer.specs.declared.Reason.{Reason}
use Rattle.answer.specs.Answer.{written}
use Rattle.answer.specs.Order.{in_order, lines_at}
use Rattle.answer.specs.Inner.{Passes}
use Rattle.answer.proofs.Order.{passes_zero, lines_pass}
use Rattle.answer.proofs.Same.{reason_some}
use Rattle.varint.proofs.Writing.{length_most}
use Rattle.types.specs.Form.{value_bytes, writable_record, length_of}
use Rattle.types.specs.Check.{string_checks, value_checks}
use Rattle.types.specs.declared.Value.{Value}
use Rattle.types.specs.Promise.{record_of, MeasureValue}
use Rattle.types.proofs.Checking.{value_part, value_writable}
use Rattle.types.proofs.Writing.{value_bound, part_within_buffer}
use Rattle.frame.specs.declared.Pair.{Pair}
use Rattle.writer.specs.Pair.{pair_checks}
use Rattle.writer.specs.Inner.{capped, Formed}
use Rattle.writer.proofs.Capped.{capped_left, capped_most}
use Rattle.writer.proofs.Pairs.{pair_fields, pair_key, pair_part, pair_long, formed_passed}
use Rattle.writer.proofs.pair.measure_pair.Goals as goal
use Rattle.writer.proofs.pair.measure_pair.Goals.{Joined-else-is_err, else-is_err-via-then-is_err+else-not-writable, else-is_err-via-else-is_err}

-- a value that has a length is writable
measured_fields : (buffer : List ℕ) (v : Value) (r : Result ℕ Reason) → MeasureValue v buffer r → is_err r ≡ false → writable_record (record_of v) ≡ true
measured_fields buffer v (Ok n) m e = value_writable buffer v.kind v.a v.b v.flags (λ z. absurd (omega (arith, m.0, z)))
measured_fields buffer v (Err x) m e = true_false refl e

fields : (c : Joined-else-is_err) → writable_record (record_of c.args.pair.value) ≡ true
fields c = elim c.else-is_err.branch [
  | else-is_err-via-then-is_err+else-not-writable w ↦ sym w.writable.ensures ∙ w.if-not-writable.false
  | else-is_err-via-else-is_err w ↦
      measured_fields c.args.buffer.now c.args.pair.value c.measure_value-value.result c.measure_value-value.ensures (sym w.if-is_err.ensures.value)
]

-- Past its numbers and its key, a pair is refused with what its value is.
module _ (buffer : List ℕ) (p : Pair) (fields : writable_record (record_of p.value) ≡ true) (key : 0 ≡ in_order (string_checks buffer p.start p.len) 0) where
  left : in_order (value_checks buffer (record_of p.value)) 0 ≡ in_order (pair_checks buffer p) 0
  left = value_part buffer (record_of p.value) fields ∙ sym (pair_part buffer p fields (passes_zero _ tt (sym key)))

  -- and past that it has its written form, and the value's length is known
  module _ (none : 0 ≡ in_order (value_checks buffer (record_of p.value)) 0) where
    well : Passes (pair_checks buffer p)
    well = passes_zero _ tt (sym (none ∙ left))

    formed : Formed buffer p
    formed = formed_passed buffer p well

    value_is : length_of (in_order (lines_at 0 (value_checks buffer (record_of p.value))) (written (value_bytes buffer (record_of p.value)))) ≡ length (value_bytes buffer (record_of p.value))
    value_is = ap length_of (lines_pass (value_checks buffer (record_of p.value)) (passes_zero _ tt (sym none)) 0 (written (value_bytes buffer (record_of p.value))))

pub returns-then-not-writable : goal.returns-then-not-writable
returns-then-not-writable c =
    let a = c.args in sym (pair_fields a.buffer.now a.pair (search rules))

pub returns-in_err-check_string : goal.returns-in_err-check_string
returns-in_err-check_string c =
    let a = c.args in
    let r = c.from_residual in
    let p = err_from_is_err_and r.result r.ensures.1 in
    rw (p.1, p.2)
    (pair_key a.buffer.now a.pair (fields ((goal.at.returns-in_err-check_string c).Joined-else-is_err)) _ c.in_err-check_string.ensures (reason_some c.in_err-check_string.field-0.0))

pub returns-in_err-value_len : goal.returns-in_err-value_len
returns-in_err-value_len c =
    let a = c.args in
    let r = c.from_residual-in_err-value_len in
    let p = err_from_is_err_and r.result r.ensures.1 in
    let m = rw c.in_err-value_len.was at c.measure_value-value.ensures in
    rw (p.1, p.2) (m.0 ∙ left a.buffer.now a.pair (fields ((goal.at.returns-in_err-value_len c).Joined-else-is_err)) c.in_ok-check_string.ensures)

pub overflow_add-varint_len : goal.overflow_add-varint_len
overflow_add-varint_len c =
    let a = c.args in
    let m = rw c.in_ok-value_len.was at c.measure_value-value.ensures in
    let f = formed a.buffer.now a.pair (fields ((goal.at.overflow_add-varint_len c).Joined-else-is_err)) c.in_ok-check_string.ensures m.0 in
    omega (arith, c.varint_len.ensures, length_most a.pair.len, c.well_formed, f.key)

pub overflow_add-key_len : goal.overflow_add-key_len
overflow_add-key_len c =
    let a = c.args in
    let v = a.pair.value in
    let m = rw c.in_ok-value_len.was at c.measure_value-value.ensures in
    let long = m.1 ∙ value_is a.buffer.now a.pair (fields ((goal.at.overflow_add-key_len c).Joined-else-is_err)) c.in_ok-check_string.ensures m.0 in
    omega (arith, long, c.cap-key_len.ensures, capped_most a.most (c.varint_len.result + a.pair.len), c.well_formed, c.ranges, value_bound a.buffer.now v.kind v.a v.b v.flags, part_within_buffer a.buffer.now v.a v.b)

pub returns : goal.returns
returns c =
    let a = c.args in
    let bytes = value_bytes a.buffer.now (record_of a.pair.value) in
    let fit = fields ((goal.at.returns c).Joined-else-is_err) in
    let key = c.in_ok-check_string.ensures in
    let m = rw c.in_ok-value_len.was at c.measure_value-value.ensures in
    let none = m.0 in (
      well a.buffer.now a.pair fit key none,
      c.cap.ensures
          ∙ ap (capped a.most) (ap (λ (m : ℕ). c.cap-key_len.result + m) (m.1 ∙ value_is a.buffer.now a.pair fit key none) ∙ ap (λ (m : ℕ). m + length bytes) c.cap-key_len.ensures)
          ∙ capped_left a.most (c.varint_len.result + a.pair.len) (length bytes)
          ∙ ap (λ (m : ℕ). capped a.most (m + a.pair.len + length bytes)) c.varint_len.ensures
          ∙ ap (capped a.most) (sym (pair_long (formed a.buffer.now a.pair fit key none))),
    )
