-- `types::write::measure_value` meets its contract: a value that passes its checks has its written form, and `form_len` says how long.
use mathlib.Core.Path.{◌≡◌, sym, ap, ◌∙◌}
use mathlib.Core.Bool.{true}
use native.Mathlib.Omega.{arith}
use lib.ListN.{length}
use Rattle.answer.specs.Answer.{written}
use Rattle.answer.specs.Order.{in_order}
use Rattle.answer.specs.Inner.{Passes}
use Rattle.answer.proofs.Order.{passes_zero, lines_refuse, lines_pass}
use Rattle.std.proofs.lemmas.Result.{err_from_is_err_and}
use Rattle.answer.proofs.Same.{reason_some}
use mathlib.Core.List.{List}
use Prim.Native.Nat.{ℕ}
use Rattle.types.specs.declared.Value.{Value}
use Rattle.types.specs.Form.{part, value_bytes, writable_record, ranged, length_of}
use Rattle.types.specs.Check.{value_checks}
use Rattle.types.specs.Promise.{record_of}
use Rattle.types.proofs.Checking.{passed}
use Rattle.types.proofs.Writing.{value_bytes_lem, part_whole, part_small}
use Rattle.types.proofs.write.measure_value.Goals as goal

-- what a check that passes says of a value
module _ (v : Value) (buffer : List ℕ) (none : 0 ≡ in_order (value_checks buffer (record_of v)) 0) where
  well : Passes (value_checks buffer (record_of v))
  well = passes_zero _ tt (sym none)

  fields : writable_record (record_of v) ≡ true
  fields = (passed buffer v.kind v.a v.b v.flags well).0

  range : ranged buffer (record_of v) ≡ true
  range = (passed buffer v.kind v.a v.b v.flags well).1

pub returns-in_err-check_value : goal.returns-in_err-check_value
returns-in_err-check_value c =
    let a = c.args in
    let p = err_from_is_err_and c.from_residual.result c.from_residual.ensures.1 in
    let is = c.in_err-check_value.ensures in
    rw (p.1, p.2)
    (is, sym (ap length_of (lines_refuse (value_checks a.buffer.now (record_of a.value)) _ is (reason_some c.in_err-check_value.field-0.0) 0 (written (value_bytes a.buffer.now (record_of a.value))))))

pub form_len-requires : goal.form_len-requires
form_len-requires c =
    let v = c.args.value in
    let none = c.in_ok-check_value.ensures in
    record {
      value_value = fields v c.args.buffer.now none;
      b_bound = part_small c.args.buffer.now v.kind v.a v.b v.flags (fields v c.args.buffer.now none) (range v c.args.buffer.now none) (omega (arith, c.well_formed));
    }

pub returns : goal.returns
returns c =
    let a = c.args in
    let v = a.value in
    let none = c.in_ok-check_value.ensures in (
      none,
      c.form_len.ensures (part a.buffer.now v.a v.b) (part_whole a.buffer.now v.kind v.a v.b v.flags (fields v a.buffer.now none) (range v a.buffer.now none))
          ∙ sym (ap length_of (lines_pass (value_checks a.buffer.now (record_of v)) (well v a.buffer.now none) 0 (written (value_bytes a.buffer.now (record_of v)))) ∙ ap length (value_bytes_lem a.buffer.now v.kind v.a v.b v.flags)),
    )
