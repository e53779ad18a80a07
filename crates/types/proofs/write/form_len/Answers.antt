-- `types::write::form_len` meets its contract: each kind's line of the table has its own length.
use Prim.Native.Nat.{ℕ, ◌+◌}
use mathlib.Core.Path.{◌≡◌, sym, ap, ◌∙◌}
use mathlib.Core.List.{List}
use native.Mathlib.Omega.{arith}
use lib.ListN.{length}
use Rattle.varint.specs.Number.{number_bytes}
use Rattle.varint.proofs.Writing.{length_bounds}
use Rattle.types.proofs.Writing.{length_plain, length_integer, length_address, length_text}
use Rattle.types.proofs.Shapes.{writable_kind}
use Rattle.types.proofs.write.form_len.Goals as goal

-- a length number for as many bytes as there are
counted : (b : ℕ) (bytes : List ℕ) (r : ℕ) → r ≡ length (number_bytes b) → length bytes ≡ b → 1 + r + b ≡ 1 + length (number_bytes (length bytes)) + length bytes
counted b bytes r e l = rw (l, e)

pub returns-then-kind-lt2 : goal.returns-then-kind-lt2
returns-then-kind-lt2 c = λ bytes e. let a = c.args.value in length_plain a.kind _ a.a bytes c.if-kind-lt2.true

pub overflow_add-result : goal.overflow_add-result
overflow_add-result c = let v = c.args.value in omega (arith, c.varint_len.ensures, length_bounds v.a (omega (arith, c.well_formed)))

pub returns-then-kind-lt6 : goal.returns-then-kind-lt6
returns-then-kind-lt6 c = λ bytes e. let a = c.args.value in
    ap (λ (n : ℕ). 1 + n) c.varint_len.ensures ∙ length_integer a.kind _ a.a bytes c.if-kind-lt2.false c.if-kind-lt6.true

pub returns-then-kind-lt8 : goal.returns-then-kind-lt8
returns-then-kind-lt8 c = λ bytes e. let a = c.args.value in
    ap (λ (n : ℕ). 1 + n) (sym e) ∙ length_address a.kind _ a.a bytes c.if-kind-lt6.false c.if-kind-lt8.true

pub overflow_add-result-2 : goal.overflow_add-result-2
overflow_add-result-2 c = let v = c.args.value in omega (arith, c.varint_len-2.ensures, length_bounds v.b (omega arith))

pub overflow_add-result-3 : goal.overflow_add-result-3
overflow_add-result-3 c = let v = c.args.value in omega (arith, c.varint_len-2.ensures, length_bounds v.b (omega arith))

pub returns : goal.returns
returns c = λ bytes e. let v = c.args.value in
    let k = writable_kind v.kind v.a v.b v.flags c.requires.value_value in
    counted v.b bytes _ c.varint_len-2.ensures e ∙ length_text v.kind _ v.a bytes c.if-kind-lt8.false (omega arith)
