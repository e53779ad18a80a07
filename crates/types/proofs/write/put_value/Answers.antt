-- `types::write::put_value` meets its contract: each class of kinds has its own writer, and no other kind is written.
use native.Mathlib.Omega.{arith}
use lib.ListN.{length}
use Rattle.types.proofs.Shapes.{shape_is, row}
use Rattle.types.proofs.Writing.{form_flags, form_reserved}
use Rattle.types.proofs.Output.{puts_refusal}
use Rattle.types.proofs.write.put_value.Goals as goal

pub returns-then-kind-lt2 : goal.returns-then-kind-lt2
returns-then-kind-lt2 c = c.put_plain.ensures c.args.buffer.now

pub returns-then-kind-lt6 : goal.returns-then-kind-lt6
returns-then-kind-lt6 c = c.put_integer.ensures c.args.buffer.now

pub returns-then-value-ge16 : goal.returns-then-value-ge16
returns-then-value-ge16 c = let a = c.args in
    let v = a.value in
    puts_refusal (length a.out.now) 14 a.out.now (form_flags a.buffer.now v.kind v.a v.b v.flags c.if-kind-lt6.false c.if-value-ge16.true)

pub put_address-requires : goal.put_address-requires
put_address-requires c =
    let e = c.if-kind-eq6.true in record { kind_value = row 6 e shape_is.6; kind_bound = (omega arith, omega arith, c.if-value-ge16.false) }

pub put_address-requires-then-kind-eq7 : goal.put_address-requires-then-kind-eq7
put_address-requires-then-kind-eq7 c =
    let e = c.if-kind-eq7.true in record { kind_value = row 7 e shape_is.7; kind_bound = (omega arith, omega arith, c.if-value-ge16.false) }

pub returns : goal.returns
returns c = let a = c.args in
    let v = a.value in
    puts_refusal (length a.out.now) 14 a.out.now (form_reserved a.buffer.now v.kind v.a v.b v.flags c.if-kind-lt10.false)
