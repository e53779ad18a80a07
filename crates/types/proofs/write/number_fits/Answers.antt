-- `types::write::number_fits` meets its contract: eleven bytes are enough for any number, and else it is measured.
use Prim.Native.Nat.{◌+◌}
use mathlib.Core.Path.{sym}
use native.Mathlib.Omega.{arith}
use lib.ListN.{length}
use borrow.Author.Tests.{le-leb}
use Rattle.varint.specs.Number.{number_bytes}
use Rattle.varint.proofs.Writing.{length_most}
use Rattle.types.proofs.write.number_fits.Goals as goal

pub returns-then-room-ge11 : goal.returns-then-room-ge11
returns-then-room-ge11 c = let a = c.args in sym (le-leb (1 + length (number_bytes a.n)) a.room (omega (arith, c.if-room-ge11.true, length_most a.n)))

pub overflow_add-result : goal.overflow_add-result
overflow_add-result c = omega (arith, c.varint_len.ensures, length_most c.args.n)
