-- `types::read::bytes_value` meets its contract: the bytes that are left are compared with the number.
use mathlib.Core.Path.{ap, ◌∙◌}
use Prim.Native.Nat.{◌+◌}
use native.Mathlib.Omega.{arith}
use lib.ListN.{length}
use borrow.Author.Tests.{le-leb, lt-leb}
use Rattle.answer.specs.Writes.{refusal_said}
use Rattle.types.proofs.read.bytes_value.Goals as goal

pub returns-then-input-taken : goal.returns-then-input-taken
returns-then-input-taken c = ap refusal_said c.at.ensures ∙ simp (lt-leb (c.args.taken + c.args.n) (length c.args.input.now) (omega (arith, c.requires, c.if-input-taken.true)))

pub returns : goal.returns
returns c = simp (le-leb (c.args.taken + c.args.n) (length c.args.input.now) (omega (arith, c.requires, c.if-input-taken.false)))
