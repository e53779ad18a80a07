-- `types::read::read_other` meets its contract: a kind from 8 on has no line, an address is read by its own reader, and null and a bool are
-- left.
use mathlib.Core.Path.{refl, sym, ap, ◌∙◌}
use Prim.Native.Nat.{◌%◌}
use native.Mathlib.Omega.{arith}
use lib.ListN.{drop}
use Rattle.answer.specs.Writes.{refusal_said}
use Rattle.types.specs.Value.{nothing, flag, reserved}
use Rattle.types.proofs.Reading.{behind_refused, behind_plain}
use Rattle.types.proofs.Shapes.{shape_is, row, unnumbered_bool, unnumbered_left}
use Rattle.types.proofs.read.read_other.Goals as goal

pub returns-then-kind-ge8 : goal.returns-then-kind-ge8
returns-then-kind-ge8 c = ap refusal_said c.at.ensures ∙ sym (behind_refused c.args.kind c.args.flags (drop 1 c.args.input.now) reserved
    (unnumbered_left c.args.kind c.requires.kind_value c.if-kind-ge8.true) 8 0 refl)

pub address_len-requires : goal.address_len-requires
address_len-requires c = (c.if-kind-ge6.true, omega (arith, c.if-kind-ge8.false))

pub read_address-requires : goal.read_address-requires
read_address-requires c =
    record { input_nonzero = c.requires.input_nonzero; kind_value = c.address_len.ensures }

pub returns-then-kind-ge6 : goal.returns-then-kind-ge6
returns-then-kind-ge6 c = c.read_address.ensures

pub returns-then-kind-eq0 : goal.returns-then-kind-eq0
returns-then-kind-eq0 c = sym (behind_plain c.args.kind c.args.flags (drop 1 c.args.input.now) nothing (row 0 c.if-kind-eq0.true shape_is.0) 0 0 c.args.flags 0 refl refl)

pub returns-else-kind-eq0 : goal.returns-else-kind-eq0
returns-else-kind-eq0 c = sym (behind_plain c.args.kind c.args.flags (drop 1 c.args.input.now) flag
    (unnumbered_bool c.args.kind c.requires.kind_value c.if-kind-eq0.false (omega (arith, c.if-kind-ge6.false))) (c.args.flags % 2) 0 0 0 refl refl)
