-- `payload::next::next_item` meets its contract: behind the bytes no pair stands, and a list is at its end.
use Rattle.answer.specs.Writes.{refusal_said}
use mathlib.Core.Path.{sym, ap, ◌∙◌}
use Prim.Native.Nat.{◌-◌}
use native.Mathlib.Omega.{arith}
use Rattle.payload.specs.declared.Item.TheVariants as i
use Rattle.payload.specs.Item.{item_of}
use Rattle.payload.proofs.Pairs.{from_past}
use Rattle.payload.proofs.Passing.{item_due, item_end}
use Rattle.payload.proofs.next.next_item.Goals as goal

pub returns-then-x-gt0 : goal.returns-then-x-gt0
returns-then-x-gt0 c =
    let a = c.args in
    ap refusal_said c.at.ensures
    ∙ sym (item_due _ _ a.x (a.x.left - 1) (omega (arith, c.if-x-gt0.true)) ∙ ap (item_of i.Pair) (from_past a.input.now a.x.at (omega (arith, c.if-x-input.false))))

pub returns : goal.returns
returns c =
    let a = c.args in
    sym (item_end _ a.input.now a.x (omega (arith, c.if-x-gt0.false)) (omega (arith, c.if-x-input.false)))
