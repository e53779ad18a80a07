-- `payload::next::item` meets its contract: an argument that is due, the end, or one of the list, by the payload's kind.
use mathlib.Core.Path.{◌≡◌, sym, ◌∙◌}
use Prim.Native.Nat.{◌-◌}
use native.Mathlib.Omega.{arith}
use Rattle.payload.specs.Item.{listed, item_at}
use Rattle.payload.proofs.Passing.{item_due, item_listed, item_end}
use Rattle.payload.proofs.next.item.Goals as goal
use Rattle.payload.proofs.next.item.Goals.{Else-input-x}

pub returns-then-x-gt0 : goal.returns-then-x-gt0
returns-then-x-gt0 c =
    let x = c.args.x in
    c.pair_item.ensures ∙ sym (item_due _ _ x (x.left - 1) (omega (arith, c.if-x-gt0.true)))

pub returns-then-input-x : goal.returns-then-input-x
returns-then-input-x c = sym (item_end _ _ _ (omega (arith, c.if-x-gt0.false)) c.if-input-x.true)

-- where no argument is due, before the end
on : (c : Else-input-x) → let a = c.args in item_at a.kind a.input.now a.x ≡ listed a.kind a.input.now a.x
on c = item_listed _ _ _ (omega (arith, c.if-x-gt0.false)) c.if-input-x.false

pub returns-in-KvList : goal.returns-in-KvList
returns-in-KvList c = rw (on ((goal.at.returns-in-KvList c).Else-input-x), c.in-KvList.is) c.pair_item-in-KvList.ensures

pub returns-in-Messages : goal.returns-in-Messages
returns-in-Messages c = rw (on ((goal.at.returns-in-Messages c).Else-input-x), c.in-Messages.is) c.message_item.ensures

pub returns-in-Actions : goal.returns-in-Actions
returns-in-Actions c = rw (on ((goal.at.returns-in-Actions c).Else-input-x), c.in-Actions.is) c.action_item.ensures
