-- `payload::look::after` meets its contract, item by item.
use mathlib.Core.Path.{◌≡◌}
use Prim.Native.Nat.{◌-◌}
use native.Mathlib.Omega.{arith}
use Rattle.payload.proofs.look.after.Goals as goal

pub returns-then-x-gt0 : goal.returns-then-x-gt0
returns-then-x-gt0 c = rw c.in-Pair.is

pub returns-else-x-gt0 : goal.returns-else-x-gt0
returns-else-x-gt0 c =
    let x = c.args.x in
    let z : x.left - 1 ≡ x.left = omega (arith, c.if-x-gt0.false) in
    rw (c.in-Pair.is, z)

pub returns-in-Message : goal.returns-in-Message
returns-in-Message c = rw c.in-Message.is

pub returns-in-Action : goal.returns-in-Action
returns-in-Action c = rw c.in-Action.is
