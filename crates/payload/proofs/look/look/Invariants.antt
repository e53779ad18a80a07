-- `payload::look::look` meets its contract: what is left from the loop's place on comes to the whole payload's answer.
use Prim.Native.Nat.{◌-◌}
use lib.ListN.{length}
use Rattle.payload.specs.Payload.{Contents, payload}
use Rattle.payload.specs.Inner.{Stands}
use Rattle.payload.proofs.Passing.{Goes}
use Rattle.payload.proofs.look.look.Given as goal

abbrev pub invariant-loop-next : goal.invariant-loop-next
invariant-loop-next l = (c : Contents) × Stands l.kind l.start l.input l.x c × Goes l.kind l.rooms l.input l.x c (payload l.kind l.rooms l.start l.input)

abbrev pub decreases-loop-next : goal.decreases-loop-next
decreases-loop-next l = length l.input - l.x.at
