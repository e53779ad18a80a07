-- `payload::fill::fill` meets its contract: what was met is filled in, and what is left comes to the whole payload, which is accepted.
use Prim.Native.Nat.{◌-◌}
use lib.ListN.{length}
use Rattle.payload.proofs.Filling.{Filling}
use Rattle.payload.proofs.fill.fill.Given as goal

abbrev pub invariant-loop-next : goal.invariant-loop-next
invariant-loop-next l = Filling l.kind l.start l.input l.initial.messages l.initial.pairs l.initial.actions l.x l.messages l.pairs l.actions

abbrev pub decreases-loop-next : goal.decreases-loop-next
decreases-loop-next l = length l.input - l.x.at
