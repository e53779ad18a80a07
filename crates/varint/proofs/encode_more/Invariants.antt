-- `varint::encode_more` meets its contract. The loop's invariant: the groups are partly written, and what is left to write are the
-- groups of `rest`. Each turn writes the first of them, and the store after the loop the last.
use Prim.Native.Nat.{◌<◌, ◌^◌}
use Rattle.varint.specs.Number.{groups}
use Rattle.answer.proofs.Output.{Partly}
use Rattle.varint.proofs.encode_more.Given as goal

abbrev pub invariant-loop-rest : goal.invariant-loop-rest
invariant-loop-rest l = (Partly (groups 9 l.steps) l.initial.out l.at (groups 9 l.rest) l.out) × (l.rest < 2 ^ 60)

abbrev pub decreases-loop-rest : goal.decreases-loop-rest
decreases-loop-rest l = l.rest
