use Prim.Native.Nat.{◌+◌, ◌-◌, ◌/◌, ◌%◌}
use mathlib.Core.List.{[], ◌∷◌}
use native.Mathlib.Omega.{arith}
use lib.ListN.{length-set}
use Rattle.varint.specs.Number.{groups}
use Rattle.varint.proofs.Writing.{nine_on, groups_last}
use Rattle.answer.proofs.Output.{Partly, partly_none, partly_next, partly_place, partly_count, partly_all, partly_length}
use Rattle.varint.proofs.encode_more.Goals as goal
use Rattle.varint.proofs.encode_more.Goals.{After-loop-rest, In-loop-rest}

-- what is left to write starts with the byte that is written next, in the loop and after it
on : (c : In-loop-rest)
    → Partly (groups 9 c.args.steps) c.args.out.now c.loop-rest.at
    ((128 + c.loop-rest.rest % 128) ∷ groups 9 ((c.loop-rest.rest - 128) / 128)) c.loop-rest.out
on c = rw (nine_on c.loop-rest.rest c.loop-rest-test.true c.loop-rest.invariant.1) at c.loop-rest.invariant.0

last : (c : After-loop-rest)
    → Partly (groups 9 c.args.steps) c.args.out.now c.loop-rest.at (c.loop-rest.rest ∷ []) c.loop-rest.out
last c = rw (groups_last 8 c.loop-rest.rest c.loop-rest-test.false) at c.loop-rest.invariant.0

pub loop-rest-init : goal.loop-rest-init
loop-rest-init c = (partly_none _ _ c.requires.steps_in_bounds, c.requires.steps_bound)

pub bounds-out-at : goal.bounds-out-at
bounds-out-at c = partly_place (on ((goal.at.bounds-out-at c).In-loop-rest))

pub overflow_add-at : goal.overflow_add-at
overflow_add-at c = omega (arith, partly_place (on ((goal.at.overflow_add-at c).In-loop-rest)), partly_length (on ((goal.at.overflow_add-at c).In-loop-rest)))

pub loop-rest-preserved : goal.loop-rest-preserved
loop-rest-preserved c = (partly_next (on ((goal.at.loop-rest-preserved c).In-loop-rest)), omega arith)

pub bounds-out-at-2 : goal.bounds-out-at-2
bounds-out-at-2 c = partly_place (last ((goal.at.bounds-out-at-2 c).After-loop-rest))

pub overflow_add-result : goal.overflow_add-result
overflow_add-result c = omega (arith, partly_place (last ((goal.at.overflow_add-result c).After-loop-rest)), partly_length (last ((goal.at.overflow_add-result c).After-loop-rest)))

pub shape_of-out : goal.shape_of-out
shape_of-out c = simp (length-set, partly_length (last ((goal.at.shape_of-out c).After-loop-rest)))

pub returns : goal.returns
returns c =
    record { value = partly_count (partly_next (last ((goal.at.returns c).After-loop-rest))); out_after = partly_all (partly_next (last ((goal.at.returns c).After-loop-rest))) }
