use Rattle.std.proofs.Common.{◌∙◌, sym, ap, arith}
use Rattle.payload.specs.Payload.{empty}
use Rattle.payload.specs.Inner.{tests}
use Rattle.payload.proofs.Passing.{comes, with_item, stands_start, goes_start, key_inside, low, sought, then_on, then_end, then_not, tests_not, passes_done, passes_refused}
use Rattle.payload.proofs.look.look.Goals as goal

pub loop-next-init : goal.loop-next-init
loop-next-init c =
    let there = c.requires in
    rw c.begin-x.ensures (empty, stands_start _ _ _ there, goes_start _ _ _ there _)

pub returns-in-Ok-None : goal.returns-in-Ok-None
returns-in-Ok-None c = passes_done c.loop-next.invariant.1 (then_end c.loop-next.invariant.1 c.loop-next.invariant.2 (comes c.in-Ok-None.field-0-is c.in-Ok-None.ensures))

pub returns-in-Err : goal.returns-in-Err
returns-in-Err c =
    let i = c.loop-next.invariant in
    let a = c.args in
    passes_refused i.1 c.in-Err.refusal
    (ap (tests a.rooms a.input.now c.loop-next.x i.0) (sym c.in-Err.ensures) ∙ tests_not a.rooms a.input.now c.loop-next.x i.0 _ _)
    (then_not i.1 i.2 _ _ c.in-Err.ensures)

pub tested-requires-clause-key_inside : goal.tested-requires-clause-key_inside
tested-requires-clause-key_inside c = key_inside _ _ _ _ (comes c.in-Ok-Some.field-0-is c.in-Ok-Some.ensures)

pub tested-requires-clause-low : goal.tested-requires-clause-low
tested-requires-clause-low c = low c.loop-next.invariant.1 (omega (arith, c.well_formed))

pub loop-next-smaller : goal.loop-next-smaller
loop-next-smaller c =
    let i = c.loop-next.invariant in
    let n = then_on i.1 i.2 c.in-Ok-Some.next (comes c.in-Ok-Some.field-0-is c.in-Ok-Some.ensures) (c.in-Ok.ensures i.0 (sought i.1 c.in-Ok-Some.next (comes c.in-Ok-Some.field-0-is c.in-Ok-Some.ensures))) in
    omega (arith, n.1, n.2.place)

pub loop-next-preserved : goal.loop-next-preserved
loop-next-preserved c =
    let i = c.loop-next.invariant in
    let n = then_on i.1 i.2 c.in-Ok-Some.next (comes c.in-Ok-Some.field-0-is c.in-Ok-Some.ensures) (c.in-Ok.ensures i.0 (sought i.1 c.in-Ok-Some.next (comes c.in-Ok-Some.field-0-is c.in-Ok-Some.ensures))) in
    (with_item i.0 c.in-Ok-Some.next, n.2, n.3)

pub returns-in-Err-tested : goal.returns-in-Err-tested
returns-in-Err-tested c =
    let i = c.loop-next.invariant in
    let a = c.args in
    let t = c.in-Err-tested.ensures i.0 (sought i.1 c.in-Ok-Some.next (comes c.in-Ok-Some.field-0-is c.in-Ok-Some.ensures)) in
    passes_refused i.1 c.in-Err-tested.refusal
    (ap (tests a.rooms a.input.now c.loop-next.x i.0) (sym (comes c.in-Ok-Some.field-0-is c.in-Ok-Some.ensures)) ∙ sym t)
    (then_on i.1 i.2 c.in-Ok-Some.next (comes c.in-Ok-Some.field-0-is c.in-Ok-Some.ensures) t)
