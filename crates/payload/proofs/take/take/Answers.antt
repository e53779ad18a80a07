use Rattle.std.proofs.Common.{◌∙◌, sym, ap, arith}
use Rattle.answer.proofs.Cases.{not_both}
use Rattle.payload.specs.Inner.{tests}
use Rattle.payload.specs.Promise.{rooms_of}
use Rattle.payload.proofs.Passing.{comes, key_inside, low, sought, then_on, then_end, then_not, tests_not, passes_done, passes_refused}
use Rattle.payload.proofs.Filling.{filling_start, filling_fits, filling_on, filling_fills, tests_room}
use Rattle.payload.proofs.take.take.Goals as goal

pub loop-next-init : goal.loop-next-init
loop-next-init c = rw c.begin-x.ensures (filling_start _ _ _ _ _ _ c.requires)

pub returns-in-Ok-None-clause-passes : goal.returns-in-Ok-None-clause-passes
returns-in-Ok-None-clause-passes c =
    let i = c.loop-next.invariant in
    passes_done i.stands (then_end i.stands i.goes (comes c.in-Ok-None.field-0-is c.in-Ok-None.ensures))

pub returns-in-Ok-None-clause-leaves_accepted : goal.returns-in-Ok-None-clause-leaves_accepted
returns-in-Ok-None-clause-leaves_accepted c =
    let i = c.loop-next.invariant in
    λ ok. filling_fills _ _ _ _ _ _ i (then_end i.stands i.goes (comes c.in-Ok-None.field-0-is c.in-Ok-None.ensures))

pub returns-in-Err-clause-passes : goal.returns-in-Err-clause-passes
returns-in-Err-clause-passes c =
    let i = c.loop-next.invariant in
    let a = c.args in
    let rooms = rooms_of a.messages.now a.pairs.now a.actions.now in
    passes_refused i.stands c.in-Err.refusal
    (ap (tests rooms a.input.now c.loop-next.x i.met) (sym c.in-Err.ensures) ∙ tests_not rooms a.input.now c.loop-next.x i.met _ _)
    (then_not i.stands i.goes _ _ c.in-Err.ensures)

pub returns-in-Err-clause-leaves_accepted : goal.returns-in-Err-clause-leaves_accepted
returns-in-Err-clause-leaves_accepted c = let i = c.loop-next.invariant in λ ok. not_both ok.is (then_not i.stands i.goes _ _ c.in-Err.ensures)

pub tested-requires-clause-key_inside : goal.tested-requires-clause-key_inside
tested-requires-clause-key_inside c = key_inside _ _ _ _ (comes c.in-Ok-Some.field-0-is c.in-Ok-Some.ensures)

pub tested-requires-clause-low : goal.tested-requires-clause-low
tested-requires-clause-low c = low c.loop-next.invariant.stands (omega (arith, c.well_formed))

pub store-requires : goal.store-requires
store-requires c =
    let i = c.loop-next.invariant in
    let a = c.args in
    let is = comes c.in-Ok-Some.field-0-is c.in-Ok-Some.ensures in
    filling_fits _ _ _ _ _ _ i c.in-Ok-Some.next
    (tests_room (rooms_of a.messages.now a.pairs.now a.actions.now) a.input.now c.loop-next.x i.met c.in-Ok-Some.next c.in-Ok.y (sym (c.in-Ok.ensures i.met (sought i.stands c.in-Ok-Some.next is))))

pub loop-next-smaller : goal.loop-next-smaller
loop-next-smaller c =
    let i = c.loop-next.invariant in
    let is = comes c.in-Ok-Some.field-0-is c.in-Ok-Some.ensures in
    let n = then_on i.stands i.goes c.in-Ok-Some.next is (c.in-Ok.ensures i.met (sought i.stands c.in-Ok-Some.next is)) in
    omega (arith, n.1, n.2.place)

pub loop-next-preserved : goal.loop-next-preserved
loop-next-preserved c =
    let i = c.loop-next.invariant in
    let is = comes c.in-Ok-Some.field-0-is c.in-Ok-Some.ensures in
    (filling_on _ _ _ _ _ _ i c.in-Ok-Some.next c.in-Ok.y is (sym (c.in-Ok.ensures i.met (sought i.stands c.in-Ok-Some.next is))) _ _ _ c.store.ensures).1

pub returns-in-Err-tested-clause-passes : goal.returns-in-Err-tested-clause-passes
returns-in-Err-tested-clause-passes c =
    let i = c.loop-next.invariant in
    let a = c.args in
    let rooms = rooms_of a.messages.now a.pairs.now a.actions.now in
    let is = comes c.in-Ok-Some.field-0-is c.in-Ok-Some.ensures in
    let t = c.in-Err-tested.ensures i.met (sought i.stands c.in-Ok-Some.next is) in
    passes_refused i.stands c.in-Err-tested.refusal
    (ap (tests rooms a.input.now c.loop-next.x i.met) (sym is) ∙ sym t)
    (then_on i.stands i.goes c.in-Ok-Some.next is t)

pub returns-in-Err-tested-clause-leaves_accepted : goal.returns-in-Err-tested-clause-leaves_accepted
returns-in-Err-tested-clause-leaves_accepted c =
    let i = c.loop-next.invariant in
    let is = comes c.in-Ok-Some.field-0-is c.in-Ok-Some.ensures in
    λ ok. not_both ok.is (then_on i.stands i.goes c.in-Ok-Some.next is (c.in-Err-tested.ensures i.met (sought i.stands c.in-Ok-Some.next is)))
