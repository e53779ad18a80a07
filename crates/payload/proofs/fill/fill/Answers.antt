use Rattle.std.proofs.Common.{arith}
use Rattle.payload.proofs.Passing.{comes}
use Rattle.payload.proofs.Filling.{filling_start, accepted_fits, accepted_more, accepted_end, accepted_not}
use Rattle.payload.proofs.fill.fill.Goals as goal

pub loop-next-init : goal.loop-next-init
loop-next-init c = rw c.begin-x.ensures (filling_start _ _ _ _ _ _ c.requires.start_in_bounds)

-- what comes next is a record, for which there is room
pub store-requires : goal.store-requires
store-requires c = accepted_fits _ _ _ _ _ _ c.loop-next.invariant c.requires.accepted c.in-Ok-Some.next (comes c.in-Ok-Some.field-0-is c.in-Ok-Some.ensures)

pub after-x-requires : goal.after-x-requires
after-x-requires c =
    let i = c.loop-next.invariant in
    record {
      messages = omega (arith, i.stands.few, i.stands.place, c.well_formed);
      pairs = omega (arith, i.stands.few, i.stands.place, c.well_formed);
      actions = omega (arith, i.stands.few, i.stands.place, c.well_formed);
    }

-- and it is stored
pub loop-next-smaller : goal.loop-next-smaller
loop-next-smaller c =
    let o = accepted_more _ _ _ _ _ _ c.loop-next.invariant c.requires.accepted c.in-Ok-Some.next (comes c.in-Ok-Some.field-0-is c.in-Ok-Some.ensures) c.after-x.result c.after-x.ensures _ _ _ c.store.ensures in
    omega (arith, o.0, o.1.stands.place)

pub loop-next-preserved : goal.loop-next-preserved
loop-next-preserved c =
    (accepted_more _ _ _ _ _ _ c.loop-next.invariant c.requires.accepted c.in-Ok-Some.next (comes c.in-Ok-Some.field-0-is c.in-Ok-Some.ensures) c.after-x.result c.after-x.ensures _ _ _ c.store.ensures).1

pub returns-in-Ok-None : goal.returns-in-Ok-None
returns-in-Ok-None c = accepted_end _ _ _ _ _ _ c.loop-next.invariant c.requires.accepted (comes c.in-Ok-None.field-0-is c.in-Ok-None.ensures)

pub returns-in-Err : goal.returns-in-Err
returns-in-Err c = accepted_not _ _ _ _ _ _ c.loop-next.invariant c.requires.accepted _ _ c.in-Err.ensures
