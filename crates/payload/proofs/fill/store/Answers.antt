-- `payload::fill::store` meets its contract, item by item: a record's numbers go to the tail of its table that is lent on.
use mathlib.Core.Path.{refl}
use Prim.Native.Nat.{◌+◌, ◌*◌, ◌≤◌}
use native.Mathlib.Omega.{arith}
use lib.ListN.{length}
use Rattle.frame.specs.Records.{message_width, message_numbers, pair_width, pair_numbers, action_width, action_numbers}
use Rattle.payload.proofs.Putting.{record_stored}
use Rattle.payload.proofs.fill.store.Goals as goal
use Rattle.payload.proofs.fill.store.Goals.{In-Action, In-Message, In-Pair}

-- there is room for the record
room : (c : In-Pair) → let a = c.args in a.x.pairs * pair_width + pair_width ≤ length a.pairs.now
room c = rw c.in-Pair.is at c.requires

room_2 : (c : In-Message) → let a = c.args in a.x.messages * message_width + message_width ≤ length a.messages.now
room_2 c = rw c.in-Message.is at c.requires

room_3 : (c : In-Action) → let a = c.args in a.x.actions * action_width + action_width ≤ length a.actions.now
room_3 c = rw c.in-Action.is at c.requires

pub overflow_mul-from : goal.overflow_mul-from
overflow_mul-from c = omega (arith, room ((goal.at.overflow_mul-from c).In-Pair), c.well_formed)

pub offset_bounds-pairs-from : goal.offset_bounds-pairs-from
offset_bounds-pairs-from c = omega (arith, room ((goal.at.offset_bounds-pairs-from c).In-Pair), c.well_formed)

pub slice_bounds-put-count : goal.slice_bounds-put-count
slice_bounds-put-count c = omega (arith, room ((goal.at.slice_bounds-put-count c).In-Pair))

pub overflow_mul-from-in-Message : goal.overflow_mul-from-in-Message
overflow_mul-from-in-Message c = omega (arith, room_2 ((goal.at.overflow_mul-from-in-Message c).In-Message), c.well_formed)

pub offset_bounds-messages-from : goal.offset_bounds-messages-from
offset_bounds-messages-from c = omega (arith, room_2 ((goal.at.offset_bounds-messages-from c).In-Message), c.well_formed)

pub slice_bounds-put-count-in-Message : goal.slice_bounds-put-count-in-Message
slice_bounds-put-count-in-Message c = omega (arith, room_2 ((goal.at.slice_bounds-put-count-in-Message c).In-Message))

pub overflow_mul-from-in-Action : goal.overflow_mul-from-in-Action
overflow_mul-from-in-Action c = omega (arith, room_3 ((goal.at.overflow_mul-from-in-Action c).In-Action), c.well_formed)

pub offset_bounds-actions-from : goal.offset_bounds-actions-from
offset_bounds-actions-from c = omega (arith, room_3 ((goal.at.offset_bounds-actions-from c).In-Action), c.well_formed)

pub slice_bounds-put-count-in-Action : goal.slice_bounds-put-count-in-Action
slice_bounds-put-count-in-Action c = omega (arith, room_3 ((goal.at.slice_bounds-put-count-in-Action c).In-Action))

pub returns-in-Pair : goal.returns-in-Pair
returns-in-Pair c =
    let a = c.args in
    rw c.in-Pair.is (refl, record_stored (a.x.pairs * pair_width) (pair_numbers c.in-Pair.pair) a.pairs.now (room ((goal.at.returns-in-Pair c).In-Pair)) c.from.ensures c.put.ensures, refl)

pub returns-in-Message : goal.returns-in-Message
returns-in-Message c =
    let a = c.args in
    rw c.in-Message.is (record_stored (a.x.messages * message_width) (message_numbers c.in-Message.message) a.messages.now (room_2 ((goal.at.returns-in-Message c).In-Message)) c.from-in-Message.ensures c.put-in-Message.ensures, refl, refl)

pub returns-in-Action : goal.returns-in-Action
returns-in-Action c =
    let a = c.args in
    rw c.in-Action.is (refl, refl, record_stored (a.x.actions * action_width) (action_numbers c.in-Action.action) a.actions.now (room_3 ((goal.at.returns-in-Action c).In-Action)) c.from-in-Action.ensures c.put-in-Action.ensures)

pub slice_bounds-put-start : goal.slice_bounds-put-start
slice_bounds-put-start c = slice_bounds-put-count c

pub slice_bounds-put-start-in-Message : goal.slice_bounds-put-start-in-Message
slice_bounds-put-start-in-Message c = slice_bounds-put-count-in-Message c

pub slice_bounds-put-start-in-Action : goal.slice_bounds-put-start-in-Action
slice_bounds-put-start-in-Action c = slice_bounds-put-count-in-Action c
