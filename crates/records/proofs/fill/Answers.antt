use Rattle.std.proofs.Common.{rules, ◌≡◌, ◌∙◌, refl, ap, arith, ◌+◌, ◌*◌, ◌≤◌, ◌++◌, [], ◌∷◌, length, Some}
use Rattle.frame.specs.Records.{message_width, message_numbers}
use Rattle.payload.specs.declared.Item.TheVariants as i
use Rattle.payload.specs.Item.{one, item_at}
use Rattle.payload.proofs.Passing.{comes}
use Rattle.payload.proofs.Putting.{record_put}
use Rattle.records.proofs.Meeting.{meets_start, meets_many, meets_pair, meets_room, meets_message, meets_action, meets_refusal, meets_end, stored}
use Rattle.records.proofs.fill.Goals as goal
use Rattle.records.proofs.fill.Goals.{In-Ok-Some-Message, In-Ok-Some-Pair}

pub loop-pair-init : goal.loop-pair-init
loop-pair-init c =
    let zero : c.default.result ≡ record { at = 0; left = 0; messages = 0; pairs = 0; actions = 0 } = search rules in
    rw zero ([], meets_start _ _ _ _ _ c.requires, refl)

-- a pair that comes next has room, and is stored behind those that were met
next_pair : (c : In-Ok-Some-Pair) → one (i.Pair c.in-Ok-Some-Pair.pair c.in-Ok-Some-Pair.end) ≡ item_at c.args.kind c.args.input.now c.loop-pair.x
next_pair c = comes (c.in-Ok-Some-Pair.field-0-is ∙ ap Some c.in-Ok-Some-Pair.field-0-0-is) c.in-Ok-Some-Pair.ensures

pub bounds-pairs-x : goal.bounds-pairs-x
bounds-pairs-x c =
    let i = c.loop-pair.invariant in
    omega (arith, (meets_pair i.1 _ _ (next_pair ((goal.at.bounds-pairs-x c).In-Ok-Some-Pair))).0, meets_many i.1, c.loop-pair.auto.pairs)

pub loop-pair-smaller-in-Ok-Some-Pair : goal.loop-pair-smaller-in-Ok-Some-Pair
loop-pair-smaller-in-Ok-Some-Pair c =
    let m = meets_pair c.loop-pair.invariant.1 _ _ (next_pair ((goal.at.loop-pair-smaller-in-Ok-Some-Pair c).In-Ok-Some-Pair)) in
    omega (arith, m.1, m.2.stands.place)

pub loop-pair-preserved-in-Ok-Some-Pair : goal.loop-pair-preserved-in-Ok-Some-Pair
loop-pair-preserved-in-Ok-Some-Pair c =
    let i = c.loop-pair.invariant in
    let m = meets_pair i.1 _ _ (next_pair ((goal.at.loop-pair-preserved-in-Ok-Some-Pair c).In-Ok-Some-Pair)) in
    rw (c.saturating_sub.ensures, i.2) (i.0 ++ (c.in-Ok-Some-Pair.pair ∷ []), m.2, stored i.0 c.args.pairs.now _ _ (meets_many i.1) (omega (arith, m.0, meets_many i.1)))

-- so has a message
next_message : (c : In-Ok-Some-Message) → one (i.Message c.in-Ok-Some-Message.message c.in-Ok-Some-Message.end) ≡ item_at c.args.kind c.args.input.now c.loop-pair.x
next_message c = comes (c.in-Ok-Some-Message.field-0-is ∙ ap Some c.in-Ok-Some-Message.field-0-0-is) c.in-Ok-Some-Message.ensures

room : (c : In-Ok-Some-Message) → c.loop-pair.x.messages * message_width + message_width ≤ length c.loop-pair.messages
room c = omega (arith, meets_room c.loop-pair.invariant.1 _ _ (next_message c))

pub overflow_mul-from : goal.overflow_mul-from
overflow_mul-from c = omega (arith, room ((goal.at.overflow_mul-from c).In-Ok-Some-Message), c.loop-pair.auto.messages, c.well_formed)

pub offset_bounds-messages-from : goal.offset_bounds-messages-from
offset_bounds-messages-from c = omega (arith, room ((goal.at.offset_bounds-messages-from c).In-Ok-Some-Message), c.loop-pair.auto.messages, c.well_formed)

pub slice_bounds-put-count : goal.slice_bounds-put-count
slice_bounds-put-count c = omega (arith, room ((goal.at.slice_bounds-put-count c).In-Ok-Some-Message))

pub slice_bounds-put-start : goal.slice_bounds-put-start
slice_bounds-put-start c = slice_bounds-put-count c

pub loop-pair-smaller : goal.loop-pair-smaller
loop-pair-smaller c =
    let m = meets_message c.loop-pair.invariant.1 _ _ (next_message ((goal.at.loop-pair-smaller c).In-Ok-Some-Message)) in
    omega (arith, m.0, m.1.stands.place)

pub loop-pair-preserved : goal.loop-pair-preserved
loop-pair-preserved c =
    let i = c.loop-pair.invariant in
    let k = (goal.at.loop-pair-preserved c).In-Ok-Some-Message in
    rw (record_put (c.loop-pair.x.messages * message_width) (message_numbers c.in-Ok-Some-Message.message) c.loop-pair.messages (room k) c.from.ensures c.put.ensures)
    (i.0, (meets_message i.1 _ _ (next_message k)).1, i.2)

-- no action, the end, and no refusal
pub returns-in-Ok-Some-Action : goal.returns-in-Ok-Some-Action
returns-in-Ok-Some-Action c =
    meets_action c.loop-pair.invariant.1 _ _ (comes (c.in-Ok-Some-Action.field-0-is ∙ ap Some c.in-Ok-Some-Action.field-0-0-is) c.in-Ok-Some-Action.ensures)

pub returns-in-Ok-None : goal.returns-in-Ok-None
returns-in-Ok-None c =
    let i = c.loop-pair.invariant in
    rw i.2 (meets_end i.1 (comes c.in-Ok-None.field-0-is c.in-Ok-None.ensures) c.args.pairs.now)

pub returns-in-Err : goal.returns-in-Err
returns-in-Err c = meets_refusal c.loop-pair.invariant.1 _ _ c.in-Err.ensures
