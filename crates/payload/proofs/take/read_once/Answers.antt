-- `payload::take::read_once` meets its contract: what was read into the tables here is copied where there is room, and else nothing is.
use mathlib.Core.Path.{◌≡◌, sym, ap, ◌∙◌}
use Prim.Native.Nat.{◌*◌, ◌≤◌}
use native.Mathlib.Omega.{arith}
use lib.ListN.{length, take}
use lib.Seq.{length-take-le}
use Rattle.answer.specs.Answer.{done}
use Rattle.answer.proofs.Output.{writes_room}
use Rattle.frame.specs.Records.{message_width, pair_width, action_width}
use Rattle.payload.specs.declared.Counts.{Counts}
use Rattle.payload.specs.declared.Cursor.{Cursor}
use Rattle.payload.specs.Inner.{passed_said}
use Rattle.payload.proofs.Fitting.{own_messages_lem, own_pairs_lem, own_actions_lem, copied_says, copied_fills}
use Rattle.payload.proofs.take.read_once.Goals as goal
use Rattle.payload.proofs.take.read_once.Goals.{In-Ok}

abbrev counts : Cursor → Counts
counts x = record { messages = x.messages; pairs = x.pairs; actions = x.actions }

said : (k : In-Ok) → done (counts k.in-Ok.x) k.in-Ok.x.at ≡ passed_said k.take-found.result
said k = ap passed_said (sym k.in-Ok.is)

messages_in_lem : (k : In-Ok) → (counts k.in-Ok.x).messages * message_width ≤ length k.take-found.new.messages
messages_in_lem k = (own_messages_lem _ _ _ _ _ _ _ _ _ _ _ (said k ∙ k.take-found.ensures.passes.says) k.take-found.ensures.leaves_accepted).1

pairs_in_lem : (k : In-Ok) → (counts k.in-Ok.x).pairs * pair_width ≤ length k.take-found.new.pairs
pairs_in_lem k = (own_pairs_lem _ _ _ _ _ _ _ _ _ _ _ (said k ∙ k.take-found.ensures.passes.says) k.take-found.ensures.leaves_accepted).1

actions_in : (k : In-Ok) → (counts k.in-Ok.x).actions * action_width ≤ length k.take-found.new.actions
actions_in k = (own_actions_lem _ _ _ _ _ _ _ _ _ _ _ (said k ∙ k.take-found.ensures.passes.says) k.take-found.ensures.leaves_accepted).1

-- each table has room
pub overflow_mul-message_numbers : goal.overflow_mul-message_numbers
overflow_mul-message_numbers c = omega (arith, c.if-messages-x.false, c.well_formed)

pub overflow_mul-pair_numbers : goal.overflow_mul-pair_numbers
overflow_mul-pair_numbers c = omega (arith, c.if-pairs-x.false, c.well_formed)

pub overflow_mul-action_numbers : goal.overflow_mul-action_numbers
overflow_mul-action_numbers c = omega (arith, c.if-actions-x.false, c.well_formed)

pub slice_bounds-own_messages-end : goal.slice_bounds-own_messages-end
slice_bounds-own_messages-end c = messages_in_lem ((goal.at.slice_bounds-own_messages-end c).In-Ok)

pub slice_bounds-put-end : goal.slice_bounds-put-end
slice_bounds-put-end c = sym (length-take-le _ _ (messages_in_lem ((goal.at.slice_bounds-put-end c).In-Ok)))

pub slice_bounds-own_pairs-end : goal.slice_bounds-own_pairs-end
slice_bounds-own_pairs-end c = pairs_in_lem ((goal.at.slice_bounds-own_pairs-end c).In-Ok)

pub slice_bounds-put-end-2 : goal.slice_bounds-put-end-2
slice_bounds-put-end-2 c = sym (length-take-le _ _ (pairs_in_lem ((goal.at.slice_bounds-put-end-2 c).In-Ok)))

pub slice_bounds-own_actions-end : goal.slice_bounds-own_actions-end
slice_bounds-own_actions-end c = actions_in ((goal.at.slice_bounds-own_actions-end c).In-Ok)

pub slice_bounds-put-end-3 : goal.slice_bounds-put-end-3
slice_bounds-put-end-3 c = sym (length-take-le _ _ (actions_in ((goal.at.slice_bounds-put-end-3 c).In-Ok)))

pub returns : goal.returns
returns c =
    let a = c.args in
    let n = counts c.in-Ok.x in
    let ms = c.take-found.new.messages in
    let ps = c.take-found.new.pairs in
    let xs = c.take-found.new.actions in
    let hm : n.messages * message_width ≤ length a.messages.now = omega (arith, c.if-messages-x.false) in
    let hp : n.pairs * pair_width ≤ length a.pairs.now = omega (arith, c.if-pairs-x.false) in
    let ha : n.actions * action_width ≤ length a.actions.now = omega (arith, c.if-actions-x.false) in
    let q = said ((goal.at.returns c).In-Ok) ∙ c.take-found.ensures.passes.says in (
      copied_says _ _ _ _ _ _ _ _ _ _ _ q c.take-found.ensures.leaves_accepted a.messages.now a.pairs.now a.actions.now hm hp ha,
      copied_fills _ _ _ _ _ _ _ _ _ _ _ q c.take-found.ensures.leaves_accepted a.messages.now a.pairs.now a.actions.now hm hp ha _ _ _
          (writes_room (take (n.messages * message_width) ms) c.put.ensures (omega (arith, hm, length-take-le (n.messages * message_width) ms (messages_in_lem ((goal.at.returns c).In-Ok)))))
          (writes_room (take (n.pairs * pair_width) ps) c.put-2.ensures (omega (arith, hp, length-take-le (n.pairs * pair_width) ps (pairs_in_lem ((goal.at.returns c).In-Ok)))))
          (writes_room (take (n.actions * action_width) xs) c.put-3.ensures (omega (arith, ha, length-take-le (n.actions * action_width) xs (actions_in ((goal.at.returns c).In-Ok))))),
    )
