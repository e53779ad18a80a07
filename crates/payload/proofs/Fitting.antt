-- Laws about room: records that were read into other tables are copied from there.
use mathlib.Core.Path.{◌≡◌, refl, sym, ap, ◌∙◌}
use mathlib.Core.List.{List}
use Prim.Native.Nat.{ℕ, ◌*◌, ◌≤◌, ◌<◌}
use native.Mathlib.Omega.{arith}
use lib.ListN.{length, take, drop, length-append}
use lib.Seq.{take_at}
use borrow.Author.Tests.{lt-leb}
use Rattle.answer.specs.Answer.{Answer, done, refused, written, leaves}
use Rattle.answer.specs.Order.{in_order}
use Rattle.answer.specs.Table.{joined}
use Rattle.answer.proofs.Cases.{not_both}
use Rattle.frame.specs.Records.{message_width, message_numbers, pair_width, pair_numbers, action_width, action_numbers}
use Rattle.payload.specs.declared.Counts.{Counts}
use Rattle.payload.specs.declared.Cursor.{Cursor}
use Rattle.std.specs.Prelude.{Result, Ok, Err}
use Rattle.answer.specs.Writes.{refusal_said}
use Rattle.payload.specs.declared.Cursor.{Cursor}
use Rattle.payload.specs.declared.Halt.{Halt}
use Rattle.payload.specs.declared.Payload.{Payload}
use Rattle.payload.specs.Payload.{Contents, payload}
use Rattle.payload.specs.Promise.{counts_of, payload_tells, rooms_of, Fills}
use Rattle.payload.specs.Inner.{passed_said, Passes, Accepted, Leaves, LeavesAccepted}
use Rattle.answer.proofs.Answers.{done_same}
use Rattle.payload.proofs.Filling.{joined_width}
use Rattle.payload.proofs.Holding.{payload_fits}

-- the front of a table that was filled
front : (numbers old new : List ℕ) (n : ℕ) → length numbers ≡ n → new ≡ leaves (written numbers) old → (take n new ≡ numbers) × (n ≤ length new)
front numbers old new n count e = (
  ap (take n) e ∙ take_at numbers (drop (length numbers) old) n count,
  omega (arith, count, ap length e ∙ length-append numbers (drop (length numbers) old)),
)

-- what is said to be read with counts is accepted, and has them
pub tells_done : (a : Answer Contents) (n : Counts) (used : ℕ) → done n used ≡ payload_tells a → (c : Contents) × (a ≡ done c used) × (counts_of c ≡ n)
tells_done (done c m) n used e = let q = done_same e in (c, ap (done c) (sym q.1), sym q.0)
tells_done (refused m place) n used e = not_both (sym e) refl

module _ (kind : Payload) (start : ℕ) (s own_messages new_messages own_pairs new_pairs own_actions new_actions : List ℕ) (n : Counts) (used : ℕ)
    (says : done n used ≡ payload_tells (payload kind (rooms_of own_messages own_pairs own_actions) start s))
    (fills : LeavesAccepted kind start s own_messages new_messages own_pairs new_pairs own_actions new_actions) where
  pub found : (c : Contents) × (payload kind (rooms_of own_messages own_pairs own_actions) start s ≡ done c used) × (counts_of c ≡ n)
  found = tells_done (payload kind (rooms_of own_messages own_pairs own_actions) start s) n used says

  filled : Fills (done found.0 used) own_messages new_messages own_pairs new_pairs own_actions new_actions
  filled = rw found.1 at (fills (record { contents = found.0; end = used; is = found.1 }))

  -- the records stand at the front of these tables
  pub own_messages_lem : (take (n.messages * message_width) new_messages ≡ joined message_numbers found.0.messages) × (n.messages * message_width ≤ length new_messages)
  own_messages_lem =
      front _ own_messages new_messages (n.messages * message_width)
      (joined_width message_numbers message_width (λ m. refl) found.0.messages ∙ ap (λ (k : Counts). k.messages * message_width) found.2) filled.messages

  pub own_pairs_lem : (take (n.pairs * pair_width) new_pairs ≡ joined pair_numbers found.0.pairs) × (n.pairs * pair_width ≤ length new_pairs)
  own_pairs_lem =
      front _ own_pairs new_pairs (n.pairs * pair_width)
      (joined_width pair_numbers pair_width (λ p. refl) found.0.pairs ∙ ap (λ (k : Counts). k.pairs * pair_width) found.2) filled.pairs

  pub own_actions_lem : (take (n.actions * action_width) new_actions ≡ joined action_numbers found.0.actions) × (n.actions * action_width ≤ length new_actions)
  own_actions_lem =
      front _ own_actions new_actions (n.actions * action_width)
      (joined_width action_numbers action_width (λ a. refl) found.0.actions ∙ ap (λ (k : Counts). k.actions * action_width) found.2) filled.actions

  -- and are copied to the front of others that have room for them
  module _ (messages pairs actions : List ℕ) (hm : n.messages * message_width ≤ length messages) (hp : n.pairs * pair_width ≤ length pairs) (ha : n.actions * action_width ≤ length actions) where
    same : payload kind (rooms_of messages pairs actions) start s ≡ done found.0 used
    same =
        payload_fits (rooms_of own_messages own_pairs own_actions) (rooms_of messages pairs actions) s kind start found.0 used found.1
        (rw found.2 (record { messages = omega (arith, hm); pairs = omega (arith, hp); actions = omega (arith, ha) }))

    pub copied_says : done n used ≡ payload_tells (payload kind (rooms_of messages pairs actions) start s)
    copied_says = ap (λ (k : Counts). done k used) (sym found.2) ∙ ap payload_tells (sym same)

    pub copied_fills : (after_messages after_pairs after_actions : List ℕ)
        → after_messages ≡ leaves (written (take (n.messages * message_width) new_messages)) messages
        → after_pairs ≡ leaves (written (take (n.pairs * pair_width) new_pairs)) pairs
        → after_actions ≡ leaves (written (take (n.actions * action_width) new_actions)) actions
        → Leaves kind start s messages after_messages pairs after_pairs actions after_actions
    copied_fills after_messages after_pairs after_actions em ep ea =
        rw same
        (record {
          messages = em ∙ ap (λ (l : List ℕ). leaves (written l) messages) own_messages_lem.0;
          pairs = ep ∙ ap (λ (l : List ℕ). leaves (written l) pairs) own_pairs_lem.0;
          actions = ea ∙ ap (λ (l : List ℕ). leaves (written l) actions) own_actions_lem.0;
        })

-- ---- a payload that starts behind the bytes

module _ (kind : Payload) (rooms : Counts) (start : ℕ) (s : List ℕ) (h : length s < start) where
  pub behind_refused : payload kind rooms start s ≡ refused 3 (length s)
  unfolding payload in_order
  behind_refused = rw (lt-leb start (length s) h)

  pub behind_tells : refused 3 (length s) ≡ payload_tells (payload kind rooms start s)
  behind_tells = rw behind_refused

  pub behind_fills : (messages pairs actions : List ℕ) → Fills (payload kind rooms start s) messages messages pairs pairs actions actions
  behind_fills messages pairs actions = rw behind_refused (record { messages = refl; pairs = refl; actions = refl })

-- ---- what a pass says of the payload

module _ {kind : Payload} {rooms : Counts} {start : ℕ} {s : List ℕ} {r : Result Cursor Halt} (g : Passes kind rooms start s r) where
  pub passed_accepted : {x : Cursor} → r ≡ Ok x → Accepted kind rooms start s
  passed_accepted {x} e =
      let o = tells_done (payload kind rooms start s) (record { messages = x.messages; pairs = x.pairs; actions = x.actions }) x.at (ap passed_said (sym e) ∙ g.says) in
      record { contents = o.0; end = x.at; is = o.1 }

  pub passed_nothing : {h : Halt} → r ≡ Err h → (messages pairs actions : List ℕ) → Fills (payload kind rooms start s) messages messages pairs pairs actions actions
  passed_nothing {h} e messages pairs actions =
      let says : refusal_said h.refusal ≡ payload_tells (payload kind rooms start s) = ap passed_said (sym e) ∙ g.says in
      go (payload kind rooms start s) says
    where
      go : (a : Answer Contents) → refusal_said h.refusal ≡ payload_tells a → Fills a messages messages pairs pairs actions actions
      go (done c n) f = not_both refl (sym f)
      go (refused n place) f = record { messages = refl; pairs = refl; actions = refl }
