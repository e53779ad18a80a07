-- What only private contracts cite. No public promise rests on anything in this file.
use Rattle.std.specs.Prelude.{◌≡◌, not, ◌&&◌, List, [], ◌∷◌, ◌++◌, ℕ, ◌+◌, ◌-◌, ◌*◌, ◌≤◌, ◌<◌, ◌^◌, ltb, eqb, length, take, drop, Option, Some, None, Result, Ok, Err}
use Rattle.answer.specs.declared.Read.{Read}
use Rattle.answer.specs.declared.Refusal.{Refusal}
use Rattle.answer.specs.Writes.{refusal_said}
use Rattle.answer.specs.Answer.{Answer, done, refused, next, behind, written, leaves}
use Rattle.answer.specs.Order.{in_order}
use Rattle.answer.specs.Inner.{InRow}
use Rattle.frame.specs.declared.Pair.{Pair}
use Rattle.frame.specs.declared.Action.{Action}
use Rattle.frame.specs.Records.{message_width, message_numbers, pair_width, pair_numbers, action_width, action_numbers}
use Rattle.payload.specs.declared.Counts.{Counts}
use Rattle.payload.specs.declared.Cursor.{Cursor}
use Rattle.payload.specs.declared.Halt.{Halt}
use Rattle.payload.specs.declared.Item.{Item}
use Rattle.payload.specs.declared.Item.TheVariants as i
use Rattle.payload.specs.declared.Payload.{Payload}
use Rattle.payload.specs.declared.Payload.TheVariants as k
use Rattle.payload.specs.Pair.{moved_pair, pair_from}
use Rattle.payload.specs.Action.{variable, action}
use Rattle.payload.specs.Payload.{Contents, met, payload}
use Rattle.payload.specs.Item.{one, no_more, item_at}
use Rattle.payload.specs.Promise.{payload_tells, rooms_of, Fills}

-- ---- an action

-- what the reader of an action answers: its variable is counted from behind the three bytes, and at a place from the first byte
abbrev pub variable_moved : Action → Action
variable_moved x = record { verb = x.verb; scope = x.scope; pair = moved_pair 3 x.pair }

abbrev pub action_behind : Result (Read Action) Refusal → Answer Action
action_behind (Ok x) = done (variable_moved x.value) x.used
action_behind (Err r) = refusal_said r

-- The three bytes of the action at the front are there and known: its variable is left.
pub record Headed (s : List ℕ) (verb scope : ℕ) : Type 0 where
  pub long : 3 ≤ length s
  pub is : action s ≡ next (behind moved_pair 3 (variable verb (drop 3 s))) (λ p used. done (record { verb = verb; scope = scope; pair = p }) used)

-- ---- a step

-- where a pass begins
abbrev pub began : ℕ → Cursor
began start = record { at = start; left = 0; messages = 0; pairs = 0; actions = 0 }

-- where it goes on behind what comes next
abbrev pub after_item : Cursor → Item → Cursor
after_item x (i.Pair p end) = record { at = end; left = x.left - 1; messages = x.messages; pairs = x.pairs + 1; actions = x.actions }
after_item x (i.Message m end) = record { at = end; left = m.count; messages = x.messages + 1; pairs = x.pairs; actions = x.actions }
after_item x (i.Action a end) = record { at = end; left = x.left; messages = x.messages; pairs = x.pairs; actions = x.actions + 1 }

-- the tests of what comes next, where these were met: a pair that is no argument has a key that is met once, and there is room for a record
unfoldable pub tests : Counts → List ℕ → Cursor → Contents → Answer (Option Item) → Answer (Option Cursor)
tests rooms s x c (done (Some (i.Pair p end)) n) =
    in_order (
    (refused 9 end, not (eqb x.left 0 && met s c.pairs p))
    ∷ (refused 10 end, ltb x.pairs rooms.pairs) ∷ [])
    (one (after_item x (i.Pair p end)))
tests rooms s x c (done (Some (i.Message m end)) n) = in_order ((refused 10 end, ltb x.messages rooms.messages) ∷ []) (one (after_item x (i.Message m end)))
tests rooms s x c (done (Some (i.Action a end)) n) = in_order ((refused 10 end, ltb x.actions rooms.actions) ∷ []) (one (after_item x (i.Action a end)))
tests rooms s x c (done None n) = no_more
tests rooms s x c (refused number place) = refused number place

-- what they say of the pass: where it goes on, or why it is refused
abbrev pub tested_said : Result Cursor Refusal → Answer (Option Cursor)
tested_said (Ok y) = one y
tested_said (Err r) = refusal_said r

-- Another of each can be counted, and the key of a pair lies in the bytes.
pub record Low (x : Cursor) : Type 0 where
  pub messages : x.messages + 1 < 2 ^ 64
  pub pairs : x.pairs + 1 < 2 ^ 64
  pub actions : x.actions + 1 < 2 ^ 64

abbrev pub KeyInside : List ℕ → Item → Type 0
KeyInside s (i.Pair p end) = p.start + p.len ≤ length s
KeyInside s (i.Message m end) = Unit
KeyInside s (i.Action a end) = Unit

-- These pairs stand in a row, from a place to another.
abbrev pub Run : List ℕ → ℕ → List Pair → ℕ → Type 0
Run s at ps end = InRow (λ n. pair_from n s) at ps end

-- How far a pass is, and what it met up to there. There are no more records than bytes.
pub record Stands (kind : Payload) (start : ℕ) (s : List ℕ) (x : Cursor) (c : Contents) : Type 0 where
  pub place : x.at ≤ length s
  pub messages : length c.messages ≡ x.messages
  pub pairs : length c.pairs ≡ x.pairs
  pub actions : length c.actions ≡ x.actions
  pub few : x.messages + x.pairs + x.actions ≤ x.at
  pub run : kind ≡ k.KvList → Run s start c.pairs x.at

-- ---- a pass

-- what it comes to
abbrev pub passed_said : Result Cursor Halt → Answer Counts
passed_said (Ok x) = done (record { messages = x.messages; pairs = x.pairs; actions = x.actions }) x.at
passed_said (Err h) = refusal_said h.refusal

-- A refusal is that of what comes next where the pass stood.
abbrev pub Stood : Payload → Counts → ℕ → List ℕ → Result Cursor Halt → Type 0
Stood kind rooms start s (Ok x) = Unit
Stood kind rooms start s (Err h) = (c : Contents) × Stands kind start s h.cursor c × (tests rooms s h.cursor c (item_at kind s h.cursor) ≡ refusal_said h.refusal)

pub record Passes (kind : Payload) (rooms : Counts) (start : ℕ) (s : List ℕ) (r : Result Cursor Halt) : Type 0 where
  pub says : passed_said r ≡ payload_tells (payload kind rooms start s)
  pub stood : Stood kind rooms start s r

-- ---- tables

-- There is room for what comes next behind the records that were met; and its numbers are put there.
abbrev pub Fits : Item → Cursor → List ℕ → List ℕ → List ℕ → Type 0
Fits (i.Pair p end) x messages pairs actions = x.pairs * pair_width + pair_width ≤ length pairs
Fits (i.Message m end) x messages pairs actions = x.messages * message_width + message_width ≤ length messages
Fits (i.Action a end) x messages pairs actions = x.actions * action_width + action_width ≤ length actions

abbrev pub put_at : ℕ → List ℕ → List ℕ → List ℕ
put_at n numbers old = take n old ++ leaves (written numbers) (drop n old)

abbrev pub Stores : Item → Cursor → List ℕ → List ℕ → List ℕ → List ℕ → List ℕ → List ℕ → Type 0
Stores (i.Pair p end) x old_messages new_messages old_pairs new_pairs old_actions new_actions =
    (new_messages ≡ old_messages) × (new_pairs ≡ put_at (x.pairs * pair_width) (pair_numbers p) old_pairs) × (new_actions ≡ old_actions)
Stores (i.Message m end) x old_messages new_messages old_pairs new_pairs old_actions new_actions =
    (new_messages ≡ put_at (x.messages * message_width) (message_numbers m) old_messages) × (new_pairs ≡ old_pairs) × (new_actions ≡ old_actions)
Stores (i.Action a end) x old_messages new_messages old_pairs new_pairs old_actions new_actions =
    (new_messages ≡ old_messages) × (new_pairs ≡ old_pairs) × (new_actions ≡ put_at (x.actions * action_width) (action_numbers a) old_actions)

-- The payload is accepted, with the room that three tables have; and what is left in them.
pub record Accepted (kind : Payload) (rooms : Counts) (start : ℕ) (s : List ℕ) : Type 0 where
  pub contents : Contents
  pub end : ℕ
  pub is : payload kind rooms start s ≡ done contents end

abbrev pub Leaves : Payload → ℕ → List ℕ → List ℕ → List ℕ → List ℕ → List ℕ → List ℕ → List ℕ → Type 0
Leaves kind start s old_messages new_messages old_pairs new_pairs old_actions new_actions =
    Fills (payload kind (rooms_of old_messages old_pairs old_actions) start s) old_messages new_messages old_pairs new_pairs old_actions new_actions

abbrev pub LeavesAccepted : Payload → ℕ → List ℕ → List ℕ → List ℕ → List ℕ → List ℕ → List ℕ → List ℕ → Type 0
LeavesAccepted kind start s old_messages new_messages old_pairs new_pairs old_actions new_actions =
    Accepted kind (rooms_of old_messages old_pairs old_actions) start s → Leaves kind start s old_messages new_messages old_pairs new_pairs old_actions new_actions

-- what reading in one pass finds and leaves
abbrev pub ReadsOnce : Payload → ℕ → List ℕ → Option (Read Counts) → List ℕ → List ℕ → List ℕ → List ℕ → List ℕ → List ℕ → Type 0
ReadsOnce kind start s (Some r) old_messages new_messages old_pairs new_pairs old_actions new_actions =
    (done r.value r.used ≡ payload_tells (payload kind (rooms_of old_messages old_pairs old_actions) start s))
    × Leaves kind start s old_messages new_messages old_pairs new_pairs old_actions new_actions
ReadsOnce kind start s None old_messages new_messages old_pairs new_pairs old_actions new_actions =
    (new_messages ≡ old_messages) × (new_pairs ≡ old_pairs) × (new_actions ≡ old_actions)
