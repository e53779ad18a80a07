-- What the calls' own types mean, and what those calls promise whose contracts name a promise.
use Rattle.std.specs.Prelude.{◌≡◌, List, ℕ, ◌/◌, length, Option, Result}
use Rattle.answer.specs.declared.Read.{Read}
use Rattle.answer.specs.declared.Refusal.{Refusal}
use Rattle.answer.specs.Answer.{Answer, done, next, written, leaves}
use Rattle.answer.specs.Writes.{read_said}
use Rattle.answer.specs.Table.{joined}
use Rattle.frame.specs.declared.Pair.{Pair}
use Rattle.frame.specs.Records.{message_width, message_numbers, pair_width, pair_numbers, action_width, action_numbers}
use Rattle.payload.specs.declared.Counts.{Counts}
use Rattle.payload.specs.declared.Cursor.{Cursor}
use Rattle.payload.specs.declared.Item.{Item}
use Rattle.payload.specs.declared.Payload.{Payload}
use Rattle.payload.specs.Item.{next_said, item_at}
use Rattle.payload.specs.Pair.{pair, pair_from}
use Rattle.payload.specs.Payload.{Contents, payload}

-- ---- what is said

-- what is said of a payload that comes out so: counts stand for the records
abbrev pub counts_of : Contents → Counts
counts_of c = record { messages = length c.messages; pairs = length c.pairs; actions = length c.actions }

abbrev pub payload_tells : Answer Contents → Answer Counts
payload_tells a = next a (λ c used. done (counts_of c) used)

-- ---- what is left in the tables

-- how many records three tables have room for
abbrev pub rooms_of : List ℕ → List ℕ → List ℕ → Counts
rooms_of messages pairs actions =
    record { messages = length messages / message_width; pairs = length pairs / pair_width; actions = length actions / action_width }

-- Where contents come out, the records of a sort stand at the front of their table, in order, and what lies behind them stays. Else all stays.
abbrev pub table_left : {A : Type 0} → (A → List ℕ) → (Contents → List A) → Answer Contents → List ℕ → List ℕ
table_left numbers records a old = leaves (next a (λ c used. written (joined numbers (records c)))) old

pub record Fills (a : Answer Contents) (old_messages new_messages old_pairs new_pairs old_actions new_actions : List ℕ) : Type 0 where
  pub messages : new_messages ≡ table_left message_numbers (λ c. c.messages) a old_messages
  pub pairs : new_pairs ≡ table_left pair_numbers (λ c. c.pairs) a old_pairs
  pub actions : new_actions ≡ table_left action_numbers (λ c. c.actions) a old_actions

-- ---- the promises

-- `read_pair` reads the pair at the front of the bytes, and `pair_from` the one that stands at a place.
abbrev pub ReadPair : List ℕ → Result (Read Pair) Refusal → Type 0
ReadPair input r = read_said r ≡ pair input

abbrev pub PairFrom : List ℕ → ℕ → Result (Read Pair) Refusal → Type 0
PairFrom input at r = read_said r ≡ pair_from at input

-- `next_item` says what comes next where a pass stands.
abbrev pub NextItem : Payload → List ℕ → Cursor → Result (Option Item) Refusal → Type 0
NextItem kind input x r = next_said r ≡ item_at kind input x

-- `look_payload` says what the reader says with tables of such rooms.
abbrev pub LookPayload : Payload → ℕ → List ℕ → Counts → Result (Read Counts) Refusal → Type 0
LookPayload kind start input rooms r = read_said r ≡ payload_tells (payload kind rooms start input)

-- `read_payload` reads the payload that starts at a place, and fills the tables.
pub record ReadPayload (kind : Payload) (start : ℕ) (input : List ℕ) (r : Result (Read Counts) Refusal) (old_messages new_messages old_pairs new_pairs old_actions new_actions : List ℕ) : Type 0 where
  pub says : read_said r ≡ payload_tells (payload kind (rooms_of old_messages old_pairs old_actions) start input)
  pub fills : Fills (payload kind (rooms_of old_messages old_pairs old_actions) start input) old_messages new_messages old_pairs new_pairs old_actions new_actions
