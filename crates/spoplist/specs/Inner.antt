-- What only private contracts cite.
use Rattle.std.specs.Prelude.{◌≡◌, Option, Some, None, Result, Ok, Err, List, [], ◌++◌, ℕ, ◌≤◌, length}
use Rattle.answer.specs.declared.Read.{Read}
use Rattle.answer.specs.declared.Refusal.{Refusal}
use Rattle.answer.specs.Answer.{Answer, done}
use Rattle.answer.specs.Reason.{number_of}
use Rattle.answer.specs.Table.{joined}
use Rattle.frame.specs.declared.Head.{Head}
use Rattle.frame.specs.declared.Side.{Side}
use Rattle.frame.specs.declared.Side.TheVariants as side
use Rattle.frame.specs.declared.Stop.{Stop}
use Rattle.frame.specs.declared.Stop.TheVariants as stop
use Rattle.frame.specs.Promise.{stop_said}
use Rattle.frame.specs.Read.{Reading, Sender, answer_of}
use Rattle.frame.specs.Records.{message_numbers, pair_numbers, action_numbers}
use Rattle.payload.specs.declared.Counts.{Counts}
use Rattle.payload.specs.Payload.{Contents}
use Rattle.parser.specs.declared.Frame.{Frame}
use Rattle.parser.specs.Frame.{framed, frame_read}
use Rattle.parser.specs.Promise.{FrameFills}
use Rattle.spoplist.specs.Listing.{taken, stop_of}
use Rattle.spoplist.specs.declared.Tables.{Tables}
use Rattle.spoplist.specs.declared.Ended.{Ended}

-- the longest frame, its length bytes aside
abbrev pub limit : ℕ
limit = 65532

-- how many records there is room for, of the frames that a side sends
abbrev pub rooms : Side → Counts
rooms side.HAProxy = record { messages = 64; pairs = 256; actions = 0 }
rooms side.Agents = record { messages = 0; pairs = 256; actions = 256 }

-- A frame that a side sends is read so.
abbrev pub read_in : Side → List ℕ → Reading (Head × Contents)
read_in x s = frame_read x limit (rooms x) s

-- and what it takes
abbrev pub side_in : Side → List ℕ → Answer Unit
side_in x s = taken (read_in x s)

-- the tables for a side's frames: those of HAProxy have no actions, and those of an agent no messages
abbrev pub messages_in : Side → Tables → List ℕ
messages_in side.HAProxy tables = tables.messages
messages_in side.Agents tables = []

abbrev pub actions_in : Side → Tables → List ℕ
actions_in side.HAProxy tables = []
actions_in side.Agents tables = tables.actions

-- It was read so, and two tables are filled with its records. Of the third, which the frames of its side have none for, nothing is said.
abbrev pub ReadsIn : Side → List ℕ → Result (Read Frame) Stop → Tables → Tables → Type 0
ReadsIn x s r old new =
    FrameFills (read_in x s) r (messages_in x old) (messages_in x new) old.pairs new.pairs (actions_in x old) (actions_in x new)

-- a frame that was accepted takes so many bytes of those that are left
pub record Accepts (input : List ℕ) (a : Answer Unit) (used : ℕ) : Type 0 where
  pub is : a ≡ done tt used
  pub some : 1 ≤ used
  pub most : used ≤ length input

-- the last line's numbers: the answer that stopped a listing, 0 where no byte is left, and what goes with it
abbrev pub end_number : Option Stop → ℕ
end_number None = 0
end_number (Some (stop.Wait missing)) = 1
end_number (Some (stop.Refused r)) = number_of r.reason

abbrev pub end_place : Option Stop → ℕ
end_place None = 0
end_place (Some (stop.Wait missing)) = missing
end_place (Some (stop.Refused r)) = r.place

-- what a frame that was listed, or that stopped it, was read as
abbrev pub Takes : List ℕ → Answer Unit → Result ℕ Stop → Type 0
Takes input a (Ok used) = Accepts input a used
Takes input a (Err why) = a ≡ answer_of (stop_said why)

-- The last line says where the listing of the input stops, and why.
abbrev pub Ends : List ℕ → (List ℕ → Answer Unit) → Ended → Type 0
Ends input read x = stop_of read input ≡ record { used = x.used; number = end_number x.stop; at = end_place x.stop }

-- ---- lines that are not refused

-- The bytes are those of a frame that was accepted, and its records of one sort, so many, stand at the front of a table.
pub record Stands {A : Type 0} (numbers : A → List ℕ) (sort : Contents → List A) (f table : List ℕ) (count : ℕ) : Type 0 where
  pub sent : Sender
  pub rooms : Counts
  pub head : Head
  pub contents : Contents
  pub used : ℕ
  pub accepted : framed sent rooms f ≡ done (head, contents) used
  pub many : length (sort contents) ≡ count
  pub behind : List ℕ
  pub front : table ≡ joined numbers (sort contents) ++ behind

abbrev pub StandMessages : List ℕ → List ℕ → ℕ → Type 0
StandMessages = Stands message_numbers (λ c. c.messages)

abbrev pub StandPairs : List ℕ → List ℕ → ℕ → Type 0
StandPairs = Stands pair_numbers (λ c. c.pairs)

abbrev pub StandActions : List ℕ → List ℕ → ℕ → Type 0
StandActions = Stands action_numbers (λ c. c.actions)

-- A line was not refused, and it lies in the bytes that were lent.
abbrev pub Lies : Result ℕ Refusal → List ℕ → Type 0
Lies (Ok n) out = n ≤ length out
Lies (Err r) out = ⊥
