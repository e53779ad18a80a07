-- What the calls' own type means, and what each call promises.
use Rattle.std.specs.Prelude.{◌≡◌, List, [], ℕ, Result, Ok, Err}
use Rattle.answer.specs.declared.Read.{Read}
use Rattle.answer.specs.Answer.{Answer, done, next}
use Rattle.frame.specs.declared.Head.{Head}
use Rattle.frame.specs.declared.Side.TheVariants as side
use Rattle.frame.specs.declared.Stop.{Stop}
use Rattle.frame.specs.Promise.{stop_said}
use Rattle.frame.specs.Read.{Reading, wait, answered, answer_of}
use Rattle.payload.specs.declared.Counts.{Counts}
use Rattle.payload.specs.Payload.{Contents}
use Rattle.payload.specs.Promise.{counts_of, rooms_of, Fills}
use Rattle.parser.specs.declared.Frame.{Frame}
use Rattle.parser.specs.Frame.{frame_read}

abbrev pub frame_said : Result (Read Frame) Stop → Reading (Head × Counts)
frame_said (Ok x) = answered (done (x.value.head, x.value.counts) x.used)
frame_said (Err e) = stop_said e

-- what is said of a frame that comes out so: counts stand for the records
abbrev pub frame_tells : Reading (Head × Contents) → Reading (Head × Counts)
frame_tells (wait missing) = wait missing
frame_tells (answered a) = answered (next a (λ x used. done (x.0, counts_of x.1) used))

-- what a frame holds, where it is accepted
abbrev pub contents_read : Reading (Head × Contents) → Answer Contents
contents_read x = next (answer_of x) (λ y used. done y.1 used)

-- A frame that comes out so: the answer says it, and the tables are filled with what the frame holds.
pub record FrameFills (x : Reading (Head × Contents)) (r : Result (Read Frame) Stop) (old_messages new_messages old_pairs new_pairs old_actions new_actions : List ℕ) : Type 0 where
  pub says : frame_said r ≡ frame_tells x
  pub fills : Fills (contents_read x) old_messages new_messages old_pairs new_pairs old_actions new_actions

-- `read_frame` reads what HAProxy sends, and has no table for actions.
abbrev pub ReadFrame : List ℕ → ℕ → Result (Read Frame) Stop → List ℕ → List ℕ → List ℕ → List ℕ → Type 0
ReadFrame input limit r old_messages new_messages old_pairs new_pairs =
    FrameFills (frame_read side.HAProxy limit (rooms_of old_messages old_pairs []) input) r old_messages new_messages old_pairs new_pairs [] []

-- `read_agent_frame` reads what agents send, and has no table for messages.
abbrev pub ReadAgentFrame : List ℕ → ℕ → Result (Read Frame) Stop → List ℕ → List ℕ → List ℕ → List ℕ → Type 0
ReadAgentFrame input limit r old_pairs new_pairs old_actions new_actions =
    FrameFills (frame_read side.Agents limit (rooms_of [] old_pairs old_actions) input) r [] [] old_pairs new_pairs old_actions new_actions

-- `look_frame` says what is said of HAProxy's frame with tables of such rooms.
abbrev pub LookFrame : List ℕ → ℕ → Counts → Result (Read Frame) Stop → Type 0
LookFrame input limit rooms r = frame_said r ≡ frame_tells (frame_read side.HAProxy limit rooms input)
