-- What each call under a C name promises: its result r, what it leaves in `at`, and in what else is lent, old or before and new afterwards.
use Rattle.std.specs.Prelude.{◌≡◌, Bool, List, [], ℕ}
use Rattle.varint.specs.Number.{number}
use Rattle.varint.specs.Promise.{Exactly}
use Rattle.plain.specs.Promise.{comparison, TextsLeft}
use Rattle.types.specs.Value.{typed}
use Rattle.frame.specs.declared.Head.{Head}
use Rattle.frame.specs.declared.Pair.{Pair}
use Rattle.frame.specs.declared.Side.{Side}
use Rattle.frame.specs.declared.Side.TheVariants as side
use Rattle.frame.specs.Read.{Reading, answer_of}
use Rattle.frame.specs.Records.{pair_numbers}
use Rattle.payload.specs.Pair.{pair}
use Rattle.payload.specs.Payload.{Contents}
use Rattle.payload.specs.Promise.{counts_of, rooms_of, Fills}
use Rattle.parser.specs.Frame.{frame_read}
use Rattle.parser.specs.Promise.{contents_read}
use Rattle.buffer.specs.Promise.{frames_in, FramesFill}
use Rattle.records.specs.Promise.{rooms_for, FillsRecords}
use Rattle.hello.specs.Hello.{announced, choice}
use Rattle.spop.specs.Told.{Told, value_or, chosen_of}
use Rattle.spop.specs.Values.{record_numbers, head_numbers, total_numbers}

abbrev pub SpopDecodeVarint : List ℕ → ℕ → ℕ → ℕ → ℕ → Type 0
SpopDecodeVarint input r at before value = (Told (number input) r at × (value ≡ value_or (λ n. n) (number input) before)) × Exactly input (number input)

pub record SpopSameTextPlain (a b : List ℕ) (r at : ℕ) (before same : Bool) (a_old a_new b_old b_new : List ℕ) : Type 0 where
  pub told : Told (comparison a b a_old b_old) r at
  pub value : same ≡ value_or (λ x. x) (comparison a b a_old b_old) before
  pub texts : TextsLeft a b a_old a_new b_old b_new

abbrev pub SpopTypedData : List ℕ → ℕ → ℕ → List ℕ → List ℕ → Type 0
SpopTypedData input r at before value = Told (typed input) r at × (value ≡ value_or record_numbers (typed input) before)

abbrev pub SpopReadPair : List ℕ → ℕ → ℕ → List ℕ → List ℕ → Type 0
SpopReadPair input r at before numbers = Told (pair input) r at × (numbers ≡ value_or pair_numbers (pair input) before)

-- A side's frame that comes out so: the answer is told, and the head's numbers take the place of what was there before.
abbrev pub HeadTold : Side → Reading (Head × Contents) → ℕ → ℕ → List ℕ → List ℕ → Type 0
HeadTold side x r at before head = Told (answer_of x) r at × (head ≡ value_or (λ (y : Head × Contents). head_numbers side y.0 (counts_of y.1)) (answer_of x) before)

-- The same, and the tables are filled with what the frame holds.
pub record FrameTold (side : Side) (x : Reading (Head × Contents)) (r at : ℕ) (before head old_messages new_messages old_pairs new_pairs old_actions new_actions : List ℕ) : Type 0 where
  pub told : HeadTold side x r at before head
  pub fills : Fills (contents_read x) old_messages new_messages old_pairs new_pairs old_actions new_actions

-- of what HAProxy sends, which has no actions; and of what agents send, which has no messages
abbrev pub SpopReadFrame : List ℕ → ℕ → ℕ → ℕ → List ℕ → List ℕ → List ℕ → List ℕ → List ℕ → List ℕ → Type 0
SpopReadFrame input limit r at before head old_messages new_messages old_pairs new_pairs =
    FrameTold side.HAProxy (frame_read side.HAProxy limit (rooms_of old_messages old_pairs []) input) r at before head old_messages new_messages old_pairs new_pairs [] []

abbrev pub SpopReadAgentFrame : List ℕ → ℕ → ℕ → ℕ → List ℕ → List ℕ → List ℕ → List ℕ → List ℕ → List ℕ → Type 0
SpopReadAgentFrame input limit r at before head old_pairs new_pairs old_actions new_actions =
    FrameTold side.Agents (frame_read side.Agents limit (rooms_of [] old_pairs old_actions) input) r at before head [] [] old_pairs new_pairs old_actions new_actions

pub record SpopReadFrameRecords (input : List ℕ) (limit r at : ℕ) (before head old_messages new_messages : List ℕ) (old_pairs new_pairs : List Pair) : Type 0 where
  pub told : HeadTold side.HAProxy (frame_read side.HAProxy limit (rooms_for old_messages old_pairs) input) r at before head
  pub fills : FillsRecords (contents_read (frame_read side.HAProxy limit (rooms_for old_messages old_pairs) input)) old_messages new_messages old_pairs new_pairs

-- All frames of a receive buffer: what stopped it is told, and `counts` and the tables take what was read.
pub record SpopReadFrames (input : List ℕ) (limit r at : ℕ) (counts old_rows new_rows old_messages new_messages old_pairs new_pairs : List ℕ) : Type 0 where
  pub told : Told (answer_of (frames_in input limit old_rows old_messages old_pairs).told.stop) r at
  pub sums : counts ≡ total_numbers (frames_in input limit old_rows old_messages old_pairs).told.totals
  pub fills : FramesFill (frames_in input limit old_rows old_messages old_pairs).frames old_rows new_rows old_messages new_messages old_pairs new_pairs

abbrev pub SpopNegotiateVersion : List ℕ → Bool → List ℕ → List ℕ → Type 0
SpopNegotiateVersion versions r before version = (r ≡ announced versions) × (version ≡ chosen_of (choice versions) before)
