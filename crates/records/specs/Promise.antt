-- What the call promises.
use Rattle.std.specs.Prelude.{◌≡◌, List, ◌++◌, ℕ, ◌/◌, length, drop, Result}
use Rattle.answer.specs.declared.Read.{Read}
use Rattle.answer.specs.Answer.{Answer, done, refused}
use Rattle.frame.specs.declared.Pair.{Pair}
use Rattle.frame.specs.declared.Side.TheVariants as side
use Rattle.frame.specs.declared.Stop.{Stop}
use Rattle.frame.specs.Records.{message_width, message_numbers}
use Rattle.payload.specs.declared.Counts.{Counts}
use Rattle.payload.specs.Payload.{Contents}
use Rattle.payload.specs.Promise.{table_left}
use Rattle.parser.specs.declared.Frame.{Frame}
use Rattle.parser.specs.Frame.{frame_read}
use Rattle.parser.specs.Promise.{frame_said, frame_tells, contents_read}

-- how many records the two tables have room for; HAProxy's frames have no actions
abbrev pub rooms_for : List ℕ → List Pair → Counts
rooms_for messages pairs = record { messages = length messages / message_width; pairs = length pairs; actions = 0 }

-- Where contents come out, their pairs stand at the front of the table, in order, and what lies behind them stays. Else all stays.
abbrev pub records_left : Answer Contents → List Pair → List Pair
records_left (done c used) old = c.pairs ++ drop (length c.pairs) old
records_left (refused number place) old = old

-- The messages' table is left as `read_frame` leaves it.
pub record FillsRecords (a : Answer Contents) (old_messages new_messages : List ℕ) (old_pairs new_pairs : List Pair) : Type 0 where
  pub messages : new_messages ≡ table_left message_numbers (λ c. c.messages) a old_messages
  pub pairs : new_pairs ≡ records_left a old_pairs

-- `read_frame_records` says what the frame reader says with room for as many, and leaves the records.
pub record ReadFrameRecords (input : List ℕ) (limit : ℕ) (r : Result (Read Frame) Stop) (old_messages new_messages : List ℕ) (old_pairs new_pairs : List Pair) : Type 0 where
  pub says : frame_said r ≡ frame_tells (frame_read side.HAProxy limit (rooms_for old_messages old_pairs) input)
  pub fills : FillsRecords (contents_read (frame_read side.HAProxy limit (rooms_for old_messages old_pairs) input)) old_messages new_messages old_pairs new_pairs
