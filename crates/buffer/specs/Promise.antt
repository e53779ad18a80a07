-- What the call promises.
use Rattle.std.specs.Prelude.{◌≡◌, List, [], ℕ, ◌/◌, length}
use Rattle.answer.specs.Answer.{written, leaves}
use Rattle.answer.specs.Table.{joined}
use Rattle.frame.specs.Records.{message_numbers, pair_numbers}
use Rattle.payload.specs.Promise.{rooms_of}
use Rattle.frame.specs.Promise.{stop_said}
use Rattle.buffer.specs.declared.FramesRead.{FramesRead}
use Rattle.buffer.specs.Buffer.{FrameIn, FramesTold, FramesIn, none_read, frames_from, row_width, row_numbers}

-- what is told
abbrev pub frames_said : FramesRead → FramesTold
frames_said r = record { totals = r.totals; stop = stop_said r.stop }

-- the frames of a buffer, with the room of these tables
abbrev pub frames_in : List ℕ → ℕ → List ℕ → List ℕ → List ℕ → FramesIn
frames_in input limit rows messages pairs = frames_from limit (rooms_of messages pairs []) input (length rows / row_width) none_read

-- the numbers of a frame's messages, and of its pairs
abbrev pub messages_in : FrameIn → List ℕ
messages_in y = joined message_numbers y.contents.messages

abbrev pub pairs_in : FrameIn → List ℕ
pairs_in y = joined pair_numbers y.contents.pairs

-- the numbers of all frames stand at the front of their table, in order, and what lies behind them stays
abbrev pub frames_left : (FrameIn → List ℕ) → List FrameIn → List ℕ → List ℕ
frames_left numbers ys old = leaves (written (joined numbers ys)) old

-- the numbers of these frames are left in the three tables
pub record FramesFill (ys : List FrameIn) (old_rows new_rows old_messages new_messages old_pairs new_pairs : List ℕ) : Type 0 where
  pub rows : new_rows ≡ frames_left row_numbers ys old_rows
  pub messages : new_messages ≡ frames_left messages_in ys old_messages
  pub pairs : new_pairs ≡ frames_left pairs_in ys old_pairs

-- `read_frames` reads the frames that HAProxy sent, and leaves a row for each and its records.
pub record ReadFrames (input : List ℕ) (limit : ℕ) (r : FramesRead) (old_rows new_rows old_messages new_messages old_pairs new_pairs : List ℕ) : Type 0 where
  pub says : frames_said r ≡ (frames_in input limit old_rows old_messages old_pairs).told
  pub fills : FramesFill (frames_in input limit old_rows old_messages old_pairs).frames old_rows new_rows old_messages new_messages old_pairs new_pairs
