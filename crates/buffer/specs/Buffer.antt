-- The frames of a receive buffer: the single reader's definition, repeated. Each frame is read behind the one before it, with the room that is left there.
use Rattle.std.specs.Prelude.{cond, List, [], ◌∷◌, ℕ, zero, suc, ◌+◌, ◌-◌, eqb, length, drop}
use Rattle.answer.specs.Answer.{done, refused}
use Rattle.frame.specs.declared.Head.{Head}
use Rattle.frame.specs.declared.Side.TheVariants as side
use Rattle.frame.specs.Read.{Reading, wait, answered}
use Rattle.payload.specs.declared.Counts.{Counts}
use Rattle.payload.specs.Payload.{Contents}
use Rattle.parser.specs.Frame.{frame_read}
use Rattle.buffer.specs.declared.Totals.{Totals}

-- A frame that was read: how much was read before it, its head, what it holds, and how many bytes it took.
pub record FrameIn : Type 0 where
  pub before : Totals
  pub head : Head
  pub contents : Contents
  pub used : ℕ

-- What is told: how much was read, and what stopped it.
pub record FramesTold : Type 0 where
  pub totals : Totals
  pub stop : Reading Unit

-- The frames that were read, in order, and what is told of them.
pub record FramesIn : Type 0 where
  pub frames : List FrameIn
  pub told : FramesTold

-- nothing was read yet
abbrev pub none_read : Totals
none_read = record { frames = 0; messages = 0; pairs = 0; bytes = 0 }

-- how much was read, with this frame
abbrev pub with_read : Totals → Contents → ℕ → Totals
with_read x c used =
    record { frames = x.frames + 1; messages = x.messages + length c.messages; pairs = x.pairs + length c.pairs; bytes = x.bytes + used }

-- the room that is left behind what was read; HAProxy's frames have no actions
abbrev pub room_behind : Counts → Totals → Counts
room_behind rooms x = record { messages = rooms.messages - x.messages; pairs = rooms.pairs - x.pairs; actions = 0 }

-- it stops there, with no frame more
abbrev pub stopped : Totals → Reading Unit → FramesIn
stopped x why = record { frames = []; told = record { totals = x; stop = why } }

-- a wait and a refusal stop it, and an accepted frame is left to what comes next
abbrev pub on_accepted : Totals → Reading (Head × Contents) → (Head × Contents → ℕ → FramesIn) → FramesIn
on_accepted x (wait missing) f = stopped x (wait missing)
on_accepted x (answered (refused number place)) f = stopped x (answered (refused number place))
on_accepted x (answered (done y used)) f = f y used

-- this frame comes first
abbrev pub frame_first : FrameIn → FramesIn → FramesIn
frame_first y rest = record { frames = y ∷ rest.frames; told = rest.told }

module _ (limit : ℕ) (rooms : Counts) (s : List ℕ) where
  -- the single reader's answer behind what was read
  abbrev pub frame_behind : Totals → Reading (Head × Contents)
  frame_behind x = frame_read side.HAProxy limit (room_behind rooms x) (drop x.bytes s)

  -- The frames behind what was read, with so many rows left. An accepted frame for which there is none is refused with 10, its place behind that frame.
  unfoldable pub frames_from : ℕ → Totals → FramesIn
  frames_from zero x = on_accepted x (frame_behind x) (λ y used. stopped x (answered (refused 10 used)))
  frames_from (suc n) x =
      on_accepted x (frame_behind x) (λ y used.
      frame_first (record { before = x; head = y.0; contents = y.1; used = used }) (frames_from n (with_read x y.1 used)))

-- how many numbers a row has
abbrev pub row_width : ℕ
row_width = 7

-- Where the frame starts and how many bytes it took; its type, its stream and its own id; and the first of its messages, or of its pairs where it is no NOTIFY,
-- among those of the whole table, and how many it has.
abbrev pub row_numbers : FrameIn → List ℕ
row_numbers y =
    let h = y.head in
    let messages = eqb h.frame_type 3 in
    y.before.bytes ∷ y.used ∷ h.frame_type ∷ h.stream ∷ h.frame
    ∷ cond messages y.before.messages y.before.pairs
    ∷ cond messages (length y.contents.messages) (length y.contents.pairs) ∷ []
