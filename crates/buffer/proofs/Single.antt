-- Laws about each frame that was read: it is what the single reader gives where it starts, and so of the calls; they follow each other, so their rows tile the input;
-- and what stopped it is the single reader's answer where the last one ended, but for the 10 of a missing row.
use mathlib.Core.Path.{◌≡◌, refl, sym, ap, ap₂, subst, ◌∙◌}
use mathlib.Core.List.{List, [], ◌∷◌, ◌++◌, append_assoc}
use Prim.Native.Nat.{ℕ, suc, ◌+◌, ◌-◌, ◌*◌, ◌/◌}
use native.Mathlib.Omega.{arith}
use lib.ListN.{length, take, drop, length-append, length-drop}
use lib.Seq.{take_at, drop_at}
use Rattle.answer.specs.Answer.{done, refused}
use Rattle.answer.specs.Table.{joined}
use Rattle.answer.proofs.Each.{Each}
use Rattle.answer.proofs.Records.{joined_none, joined_on, joined_both}
use Rattle.frame.specs.declared.Head.{Head}
use Rattle.frame.specs.declared.Side.TheVariants as side
use Rattle.frame.specs.Read.{Reading, wait, answered}
use Rattle.frame.specs.Records.{message_width, message_numbers, pair_width, pair_numbers}
use Rattle.payload.specs.declared.Counts.{Counts}
use Rattle.payload.specs.Payload.{Contents}
use Rattle.payload.specs.Promise.{rooms_of, counts_of, table_left}
use Rattle.std.specs.Prelude.{Result, Ok, Err}
use Rattle.answer.specs.declared.Read.{Read}
use Rattle.frame.specs.declared.Stop.{Stop}
use Rattle.frame.specs.declared.Stop.TheVariants as stop
use Rattle.frame.specs.Promise.{stop_said}
use Rattle.frame.proofs.Unique.{stop_same}
use Rattle.parser.specs.declared.Frame.{Frame}
use Rattle.parser.specs.Frame.{frame_read}
use Rattle.parser.specs.Promise.{frame_said, frame_tells, contents_read, ReadFrame}
use Rattle.frame.proofs.Cutting.{cut_start}
use Rattle.parser.proofs.Frames.{frame_on}
use Rattle.parser.proofs.Unique.{frame_done, frame_same}
use Rattle.parser.proofs.Entries.{said_done}
use Rattle.buffer.specs.declared.Totals.{Totals}
use Rattle.buffer.specs.declared.FramesRead.{FramesRead}
use Rattle.buffer.specs.Buffer.{FrameIn, FramesTold, FramesIn, none_read, with_read, room_behind, frame_behind, frames_from, row_width, row_numbers}
use Rattle.buffer.specs.Promise.{frames_in, messages_in, pairs_in, ReadFrames}
use Rattle.buffer.specs.Inner.{stop_of}
use Rattle.buffer.proofs.From.{said_stop, by_frames}
use Rattle.buffer.proofs.Going.{longer, messages_long, pairs_long}

-- ---- by the definition

-- The frame is what the single reader gives where it starts, with the room that was left there.
abbrev pub Single : ℕ → Counts → List ℕ → FrameIn → Type 0
Single limit rooms s y = frame_behind limit rooms s y.before ≡ answered (done (y.head, y.contents) y.used)

-- These frames follow each other: so much was read before the first, each starts where the one before it ended, and so much was read with the last.
abbrev pub Follow : Totals → List FrameIn → Totals → Type 0
Follow x [] end = x ≡ end
Follow x (y ∷ ys) end = (y.before ≡ x) × Follow (with_read x y.contents y.used) ys end

-- What stopped it, by the single reader's answer there: it is this answer; where that accepts a frame it is 10 behind the frame, and no row is left.
abbrev pub StopsBy : Type 0 → Reading (Head × Contents) → Reading Unit → Type 0
StopsBy full (wait missing) why = why ≡ wait missing
StopsBy full (answered (refused number place)) why = why ≡ answered (refused number place)
StopsBy full (answered (done y used)) why = (why ≡ answered (refused 10 used)) × full

module _ (limit : ℕ) (rooms : Counts) (s : List ℕ) where
  pub frames_single : (n : ℕ) (x : Totals) → Each (Single limit rooms s) (frames_from limit rooms s n x).frames
  frames_single =
      by_frames limit rooms s (λ n x r. Each (Single limit rooms s) r.frames) (λ n x missing e. tt) (λ n x number place e. tt) (λ x y used e. tt)
      (λ n x y used e rest. (e, rest))

  pub frames_follow : (n : ℕ) (x : Totals) → Follow x (frames_from limit rooms s n x).frames (frames_from limit rooms s n x).told.totals
  frames_follow =
      by_frames limit rooms s (λ n x r. Follow x r.frames r.told.totals) (λ n x missing e. refl) (λ n x number place e. refl) (λ x y used e. refl)
      (λ n x y used e rest. (refl, rest))

  pub frames_stop : (n : ℕ) (x : Totals)
      → let r = (frames_from limit rooms s n x).told in StopsBy (r.totals.frames ≡ x.frames + n) (frame_behind limit rooms s r.totals) r.stop
  frames_stop =
      by_frames limit rooms s (λ n x r. StopsBy (r.told.totals.frames ≡ x.frames + n) (frame_behind limit rooms s r.told.totals) r.told.stop)
      (λ n x missing e. rw e refl)
      (λ n x number place e. rw e refl)
      (λ x y used e. let all : x.frames ≡ x.frames + 0 = omega arith in rw e (refl, all))
      (λ n x y used e rest.
      let next : x.frames + 1 + n ≡ x.frames + suc n = omega arith in
      let r = (frames_from limit rooms s n (with_read x y.1 used)).told in
      subst (λ (k : ℕ). StopsBy (r.totals.frames ≡ k) (frame_behind limit rooms s r.totals) r.stop) next rest)

-- Law: the rows tile the input. Each starts where the one before it ended, and the last ends where it stopped.
abbrev pub Tile : ℕ → List FrameIn → ℕ → Type 0
Tile at [] end = at ≡ end
Tile at (y ∷ ys) end = (y.before.bytes ≡ at) × Tile (at + y.used) ys end

follow_tile : (x : Totals) (ys : List FrameIn) (end : Totals) → Follow x ys end → Tile x.bytes ys end.bytes
follow_tile x [] end e = ap (λ (t : Totals). t.bytes) e
follow_tile x (y ∷ ys) end (e, more) = (ap (λ (t : Totals). t.bytes) e, follow_tile (with_read x y.contents y.used) ys end more)

-- ---- of the call

-- records of one sort, whatever their width: those of each frame stand where the frames before it have theirs
abbrev pub StandsAt : (FrameIn → List ℕ) → ℕ → (FrameIn → ℕ) → (Totals → ℕ) → List ℕ → FrameIn → Type 0
StandsAt numbers width count read table y = take (count y * width) (drop (read y.before * width) table) ≡ numbers y

module _ (numbers : FrameIn → List ℕ) (width : ℕ) (count : FrameIn → ℕ) (read : Totals → ℕ) (long : (y : FrameIn) → length (numbers y) ≡ count y * width)
    (on : (x : Totals) (y : FrameIn) → read (with_read x y.contents y.used) ≡ read x + count y) (sum : (a b : ℕ) → a * width + b * width ≡ (a + b) * width) where
  stand : (x : Totals) (ys : List FrameIn) (end : Totals) → Follow x ys end → (before : List FrameIn) → length (joined numbers before) ≡ read x * width
      → (rest : List ℕ) → Each (StandsAt numbers width count read (joined numbers (before ++ ys) ++ rest)) ys
  stand x [] end e before many rest = tt
  stand x (y ∷ ys) end (e, more) before many rest =
      let front = joined numbers before in
      let parts : joined numbers (before ++ (y ∷ ys)) ++ rest ≡ front ++ (numbers y ++ (joined numbers ys ++ rest)) =
      ap (λ (l : List ℕ). l ++ rest) (joined_both numbers before (y ∷ ys) ∙ ap (λ (l : List ℕ). front ++ l) (joined_on numbers y ys))
      ∙ append_assoc front (numbers y ++ joined numbers ys) rest
      ∙ ap (λ (l : List ℕ). front ++ l) (append_assoc (numbers y) (joined numbers ys) rest) in
      let next = with_read x y.contents y.used in (
        ap₂ (λ (n : ℕ) (l : List ℕ). take (count y * width) (drop (n * width) l)) (ap read e) parts
            ∙ ap (take (count y * width)) (drop_at front (numbers y ++ (joined numbers ys ++ rest)) (read x * width) many)
            ∙ take_at (numbers y) (joined numbers ys ++ rest) (count y * width) (long y),
        subst (λ (l : List FrameIn). Each (StandsAt numbers width count read (joined numbers l ++ rest)) ys) (append_assoc before (y ∷ []) ys)
            (stand next ys end more (before ++ (y ∷ []))
            (longer numbers before y ∙ ap₂ ◌+◌ many (long y) ∙ sum (read x) (count y) ∙ ap (λ (n : ℕ). n * width) (sym (on x y))) rest),
      )

  -- and how many numbers all have, by how much was read
  pub follow_long : (x : Totals) (ys : List FrameIn) (end : Totals) → Follow x ys end → read x * width + length (joined numbers ys) ≡ read end * width
  follow_long x [] end e = plus (read x * width) (length (joined numbers [])) (ap length (joined_none numbers)) ∙ ap (λ (z : Totals). read z * width) e
    where
      plus : (a b : ℕ) → b ≡ 0 → a + b ≡ a
      plus a b e = omega arith
  follow_long x (y ∷ ys) end (e, more) =
      let l = length (joined numbers ys) in
      ap (λ (n : ℕ). read x * width + n) (ap length (joined_on numbers y ys) ∙ length-append (numbers y) (joined numbers ys) ∙ ap (λ (n : ℕ). n + l) (long y))
      ∙ three (read x * width) (count y * width) l
      ∙ ap (λ (n : ℕ). n + l) (sum (read x) (count y) ∙ ap (λ (n : ℕ). n * width) (sym (on x y)))
      ∙ follow_long (with_read x y.contents y.used) ys end more
    where
      three : (a b c : ℕ) → a + (b + c) ≡ a + b + c
      three a b c = omega arith

module _ (input : List ℕ) (limit : ℕ) (r : FramesRead) (old_rows new_rows old_messages new_messages old_pairs new_pairs : List ℕ)
    (p : ReadFrames input limit r old_rows new_rows old_messages new_messages old_pairs new_pairs) where
  abbrev rooms : Counts
  rooms = rooms_of old_messages old_pairs []

  abbrev whole : FramesIn
  whole = frames_in input limit old_rows old_messages old_pairs

  abbrev pub frames_of : List FrameIn
  frames_of = whole.frames

  -- Law: the rows tile the input, from its first byte to where the frame that stopped starts.
  pub rows_tile : Tile 0 frames_of r.totals.bytes
  rows_tile =
      subst (λ (q : FramesTold). Tile 0 frames_of q.totals.bytes) (sym p.says)
      (follow_tile none_read frames_of _ (frames_follow limit rooms input (length old_rows / row_width) none_read))

  -- Law: what stopped it is the single reader's answer where the last row ended, but for the 10 of a missing row.
  pub stop_single : StopsBy (r.totals.frames ≡ length old_rows / row_width) (frame_behind limit rooms input r.totals) (stop_said r.stop)
  stop_single =
      let all : 0 + length old_rows / row_width ≡ length old_rows / row_width = omega arith in
      subst (λ (q : FramesTold). StopsBy (q.totals.frames ≡ length old_rows / row_width) (frame_behind limit rooms input q.totals) q.stop) (sym p.says)
      (subst (λ (k : ℕ). StopsBy (whole.told.totals.frames ≡ k) (frame_behind limit rooms input whole.told.totals) whole.told.stop) all
      (frames_stop limit rooms input (length old_rows / row_width) none_read))

  -- Law: where no byte is left, four are missing.
  pub all_read : r.totals.bytes ≡ length input → r.stop ≡ stop.Wait 4
  all_read e =
      let rest = drop r.totals.bytes input in
      let none : length rest ≡ 0 = omega (arith, length-drop r.totals.bytes input) in
      let four : 4 - length rest ≡ 4 = omega arith in
      let waits : frame_behind limit rooms input r.totals ≡ wait 4 =
      frame_on side.HAProxy limit (room_behind rooms r.totals) rest (cut_start limit rest (omega arith)) ∙ ap wait four in
      stop_same r.stop (stop.Wait 4) (rw waits at stop_single)

  -- each frame's records in the tables that were left
  abbrev many_messages : FrameIn → ℕ
  many_messages y = length y.contents.messages

  abbrev many_pairs : FrameIn → ℕ
  many_pairs y = length y.contents.pairs

  -- Law: each frame's row stands in its table behind those of the frames before it.
  pub rows_stand : Each (StandsAt row_numbers row_width (λ y. 1) (λ x. x.frames) new_rows) frames_of
  rows_stand =
      subst (λ (l : List ℕ). Each (StandsAt row_numbers row_width (λ y. 1) (λ x. x.frames) l) frames_of) (sym p.fills.rows)
      (stand row_numbers row_width (λ y. 1) (λ x. x.frames) (λ y. refl) (λ x y. refl) (λ a b. omega arith) none_read frames_of _
      (frames_follow limit rooms input (length old_rows / row_width) none_read) [] (ap length (joined_none row_numbers)) _)

  messages_stand : Each (StandsAt messages_in message_width many_messages (λ x. x.messages) new_messages) frames_of
  messages_stand =
      subst (λ (l : List ℕ). Each (StandsAt messages_in message_width many_messages (λ x. x.messages) l) frames_of) (sym p.fills.messages)
      (stand messages_in message_width many_messages (λ x. x.messages) messages_long (λ x y. refl) (λ a b. omega arith) none_read frames_of _
      (frames_follow limit rooms input (length old_rows / row_width) none_read) [] (ap length (joined_none messages_in)) _)

  pairs_stand : Each (StandsAt pairs_in pair_width many_pairs (λ x. x.pairs) new_pairs) frames_of
  pairs_stand =
      subst (λ (l : List ℕ). Each (StandsAt pairs_in pair_width many_pairs (λ x. x.pairs) l) frames_of) (sym p.fills.pairs)
      (stand pairs_in pair_width many_pairs (λ x. x.pairs) pairs_long (λ x y. refl) (λ a b. omega arith) none_read frames_of _
      (frames_follow limit rooms input (length old_rows / row_width) none_read) [] (ap length (joined_none pairs_in)) _)

  -- what the single reader gives behind what was read, lent the tables from there on
  lent_read : (b : Totals)
      → frame_read side.HAProxy limit (rooms_of (drop (b.messages * message_width) old_messages) (drop (b.pairs * pair_width) old_pairs) []) (drop b.bytes input) ≡ frame_behind limit rooms input b
  lent_read b =
      let m : length (drop (b.messages * message_width) old_messages) / message_width ≡ length old_messages / message_width - b.messages =
      omega (arith, length-drop (b.messages * message_width) old_messages) in
      let n : length (drop (b.pairs * pair_width) old_pairs) / pair_width ≡ length old_pairs / pair_width - b.pairs = omega (arith, length-drop (b.pairs * pair_width) old_pairs) in
      ap (λ (k : Counts). frame_read side.HAProxy limit k (drop b.bytes input)) (ap₂ (λ (i j : ℕ). record { messages = i; pairs = j; actions = 0 }) m n)

  -- Law: the same of the calls. What stopped it is what `read_frame` says where the last row ended, lent the tables from where the records end; where that accepts a
  -- frame, it is 10 behind the frame, and no row is left.
  pub stop_call : (q : Result (Read Frame) Stop) (next_messages next_pairs : List ℕ)
      → ReadFrame (drop r.totals.bytes input) limit q (drop (r.totals.messages * message_width) old_messages) next_messages (drop (r.totals.pairs * pair_width) old_pairs) next_pairs
      → (r.stop ≡ stop_of q) × ((h : Head) (k : Counts) (used : ℕ) → q ≡ frame_done h k used → r.totals.frames ≡ length old_rows / row_width)
  stop_call q next_messages next_pairs call =
      let x = frame_behind limit rooms input r.totals in
      let says : frame_said q ≡ frame_tells x = call.says ∙ ap frame_tells (lent_read r.totals) in
      (stop_same r.stop (stop_of q) (stops_as x q says stop_single), λ h k used is. stops_full x (said_done x h k used (ap frame_said (sym is) ∙ says)) stop_single)
    where
      stops_as : (x : Reading (Head × Contents)) (q : Result (Read Frame) Stop) → frame_said q ≡ frame_tells x
          → StopsBy (r.totals.frames ≡ length old_rows / row_width) x (stop_said r.stop) → ◌≡◌ {A = Reading Unit} (stop_said r.stop) (stop_said (stop_of q))
      stops_as x (Ok y) e h = let o = said_done x y.value.head y.value.counts y.used e in (rw o.1 at h).0
      stops_as x (Err (stop.Wait n)) e h = rw (said_stop x (stop.Wait n) e) at h
      stops_as x (Err (stop.Refused z)) e h = rw (said_stop x (stop.Refused z) e) at h

      stops_full : (x : Reading (Head × Contents)) {g : Head} {k : Counts} {used : ℕ} → (c : Contents) × (x ≡ answered (done (g, c) used)) × (counts_of c ≡ k)
          → StopsBy (r.totals.frames ≡ length old_rows / row_width) x (stop_said r.stop) → r.totals.frames ≡ length old_rows / row_width
      stops_full x (c, e, same) h = (rw e at h).1

  -- The single call where a frame starts, lent the tables from where the earlier records end: it says what the row does, and leaves the same numbers.
  abbrev pub SameCall : FrameIn → Type 0
  SameCall y =
      (q : Result (Read Frame) Stop) (next_messages next_pairs : List ℕ)
      → ReadFrame (drop y.before.bytes input) limit q (drop (y.before.messages * message_width) old_messages) next_messages (drop (y.before.pairs * pair_width) old_pairs) next_pairs
      → (q ≡ frame_done y.head (counts_of y.contents) y.used)
      × (take (many_messages y * message_width) next_messages ≡ take (many_messages y * message_width) (drop (y.before.messages * message_width) new_messages))
      × (take (many_pairs y * pair_width) next_pairs ≡ take (many_pairs y * pair_width) (drop (y.before.pairs * pair_width) new_pairs))

  same_call : (y : FrameIn) → Single limit rooms input y → StandsAt messages_in message_width many_messages (λ x. x.messages) new_messages y
      → StandsAt pairs_in pair_width many_pairs (λ x. x.pairs) new_pairs y → SameCall y
  same_call y single in_messages in_pairs_lem q next_messages next_pairs call =
      let b = y.before in
      let lent_messages = drop (b.messages * message_width) old_messages in
      let lent_pairs = drop (b.pairs * pair_width) old_pairs in
      let is : frame_read side.HAProxy limit (rooms_of lent_messages lent_pairs []) (drop b.bytes input) ≡ answered (done (y.head, y.contents) y.used) = lent_read b ∙ single in (
        frame_same q (frame_done y.head (counts_of y.contents) y.used) (call.says ∙ ap frame_tells is),
        ap (take (many_messages y * message_width))
            (call.fills.messages ∙ ap (λ (x : Reading (Head × Contents)). table_left message_numbers (λ c. c.messages) (contents_read x) lent_messages) is)
            ∙ take_at (messages_in y) _ (many_messages y * message_width) (messages_long y)
            ∙ sym in_messages,
        ap (take (many_pairs y * pair_width))
            (call.fills.pairs ∙ ap (λ (x : Reading (Head × Contents)). table_left pair_numbers (λ c. c.pairs) (contents_read x) lent_pairs) is)
            ∙ take_at (pairs_in y) _ (many_pairs y * pair_width) (pairs_long y)
            ∙ sym in_pairs_lem,
      )

  -- Law: each frame that was read is what the single definition gives at its start with the room that was left there, and so of the calls.
  pub rows_single : Each (Single limit rooms input) frames_of
  rows_single = frames_single limit rooms input (length old_rows / row_width) none_read

  pub calls_single : Each SameCall frames_of
  calls_single = each_three frames_of rows_single messages_stand pairs_stand
    where
      each_three : (ys : List FrameIn) → Each (Single limit rooms input) ys → Each (StandsAt messages_in message_width many_messages (λ x. x.messages) new_messages) ys
          → Each (StandsAt pairs_in pair_width many_pairs (λ x. x.pairs) new_pairs) ys → Each SameCall ys
      each_three [] a b c = tt
      each_three (y ∷ ys) a b c = (same_call y a.0 b.0 c.0, each_three ys a.1 b.1 c.1)

  -- how many numbers all rows have, all messages, and all pairs
  pub many_numbers : (length (joined row_numbers frames_of) ≡ r.totals.frames * row_width)
      × (length (joined messages_in frames_of) ≡ r.totals.messages * message_width)
      × (length (joined pairs_in frames_of) ≡ r.totals.pairs * pair_width)
  many_numbers =
      let go = frames_follow limit rooms input (length old_rows / row_width) none_read in
      let end : whole.told.totals ≡ r.totals = ap (λ (q : FramesTold). q.totals) (sym p.says) in
      let a = follow_long row_numbers row_width (λ y. 1) (λ x. x.frames) (λ y. refl) (λ x y. refl) (λ i j. omega arith) none_read frames_of _ go in
      let b = follow_long messages_in message_width many_messages (λ x. x.messages) messages_long (λ x y. refl) (λ i j. omega arith) none_read frames_of _ go in
      let c = follow_long pairs_in pair_width many_pairs (λ x. x.pairs) pairs_long (λ x y. refl) (λ i j. omega arith) none_read frames_of _ go in (
        nothing (length (joined row_numbers frames_of)) ∙ a ∙ ap (λ (x : Totals). x.frames * row_width) end,
        nothing (length (joined messages_in frames_of)) ∙ b ∙ ap (λ (x : Totals). x.messages * message_width) end,
        nothing (length (joined pairs_in frames_of)) ∙ c ∙ ap (λ (x : Totals). x.pairs * pair_width) end,
      )
    where
      nothing : (n : ℕ) → n ≡ 0 + n
      nothing n = omega arith
