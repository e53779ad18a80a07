-- Demand 3, of a whole buffer: with bytes appended, a limit no lower and tables no smaller, the frames that were read are kept in front; where it waited more may follow, and
-- none changes; and a refusal that stopped is kept, except 2 under a higher limit, and 10 where the one table that was full is larger.
use mathlib.Core.Path.{◌≡◌, refl, sym, ap, ap₂, ◌∙◌}
use mathlib.Core.List.{List, [], ◌∷◌, ◌++◌, append_assoc}
use Prim.Native.Nat.{ℕ, zero, suc, ◌+◌, ◌-◌, ◌*◌, ◌/◌, ◌≤◌}
use native.Mathlib.Omega.{arith}
use lib.ListN.{length, take, drop, length-append, length-drop}
use lib.Seq.{drop-append-le, take_at}
use Rattle.answer.specs.declared.Refusal.{Refusal}
use Rattle.answer.specs.Answer.{done, refused}
use Rattle.answer.specs.Table.{joined}
use Rattle.answer.proofs.Records.{joined_both}
use Rattle.frame.specs.declared.Head.{Head}
use Rattle.frame.specs.declared.Side.TheVariants as side
use Rattle.answer.specs.Reason.{number_of}
use Rattle.frame.specs.declared.Stop.TheVariants as stop
use Rattle.frame.specs.Read.{answered}
use Rattle.frame.specs.Promise.{stop_said}
use Rattle.frame.specs.Records.{message_width, pair_width}
use Rattle.answer.proofs.Answers.{refused_same}
use Rattle.frame.proofs.Answers.{wait_answered, answered_same, reading_cases}
use Rattle.payload.specs.declared.Counts.{Counts}
use Rattle.payload.specs.declared.Payload.{Payload}
use Rattle.payload.specs.Payload.{Contents}
use Rattle.payload.specs.Promise.{rooms_of}
use Rattle.payload.proofs.Kept.{Within, Table}
use Rattle.payload.proofs.Kept as t
use Rattle.parser.specs.Frame.{frame_read}
use Rattle.parser.proofs.Kept.{accepted_kept, refusal_kept}
use Rattle.buffer.specs.declared.Totals.{Totals}
use Rattle.buffer.specs.declared.FramesRead.{FramesRead}
use Rattle.buffer.specs.Buffer.{FrameIn, FramesTold, FramesIn, none_read, with_read, room_behind, frame_first, frame_behind, frames_from, row_width, row_numbers}
use Rattle.buffer.specs.Promise.{frames_in, messages_in, pairs_in, frames_left, ReadFrames}
use Rattle.buffer.proofs.From.{frame_there, from_wait, from_refused, from_full, from_done}
use Rattle.buffer.proofs.Going.{accepted_fits}
use Rattle.buffer.proofs.Single.{many_numbers}
use Rattle.buffer.proofs.Unique.{frames_same}

-- the room that is left is no smaller
behind_within : (rooms others : Counts) → Within rooms others → (x : Totals) → Within (room_behind rooms x) (room_behind others x)
behind_within rooms others l x = record { messages = omega (arith, l.messages); pairs = omega (arith, l.pairs); actions = omega arith }

-- the table that was full
pub data Full : Type 0 where
  of_rows : Full
  of_messages : Full
  of_pairs : Full

-- how many it has room for, with so many rows
abbrev pub room_in : Full → ℕ → Counts → ℕ
room_in of_rows n rooms = n
room_in of_messages n rooms = rooms.messages
room_in of_pairs n rooms = rooms.pairs

-- which it is, of those that a payload's records go into; HAProxy's frames have no actions
abbrev full_of : {kind : Payload} → Table kind → Full
full_of t.pairs = of_pairs
full_of t.messages = of_messages
full_of t.arguments = of_pairs
full_of t.actions = of_rows

full_same : {kind : Payload} (y : Table kind) (n m : ℕ) (rooms others : Counts) (x : Totals) → room_in (full_of y) n rooms ≡ room_in (full_of y) m others
    → t.room y (room_behind rooms x) ≡ t.room y (room_behind others x)
full_same t.pairs n m rooms others x e = ap (λ (k : ℕ). k - x.pairs) e
full_same t.messages n m rooms others x e = ap (λ (k : ℕ). k - x.messages) e
full_same t.arguments n m rooms others x e = ap (λ (k : ℕ). k - x.pairs) e
full_same t.actions n m rooms others x e = refl

-- with one row less
full_less : (full : Full) (n m : ℕ) (rooms others : Counts) → room_in full (suc n) rooms ≡ room_in full (suc m) others → room_in full n rooms ≡ room_in full m others
full_less of_rows n m rooms others e = omega arith
full_less of_messages n m rooms others e = e
full_less of_pairs n m rooms others e = e

module _ (limit higher : ℕ) (up : limit ≤ higher) (rooms : Counts) (s t : List ℕ) where
  -- an accepted frame behind what was read
  one_kept : (others : Counts) → Within rooms others → (x : Totals) → x.bytes ≤ length s → (y : Head × Contents) (used : ℕ)
      → frame_behind limit rooms s x ≡ answered (done y used) → frame_behind higher others (s ++ t) x ≡ answered (done y used)
  one_kept others larger x there y used e =
      ap (frame_read side.HAProxy higher (room_behind others x)) (drop-append-le x.bytes s t there)
      ∙ accepted_kept side.HAProxy limit higher up (room_behind rooms x) (drop x.bytes s) t y used e (room_behind others x) (behind_within rooms others larger x)

  -- what was read with it is there
  still_there : (x : Totals) → x.bytes ≤ length s → (y : Head × Contents) (used : ℕ) → frame_behind limit rooms s x ≡ answered (done y used) → x.bytes + used ≤ length s
  still_there x there y used e =
      omega (arith, there, (accepted_fits limit (room_behind rooms x) (drop x.bytes s) y used e).there, length-drop x.bytes s)

  -- Kept, the frames: they are in front of those that are read then.
  pub frames_kept : (others : Counts) → Within rooms others → (n m : ℕ) → n ≤ m → (x : Totals) → x.bytes ≤ length s
      → (more : List FrameIn) × ((frames_from higher others (s ++ t) m x).frames ≡ (frames_from limit rooms s n x).frames ++ more)
  frames_kept others larger zero m l x there =
      let r = (frames_from higher others (s ++ t) m x).frames in
      let none : (frames_from limit rooms s 0 x).frames ≡ [] =
      reading_cases (frame_behind limit rooms s x)
      (λ missing e. ap (λ (q : FramesIn). q.frames) (from_wait limit rooms s 0 x missing e))
      (λ number place e. ap (λ (q : FramesIn). q.frames) (from_refused limit rooms s 0 x number place e))
      (λ y used e. ap (λ (q : FramesIn). q.frames) (from_full limit rooms s x y used e)) in
      (r, ap (λ (l : List FrameIn). l ++ r) (sym none))
  frames_kept others larger (suc n) zero l x there = absurd (omega arith)
  frames_kept others larger (suc n) (suc m) l x there =
      let r = (frames_from higher others (s ++ t) (suc m) x).frames in
      reading_cases (frame_behind limit rooms s x)
      (λ missing e. (r, ap (λ (q : FramesIn). q.frames ++ r) (sym (from_wait limit rooms s (suc n) x missing e))))
      (λ number place e. (r, ap (λ (q : FramesIn). q.frames ++ r) (sym (from_refused limit rooms s (suc n) x number place e))))
      (λ y used e.
      let next = with_read x y.1 used in
      let o = frames_kept others larger n m (omega arith) next (still_there x there y used e) in (
        o.0,
        ap (λ (q : FramesIn). q.frames) (from_done higher others (s ++ t) m x y used (one_kept others larger x there y used e))
            ∙ ap (λ (l : List FrameIn). frame_there x y used ∷ l) o.1
            ∙ ap (λ (q : FramesIn). q.frames ++ o.0) (sym (from_done limit rooms s n x y used e)),
      ))

  -- Kept, a refusal that stopped: all is the same, except 2 under a higher limit, and 10 where the table that was full has more room.
  abbrev pub StopKept : ℕ → Totals → ℕ → Type 0
  StopKept n x number =
      (full : Full)
      × ((others : Counts) (m : ℕ) → Within rooms others → n ≤ m → (number ≡ 10 → room_in full n rooms ≡ room_in full m others)
      → frames_from higher others (s ++ t) m x ≡ frames_from limit rooms s n x)

  -- it is the single reader's
  refused_kept : (n : ℕ) (x : Totals) → x.bytes ≤ length s → (number place : ℕ) → (number ≡ 2 → limit ≡ higher)
      → frame_behind limit rooms s x ≡ answered (refused number place) → StopKept n x number
  refused_kept n x there number place two e =
      let k = refusal_kept side.HAProxy limit higher up (room_behind rooms x) (drop x.bytes s) t number place e two in (
        full_of k.0,
        λ others m larger l same.
            from_refused higher others (s ++ t) m x number place
            (ap (frame_read side.HAProxy higher (room_behind others x)) (drop-append-le x.bytes s t there)
            ∙ k.1 (room_behind others x) (record { larger = behind_within rooms others larger x; full = λ ten. full_same k.0 n m rooms others x (same ten) }))
            ∙ sym (from_refused limit rooms s n x number place e),
      )

  -- the same, where it is known by what stopped it
  refused_kept_by : (n : ℕ) (x : Totals) → x.bytes ≤ length s → (number place : ℕ) → (frames_from limit rooms s n x).told.stop ≡ answered (refused number place) → (number ≡ 2 → limit ≡ higher)
      → (m p : ℕ) → frame_behind limit rooms s x ≡ answered (refused m p) → StopKept n x number
  refused_kept_by n x there number place h two m p e =
      let is : answered (refused m p) ≡ answered (refused number place) = sym (ap (λ (r : FramesIn). r.told.stop) (from_refused limit rooms s n x m p e)) ∙ h in
      let o = refused_same (answered_same is) in
      refused_kept n x there number place two (e ∙ ap₂ (λ (a b : ℕ). answered (refused a b)) o.0 o.1)

  pub stop_kept : (n : ℕ) (x : Totals) → x.bytes ≤ length s → (number place : ℕ) → (frames_from limit rooms s n x).told.stop ≡ answered (refused number place)
      → (number ≡ 2 → limit ≡ higher) → StopKept n x number
  stop_kept zero x there number place h two =
      reading_cases (frame_behind limit rooms s x)
      (λ missing e. wait_answered (sym (ap (λ (r : FramesIn). r.told.stop) (from_wait limit rooms s 0 x missing e)) ∙ h))
      (refused_kept_by 0 x there number place h two)
      (λ y used e.
      let is : answered (refused 10 used) ≡ answered (refused number place) = sym (ap (λ (r : FramesIn). r.told.stop) (from_full limit rooms s x y used e)) ∙ h in (
        of_rows,
        λ others m larger l same.
            ap (λ (k : ℕ). frames_from higher others (s ++ t) k x) (sym (same (sym (refused_same (answered_same is)).0)))
            ∙ from_full higher others (s ++ t) x y used (one_kept others larger x there y used e)
            ∙ sym (from_full limit rooms s x y used e),
      ))
  stop_kept (suc n) x there number place h two =
      reading_cases (frame_behind limit rooms s x)
      (λ missing e. wait_answered (sym (ap (λ (r : FramesIn). r.told.stop) (from_wait limit rooms s (suc n) x missing e)) ∙ h))
      (refused_kept_by (suc n) x there number place h two)
      (λ y used e.
      let next = with_read x y.1 used in
      let o = stop_kept n next (still_there x there y used e) number place (sym (ap (λ (r : FramesIn). r.told.stop) (from_done limit rooms s n x y used e)) ∙ h) two in (
        o.0,
        λ others m larger l same.
            let one : m ≡ suc (m - 1) = omega arith in
            ap (λ (k : ℕ). frames_from higher others (s ++ t) k x) one
            ∙ from_done higher others (s ++ t) (m - 1) x y used (one_kept others larger x there y used e)
            ∙ ap (frame_first (frame_there x y used))
            (o.1 others (m - 1) larger (omega arith) (λ ten. full_less o.0 n (m - 1) rooms others (same ten ∙ ap (λ (k : ℕ). room_in o.0 k others) one)))
            ∙ sym (from_done limit rooms s n x y used e),
      ))

-- ---- of the calls

-- a call, and the same call with bytes appended, under a limit no lower and with tables no smaller
module _ (input t : List ℕ) (limit higher : ℕ) (up : limit ≤ higher) (r : FramesRead) (old_rows new_rows old_messages new_messages old_pairs new_pairs : List ℕ)
    (one : ReadFrames input limit r old_rows new_rows old_messages new_messages old_pairs new_pairs) where
  larger_rooms : (more_messages more_pairs : List ℕ) → length old_messages ≤ length more_messages → length old_pairs ≤ length more_pairs
      → Within (rooms_of old_messages old_pairs []) (rooms_of more_messages more_pairs [])
  larger_rooms more_messages more_pairs a b = record { messages = omega arith; pairs = omega arith; actions = omega arith }

  -- numbers of all frames that were read, in front of more
  front_kept : (numbers : FrameIn → List ℕ) (ys more : List FrameIn) (n : ℕ) → length (joined numbers ys) ≡ n → (a table b next : List ℕ) → table ≡ frames_left numbers ys a
      → next ≡ frames_left numbers (ys ++ more) b → take n next ≡ take n table
  front_kept numbers ys more n long a table b next e g =
      ap (take n) (g ∙ ap (λ (l : List ℕ). l ++ drop (length (joined numbers (ys ++ more))) b) (joined_both numbers ys more)
      ∙ append_assoc (joined numbers ys) (joined numbers more) (drop (length (joined numbers (ys ++ more))) b))
      ∙ take_at (joined numbers ys) _ n long
      ∙ sym (ap (take n) e ∙ take_at (joined numbers ys) _ n long)

  module _ (q : FramesRead) (more_rows next_rows more_messages next_messages more_pairs next_pairs : List ℕ)
      (two : ReadFrames (input ++ t) higher q more_rows next_rows more_messages next_messages more_pairs next_pairs)
      (a : length old_rows ≤ length more_rows) (b : length old_messages ≤ length more_messages) (c : length old_pairs ≤ length more_pairs) where
    -- Law: the frames that were read are in front of those that are read then.
    pub frames_call_kept : (more : List FrameIn) × ((frames_in (input ++ t) higher more_rows more_messages more_pairs).frames ≡ (frames_in input limit old_rows old_messages old_pairs).frames ++ more)
    frames_call_kept =
        frames_kept limit higher up (rooms_of old_messages old_pairs []) input t (rooms_of more_messages more_pairs []) (larger_rooms more_messages more_pairs b c)
        (length old_rows / row_width) (length more_rows / row_width) (omega arith) none_read (omega arith)

    -- Law: the rows are kept in front, and their records; more may follow.
    pub rows_kept : (r.totals.frames ≤ q.totals.frames)
        × (take (r.totals.frames * row_width) next_rows ≡ take (r.totals.frames * row_width) new_rows)
        × (take (r.totals.messages * message_width) next_messages ≡ take (r.totals.messages * message_width) new_messages)
        × (take (r.totals.pairs * pair_width) next_pairs ≡ take (r.totals.pairs * pair_width) new_pairs)
    rows_kept =
        let ys = (frames_in input limit old_rows old_messages old_pairs).frames in
        let many = many_numbers input limit r old_rows new_rows old_messages new_messages old_pairs new_pairs one in
        let then = many_numbers (input ++ t) higher q more_rows next_rows more_messages next_messages more_pairs next_pairs two in
        let both = ap (λ (l : List FrameIn). length (joined row_numbers l)) frames_call_kept.1 ∙ ap length (joined_both row_numbers ys frames_call_kept.0)
        ∙ length-append (joined row_numbers ys) (joined row_numbers frames_call_kept.0) in (
          omega (arith, many.0, then.0, both),
          front_kept row_numbers ys frames_call_kept.0 _ many.0 old_rows new_rows more_rows next_rows one.fills.rows (two.fills.rows ∙ ap (λ (l : List FrameIn). frames_left row_numbers l more_rows) frames_call_kept.1),
          front_kept messages_in ys frames_call_kept.0 _ many.1 old_messages new_messages more_messages next_messages one.fills.messages
              (two.fills.messages ∙ ap (λ (l : List FrameIn). frames_left messages_in l more_messages) frames_call_kept.1),
          front_kept pairs_in ys frames_call_kept.0 _ many.2 old_pairs new_pairs more_pairs next_pairs one.fills.pairs (two.fills.pairs ∙ ap (λ (l : List FrameIn). frames_left pairs_in l more_pairs) frames_call_kept.1),
        )

  -- Law: a refusal that stopped is kept, with all that is told, except 2 under a higher limit, and 10 where the table that was full has more room.
  pub stop_call_kept : (z : Refusal) → r.stop ≡ stop.Refused z → (number_of z.reason ≡ 2 → limit ≡ higher)
      → (full : Full)
      × ((q : FramesRead) (more_rows next_rows more_messages next_messages more_pairs next_pairs : List ℕ)
      → ReadFrames (input ++ t) higher q more_rows next_rows more_messages next_messages more_pairs next_pairs
      → length old_rows ≤ length more_rows → length old_messages ≤ length more_messages → length old_pairs ≤ length more_pairs
      → (number_of z.reason ≡ 10 → room_in full (length old_rows / row_width) (rooms_of old_messages old_pairs []) ≡ room_in full (length more_rows / row_width) (rooms_of more_messages more_pairs []))
      → q ≡ r)
  stop_call_kept z is two =
      let k = stop_kept limit higher up (rooms_of old_messages old_pairs []) input t (length old_rows / row_width) none_read (omega arith) (number_of z.reason) z.place
      (ap (λ (y : FramesTold). y.stop) (sym one.says) ∙ ap stop_said is) two in (
        k.0,
        λ q more_rows next_rows more_messages next_messages more_pairs next_pairs again a b c same.
            frames_same q r
            (again.says
            ∙ ap (λ (y : FramesIn). y.told) (k.1 (rooms_of more_messages more_pairs []) (length more_rows / row_width) (larger_rooms more_messages more_pairs b c) (omega arith) same)
            ∙ sym one.says),
      )
