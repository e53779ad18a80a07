-- Laws about how far the reading is: the frames so far stand in the three tables, and what the whole comes to is these and then what is left.
use mathlib.Core.Path.{◌≡◌, refl, sym, ap, ap₂, subst, ◌∙◌}
use mathlib.Core.List.{List, [], ◌∷◌, ◌++◌, append-nil, append_assoc}
use Prim.Native.Nat.{ℕ, suc, ◌+◌, ◌-◌, ◌*◌, ◌/◌, ◌≤◌, ◌<◌}
use native.Mathlib.Omega.{arith}
use lib.ListN.{length, take, drop, length-append, length-drop, take-append-drop}
use borrow.Rule.Slice.PartMut.{put_mid}
use Rattle.answer.specs.Answer.{Answer, done, refused, written, leaves}
use Rattle.answer.specs.Table.{joined}
use Rattle.answer.proofs.Output.{lent_tail_lem, leaves_tail}
use Rattle.answer.proofs.Records.{joined_none}
use Rattle.frame.specs.declared.Head.{Head}
use Rattle.frame.specs.declared.Side.TheVariants as side
use Rattle.frame.specs.Read.{Reading, answered}
use Rattle.frame.specs.Records.{message_width, message_numbers, pair_width, pair_numbers}
use Rattle.payload.specs.declared.Counts.{Counts}
use Rattle.payload.specs.Payload.{Contents}
use Rattle.payload.specs.Promise.{rooms_of, counts_of, table_left}
use Rattle.payload.proofs.Filling.{joined_more, joined_width, Filled, filled_none, filled_length}
use Rattle.payload.proofs.Kept.{Within}
use Rattle.payload.proofs.Accepted.{payload_fit}
use Rattle.std.specs.Prelude.{Result, Ok, Err}
use Rattle.answer.specs.declared.Read.{Read}
use Rattle.answer.specs.declared.Refusal.{Refusal}
use Rattle.answer.specs.Reason.{number_of}
use Rattle.frame.specs.declared.Stop.{Stop}
use Rattle.frame.specs.declared.Stop.TheVariants as stop
use Rattle.frame.specs.Promise.{stop_said}
use Rattle.parser.specs.declared.Frame.{Frame}
use Rattle.parser.specs.Frame.{payload_of, frame_read}
use Rattle.parser.specs.Promise.{frame_said, frame_tells, contents_read, FrameFills, ReadFrame}
use Rattle.parser.proofs.Entries.{said_done}
use Rattle.parser.proofs.Frames.{frame_cut}
use Rattle.buffer.specs.declared.Totals.{Totals}
use Rattle.buffer.specs.Buffer.{FrameIn, FramesIn, none_read, with_read, room_behind, stopped, frame_first, frame_behind, frames_from, row_width, row_numbers}
use Rattle.buffer.specs.Promise.{frames_in, messages_in, pairs_in, ReadFrames}
use Rattle.buffer.specs.Inner.{numbers_of, stop_of}
use Rattle.buffer.proofs.From.{said_stop, frame_there, from_stop, from_done, from_none}

-- ---- a table whose tail is lent

-- the tail behind n numbers, as the callee has it
abbrev pub lent_tail : ℕ → List ℕ → List ℕ
lent_tail n table = take (length table - n) (drop n table)

-- the table with what came back
abbrev pub back_in : ℕ → List ℕ → List ℕ → List ℕ
back_in n table tail = put_mid n (length table - n) table tail

pub lent_length : (n : ℕ) (table : List ℕ) → length (lent_tail n table) ≡ length table - n
lent_length n table = ap length (lent_tail_lem n table) ∙ length-drop n table

-- a tail that came back as it was
pub back_same : (n : ℕ) (table tail : List ℕ) → tail ≡ lent_tail n table → back_in n table tail ≡ table
back_same n table tail e =
    ap (λ (l : List ℕ). take n table ++ (l ++ drop (length table - n) (drop n table))) e
    ∙ ap (λ (l : List ℕ). take n table ++ l) (take-append-drop (length table - n) (drop n table))
    ∙ take-append-drop n table

-- one more goes behind those that stand there
module _ {A : Type 0} {numbers : A → List ℕ} {old : List ℕ} {xs : List A} {table : List ℕ} (g : Filled numbers old xs table) where
  pub filled_back : (x : A) (n : ℕ) → length (joined numbers xs) ≡ n → n + length (numbers x) ≤ length old
      → (tail : List ℕ) → tail ≡ leaves (written (numbers x)) (lent_tail n table) → Filled numbers old (xs ++ (x ∷ [])) (back_in n table tail)
  filled_back x n count room tail e =
      let all = joined_more numbers xs x in
      record {
        room = omega (arith, ap length all, length-append (joined numbers xs) (numbers x));
        holds = leaves_tail (joined numbers xs) (numbers x) old table tail n count g.holds e ∙ ap (λ (l : List ℕ). leaves (written l) old) (sym all);
      }

-- how long all are, with one more
pub longer : {A : Type 0} (numbers : A → List ℕ) (xs : List A) (x : A) → length (joined numbers (xs ++ (x ∷ []))) ≡ length (joined numbers xs) + length (numbers x)
longer numbers xs x = ap length (joined_more numbers xs x) ∙ length-append (joined numbers xs) (numbers x)

pub messages_long : (y : FrameIn) → length (messages_in y) ≡ length y.contents.messages * message_width
messages_long y = joined_width message_numbers message_width (λ x. refl) y.contents.messages

pub pairs_long : (y : FrameIn) → length (pairs_in y) ≡ length y.contents.pairs * pair_width
pairs_long y = joined_width pair_numbers pair_width (λ x. refl) y.contents.pairs

-- ---- an accepted frame

-- its records had room, and its bytes are there
pub record FrameFits (rooms : Counts) (s : List ℕ) (c : Contents) (used : ℕ) : Type 0 where
  pub room : Within (counts_of c) rooms
  pub there : used ≤ length s

pub accepted_fits : (limit : ℕ) (rooms : Counts) (s : List ℕ) (y : Head × Contents) (used : ℕ) → frame_read side.HAProxy limit rooms s ≡ answered (done y used)
    → FrameFits rooms s y.1 used
accepted_fits limit rooms s (h, c) used e =
    let q = frame_cut side.HAProxy limit rooms s h c used e in
    record { room = payload_fit (payload_of h.frame_type) rooms q.held.start (take used s) c used q.held.holds; there = q.there }

-- ---- how far it is

module _ (s : List ℕ) (limit : ℕ) (old_rows old_messages old_pairs : List ℕ) where
  abbrev pub rooms : Counts
  rooms = rooms_of old_messages old_pairs []

  abbrev pub room : ℕ
  room = length old_rows / row_width

  -- what is left behind what was read
  abbrev pub left : Totals → FramesIn
  left x = frames_from limit rooms s (room - x.frames) x

  abbrev pub whole : FramesIn
  whole = frames_in s limit old_rows old_messages old_pairs

  pub record Going (x : Totals) (rows messages pairs : List ℕ) : Type 0 where
    pub so_far : List FrameIn
    pub goes : whole.frames ≡ so_far ++ (left x).frames
    pub tells : whole.told ≡ (left x).told
    pub in_rows : Filled row_numbers old_rows so_far rows
    pub in_messages_lem : Filled messages_in old_messages so_far messages
    pub in_pairs : Filled pairs_in old_pairs so_far pairs
    pub many_rows : length (joined row_numbers so_far) ≡ x.frames * row_width
    pub many_messages_lem : length (joined messages_in so_far) ≡ x.messages * message_width
    pub many_pairs_lem : length (joined pairs_in so_far) ≡ x.pairs * pair_width
    pub there : x.bytes ≤ length s

  pub going_none : Going none_read old_rows old_messages old_pairs
  going_none =
      let all : room ≡ room - 0 = omega arith in
      record {
        so_far = [];
        goes = ap (λ (n : ℕ). (frames_from limit rooms s n none_read).frames) all;
        tells = ap (λ (n : ℕ). (frames_from limit rooms s n none_read).told) all;
        in_rows = filled_none row_numbers old_rows;
        in_messages_lem = filled_none messages_in old_messages;
        in_pairs = filled_none pairs_in old_pairs;
        many_rows = ap length (joined_none row_numbers);
        many_messages_lem = ap length (joined_none messages_in);
        many_pairs_lem = ap length (joined_none pairs_in);
        there = omega arith;
      }

  module _ {x : Totals} {rows messages pairs : List ℕ} (g : Going x rows messages pairs) where
    -- what stands there is within the tables, which are as long as they were
    pub long_rows : length rows ≡ length old_rows
    long_rows = filled_length g.in_rows

    pub long_messages : length messages ≡ length old_messages
    long_messages = filled_length g.in_messages_lem

    pub long_pairs : length pairs ≡ length old_pairs
    long_pairs = filled_length g.in_pairs

    pub in_table_messages : x.messages * message_width ≤ length messages
    in_table_messages = omega (arith, g.many_messages_lem, g.in_messages_lem.room, long_messages)

    pub in_table_pairs : x.pairs * pair_width ≤ length pairs
    in_table_pairs = omega (arith, g.many_pairs_lem, g.in_pairs.room, long_pairs)

    pub row_room : x.frames < room → x.frames * row_width + row_width ≤ length rows
    row_room h = omega (arith, h, long_rows)

    -- it ends where what is left is nothing
    pub going_end : (why : Stop) → left x ≡ stopped x (stop_said why) → ReadFrames s limit (record { totals = x; stop = why }) old_rows rows old_messages messages old_pairs pairs
    going_end why e =
        let all : whole.frames ≡ g.so_far = g.goes ∙ ap (λ (l : FramesIn). g.so_far ++ l.frames) e ∙ append-nil g.so_far in
        record {
          says = sym (g.tells ∙ ap (λ (l : FramesIn). l.told) e);
          fills =
              rw all
              (record { rows = g.in_rows.holds; messages = g.in_messages_lem.holds; pairs = g.in_pairs.holds });
        }

    -- no row is left: the frame there is looked at
    pub going_full : room ≤ x.frames → (r : Result (Read Frame) Stop)
        → frame_said r ≡ frame_tells (frame_read side.HAProxy limit (record { messages = length messages / message_width - x.messages; pairs = length pairs / pair_width - x.pairs; actions = 0 }) (lent_tail x.bytes s))
        → ReadFrames s limit (record { totals = x; stop = stop_of r }) old_rows rows old_messages messages old_pairs pairs
    going_full h r e =
        let zero_left : room - x.frames ≡ 0 = omega arith in
        let same : record { messages = length messages / message_width - x.messages; pairs = length pairs / pair_width - x.pairs; actions = 0 } ≡ room_behind rooms x =
        ap₂ (λ (n k : ℕ). record { messages = n / message_width - x.messages; pairs = k / pair_width - x.pairs; actions = 0 }) long_messages long_pairs in
        going_end (stop_of r)
        (ap (λ (n : ℕ). frames_from limit rooms s n x) zero_left
        ∙ from_none limit rooms s x r (e ∙ ap₂ (λ (k : Counts) (l : List ℕ). frame_tells (frame_read side.HAProxy limit k l)) same (lent_tail_lem x.bytes s)))

    -- ---- the frame there is read, into the tails of both tables
    abbrev from_messages : ℕ
    from_messages = x.messages * message_width

    abbrev from_pairs : ℕ
    from_pairs = x.pairs * pair_width

    module _ (r : Result (Read Frame) Stop) (tail_messages tail_pairs : List ℕ)
        (call : ReadFrame (lent_tail x.bytes s) limit r (lent_tail from_messages messages) tail_messages (lent_tail from_pairs pairs) tail_pairs) where
      same_rooms : rooms_of (lent_tail from_messages messages) (lent_tail from_pairs pairs) [] ≡ room_behind rooms x
      same_rooms =
          let m : length (lent_tail from_messages messages) / message_width ≡ length old_messages / message_width - x.messages =
          omega (arith, lent_length from_messages messages, long_messages) in
          let p : length (lent_tail from_pairs pairs) / pair_width ≡ length old_pairs / pair_width - x.pairs =
          omega (arith, lent_length from_pairs pairs, long_pairs) in
          ap₂ (λ (n k : ℕ). record { messages = n; pairs = k; actions = 0 }) m p

      reads : FrameFills (frame_behind limit rooms s x) r (lent_tail from_messages messages) tail_messages (lent_tail from_pairs pairs) tail_pairs [] []
      reads =
          subst (λ (y : Reading (Head × Contents)). FrameFills y r (lent_tail from_messages messages) tail_messages (lent_tail from_pairs pairs) tail_pairs [] [])
          (ap₂ (λ (k : Counts) (l : List ℕ). frame_read side.HAProxy limit k l) same_rooms (lent_tail_lem x.bytes s)) call

      -- a frame that is not accepted fills nothing
      unfilled : (n p : ℕ) → contents_read (frame_behind limit rooms s x) ≡ refused n p
          → (back_in from_messages messages tail_messages ≡ messages) × (back_in from_pairs pairs tail_pairs ≡ pairs)
      unfilled n p is = (
        back_same from_messages messages tail_messages
            (reads.fills.messages ∙ ap (λ (a : Answer Contents). table_left message_numbers (λ c. c.messages) a (lent_tail from_messages messages)) is),
        back_same from_pairs pairs tail_pairs
            (reads.fills.pairs ∙ ap (λ (a : Answer Contents). table_left pair_numbers (λ c. c.pairs) a (lent_tail from_pairs pairs)) is),
      )

      pub back_lengths : (n p : ℕ) → contents_read (frame_behind limit rooms s x) ≡ refused n p
          → (length (back_in from_messages messages tail_messages) ≡ length old_messages) × (length (back_in from_pairs pairs tail_pairs) ≡ length old_pairs)
      back_lengths n p is = let o = unfilled n p is in (ap length o.0 ∙ long_messages, ap length o.1 ∙ long_pairs)

      -- what stops it there
      module _ (e : Stop) (is : r ≡ Err e) where
        stops : frame_behind limit rooms s x ≡ stop_said e
        stops = said_stop (frame_behind limit rooms s x) e (ap frame_said (sym is) ∙ reads.says)

        as_it_was : (back_in from_messages messages tail_messages ≡ messages) × (back_in from_pairs pairs tail_pairs ≡ pairs)
        as_it_was = by_stop e (ap contents_read stops)
          where
            by_stop : (q : Stop) → contents_read (frame_behind limit rooms s x) ≡ contents_read (stop_said q)
                → (back_in from_messages messages tail_messages ≡ messages) × (back_in from_pairs pairs tail_pairs ≡ pairs)
            by_stop (stop.Wait missing) q = unfilled _ _ q
            by_stop (stop.Refused y) q = unfilled _ _ q

        pub going_stops : ReadFrames s limit (record { totals = x; stop = e }) old_rows rows old_messages (back_in from_messages messages tail_messages) old_pairs (back_in from_pairs pairs tail_pairs)
        going_stops = rw (as_it_was.0, as_it_was.1) (going_end e (from_stop limit rooms s (room - x.frames) x e stops))

      -- a frame that is not whole, and one that is refused: both tables are as long as they were, and what was read is told
      module _ (missing : ℕ) (is : r ≡ Err (stop.Wait missing)) where
        pub wait_lengths : (length (back_in from_messages messages tail_messages) ≡ length old_messages) × (length (back_in from_pairs pairs tail_pairs) ≡ length old_pairs)
        wait_lengths = back_lengths 1 missing (ap contents_read (stops (stop.Wait missing) is))

        pub going_wait : ReadFrames s limit (record { totals = x; stop = stop.Wait missing }) old_rows rows old_messages (back_in from_messages messages tail_messages) old_pairs (back_in from_pairs pairs tail_pairs)
        going_wait = going_stops (stop.Wait missing) is

      module _ (q : Refusal) (is : r ≡ Err (stop.Refused q)) where
        pub refused_lengths : (length (back_in from_messages messages tail_messages) ≡ length old_messages) × (length (back_in from_pairs pairs tail_pairs) ≡ length old_pairs)
        refused_lengths = back_lengths (number_of q.reason) q.place (ap contents_read (stops (stop.Refused q) is))

        pub going_refused : ReadFrames s limit (record { totals = x; stop = stop.Refused q }) old_rows rows old_messages (back_in from_messages messages tail_messages) old_pairs (back_in from_pairs pairs tail_pairs)
        going_refused = going_stops (stop.Refused q) is

      -- an accepted frame is one more
      module _ (y : Read Frame) (is : r ≡ Ok y) where
        abbrev h : Head
        h = y.value.head

        abbrev k : Counts
        k = y.value.counts

        abbrev used : ℕ
        used = y.used

        found : (c : Contents) × (frame_behind limit rooms s x ≡ answered (done (h, c) used)) × (counts_of c ≡ k)
        found = said_done (frame_behind limit rooms s x) h k used (ap frame_said (sym is) ∙ reads.says)

        abbrev c : Contents
        c = found.0

        abbrev here : FrameIn
        here = frame_there x (h, c) used

        fits : FrameFits (room_behind rooms x) (drop x.bytes s) c used
        fits = accepted_fits limit (room_behind rooms x) (drop x.bytes s) (h, c) used found.1

        room_messages : x.messages * message_width + length c.messages * message_width ≤ length old_messages
        room_messages = omega (arith, fits.room.messages, in_table_messages, long_messages)

        room_pairs : x.pairs * pair_width + length c.pairs * pair_width ≤ length old_pairs
        room_pairs = omega (arith, fits.room.pairs, in_table_pairs, long_pairs)

        ends_there : x.bytes + used ≤ length s
        ends_there = omega (arith, fits.there, length-drop x.bytes s, g.there)

        -- how much was read with it is within the tables and the bytes
        pub with_within : (x.messages + k.messages ≤ length old_messages) × (x.pairs + k.pairs ≤ length old_pairs) × (x.bytes + used ≤ length s)
        with_within =
            let m : length c.messages ≡ k.messages = ap (λ (n : Counts). n.messages) found.2 in
            let p : length c.pairs ≡ k.pairs = ap (λ (n : Counts). n.pairs) found.2 in
            (omega (arith, room_messages), omega (arith, room_pairs), ends_there)

        tail_messages_lem : tail_messages ≡ leaves (written (messages_in here)) (lent_tail from_messages messages)
        tail_messages_lem = reads.fills.messages ∙ ap (λ (y : Reading (Head × Contents)). table_left message_numbers (λ c. c.messages) (contents_read y) (lent_tail from_messages messages)) found.1

        tail_pairs_lem : tail_pairs ≡ leaves (written (pairs_in here)) (lent_tail from_pairs pairs)
        tail_pairs_lem = reads.fills.pairs ∙ ap (λ (y : Reading (Head × Contents)). table_left pair_numbers (λ c. c.pairs) (contents_read y) (lent_tail from_pairs pairs)) found.1

        module _ (row : ℕ) (counted : x.frames ≡ row) (below : row < room) (tail_rows : List ℕ) where
          one_more : left x ≡ frame_first here (left (with_read x c used))
          one_more =
              let n : room - x.frames ≡ suc (room - (x.frames + 1)) = omega arith in
              ap (λ (n : ℕ). frames_from limit rooms s n x) n ∙ from_done limit rooms s (room - (x.frames + 1)) x (h, c) used found.1

          on : tail_rows ≡ leaves (written (row_numbers here)) (lent_tail (row * row_width) rows)
              → Going (with_read x c used) (back_in (row * row_width) rows tail_rows) (back_in from_messages messages tail_messages) (back_in from_pairs pairs tail_pairs)
          on e =
              record {
                so_far = g.so_far ++ (here ∷ []);
                goes =
                    g.goes
                    ∙ ap (λ (l : FramesIn). g.so_far ++ l.frames) one_more
                    ∙ sym (append_assoc g.so_far (here ∷ []) (left (with_read x c used)).frames);
                tells = g.tells ∙ ap (λ (l : FramesIn). l.told) one_more;
                in_rows = filled_back g.in_rows here (row * row_width) (g.many_rows ∙ ap (λ (n : ℕ). n * row_width) counted) (omega (arith, below)) tail_rows e;
                in_messages_lem = filled_back g.in_messages_lem here from_messages g.many_messages_lem (omega (arith, messages_long here, room_messages)) tail_messages tail_messages_lem;
                in_pairs = filled_back g.in_pairs here from_pairs g.many_pairs_lem (omega (arith, pairs_long here, room_pairs)) tail_pairs tail_pairs_lem;
                many_rows = omega (arith, longer row_numbers g.so_far here, g.many_rows);
                many_messages_lem = omega (arith, longer messages_in g.so_far here, g.many_messages_lem, messages_long here);
                many_pairs_lem = omega (arith, longer pairs_in g.so_far here, g.many_pairs_lem, pairs_long here);
                there = ends_there;
              }

          pub going_on : tail_rows ≡ leaves (written (numbers_of x h k used)) (lent_tail (row * row_width) rows)
              → Going (record { frames = x.frames + 1; messages = x.messages + k.messages; pairs = x.pairs + k.pairs; bytes = x.bytes + used })
              (back_in (row * row_width) rows tail_rows) (back_in from_messages messages tail_messages) (back_in from_pairs pairs tail_pairs)
          going_on e =
              subst
              (λ (n : Counts). Going (record { frames = x.frames + 1; messages = x.messages + n.messages; pairs = x.pairs + n.pairs; bytes = x.bytes + used })
              (back_in (row * row_width) rows tail_rows) (back_in from_messages messages tail_messages) (back_in from_pairs pairs tail_pairs))
              found.2
              (on (e ∙ ap (λ (n : Counts). leaves (written (numbers_of x h n used)) (lent_tail (row * row_width) rows)) (sym found.2)))
