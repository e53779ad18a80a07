-- What the writers answer to the records that a reader left of an accepted frame, with the frame's own bytes as their buffer, whichever side sent it: the frame's
-- bytes, where its texts are UTF-8 and its values plain; 15 at the first record with another text; and else other bytes.
use mathlib.Core.Path.{◌≡◌, refl, sym, ap, ◌∙◌}
use mathlib.Core.Bool.{true, false, cond, not, ◌||◌, ◌&&◌}
use mathlib.Core.List.{List, [], ◌++◌}
use Prim.Native.Nat.{ℕ, ◌+◌, ◌*◌, ◌≤◌, ◌<◌}
use native.Mathlib.Omega.{arith}
use lib.Dec.{eqb}
use lib.ListN.{length, take, length-append, length-map}
use lib.Seq.{get_or-take, length-take-le}
use borrow.Author.Tests.{le-leb, eq-eqb, ne_eqb, eqb-true, eqb-false}
use Rattle.std.specs.Prelude.{Result}
use Rattle.answer.specs.declared.Read.{Read}
use Rattle.frame.specs.declared.Stop.{Stop}
use Rattle.parser.specs.declared.Frame.{Frame}
use Rattle.answer.specs.Answer.{done, refused}
use Rattle.answer.specs.Order.{in_order}
use Rattle.answer.specs.Inner.{Sound, InRow}
use Rattle.answer.specs.Table.{records, joined, some}
use Rattle.answer.proofs.Cases.{bool_cases}
use Rattle.answer.proofs.Each.{Each}
use Rattle.answer.proofs.Records.{records_none, records_length}
use Rattle.varint.proofs.Reading.{Bytes}
use Rattle.types.proofs.Checking.{string_ill, string_well}
use Rattle.frame.specs.declared.Head.{Head}
use Rattle.frame.specs.declared.Pair.{Pair}
use Rattle.frame.specs.declared.Message.{Message}
use Rattle.frame.specs.declared.Side.{Side}
use Rattle.frame.specs.declared.Side.TheVariants as side
use Rattle.frame.specs.Records.{message_width, message_at, message_numbers, pair_width, pair_at, pair_numbers, action_width, action_at, action_numbers, same_key}
use Rattle.frame.specs.Read.{answered}
use Rattle.frame.proofs.Heads.{three_says}
use Rattle.payload.specs.declared.Counts.{Counts}
use Rattle.payload.specs.declared.Payload.{Payload}
use Rattle.payload.specs.declared.Payload.TheVariants as k
use Rattle.payload.specs.Pair.{pair_from}
use Rattle.payload.specs.Action.{action_from}
use Rattle.payload.specs.Payload.{Contents, payload}
use Rattle.payload.specs.Promise.{counts_of}
use Rattle.payload.specs.Inner.{Run}
use Rattle.payload.proofs.Filling.{joined_width}
use Rattle.answer.proofs.Row.{Found, row_found}
use Rattle.payload.proofs.Exact.{row_each}
use Rattle.payload.proofs.Accepted.{KvHeld, kv_run, MessagesHeld, messages_run, actions_run, Once, pairs_of}
use Rattle.parser.specs.Frame.{payload_of, frame_read}
use Rattle.parser.specs.Promise.{frame_said, FrameFills}
use Rattle.parser.proofs.Unique.{frame_done}
use Rattle.parser.proofs.Entries.{said_done}
use Rattle.parser.proofs.Frames.{frame_cut}
use Rattle.writer.specs.Pair.{pair_bytes, kv_checks}
use Rattle.writer.specs.Action.{action_bytes}
use Rattle.writer.specs.Message.{message_bytes, run_start}
use Rattle.writer.specs.Inner.{pair_order, message_order, action_order}
use Rattle.writer.specs.Frame.{fin_alone, kv_allowed, kv_answer, messages_bytes, notify_answer, actions_answer}
use Rattle.writer.proofs.Pairs.{kv_own, kv_new}
use Rattle.writer.proofs.Messages.{message_name}
use Rattle.writer.proofs.Answers.{kv_haproxy_hello, kv_haproxy_disconnect, kv_agent_hello, kv_agent_disconnect, kv_list, actions_list, notify_held, notify_named, notify_passed}
use Rattle.roundtrip.proofs.Plain.{plain_pair, plain_action, well_pair, well_name, well_action, WellNames}
use Rattle.listing.proofs.Accepted.{Whole, pair_there}
use Rattle.frame.proofs.Rows.{table_messages, table_pairs, table_actions}
use Rattle.roundtrip.proofs.Pair.{Plain, run_form, run_only, pair_refuses}
use Rattle.roundtrip.proofs.Action.{RefusesText, actions_form, actions_only, actions_refuse}
use Rattle.roundtrip.proofs.Groups.{group_bytes, groups_parts, groups_all, groups_form, groups_only, groups_bytes, Runs, runs_stand, no_stray}
use Rattle.roundtrip.proofs.Keys.{once_at}
use Rattle.roundtrip.proofs.Head.{head_again, Accepted, frame_accepted}
use Rattle.roundtrip.proofs.Rewritten.{Rewrites, fifteen, Says, says_number, none_ill, first_ill, each_held, held_each, frame_same, frame_only, list_rewrites}

-- ---- what a reader leaves

-- a table that holds these records at its front
pub record Table {A : Type 0} (at : List ℕ → ℕ → A) (width : ℕ) (table : List ℕ) (n : ℕ) (xs : List A) : Type 0 where
  pub hold : records (at table) 0 n ≡ xs
  pub room : n * width ≤ length table

-- the records' numbers at its front make such a table
pub in_table : {A : Type 0} (numbers : A → List ℕ) (at : List ℕ → ℕ → A) (width : ℕ) → ((x : A) → length (numbers x) ≡ width)
    → ((xs : List A) (t : List ℕ) → records (at (joined numbers xs ++ t)) 0 (length xs) ≡ xs) → (xs : List A) (table t : List ℕ) → table ≡ joined numbers xs ++ t
    → (n : ℕ) → length xs ≡ n → Table at width table n xs
in_table numbers at width each holds xs table t is n many =
    rw (sym many)
    (record { hold = rw is (holds xs t); room = omega (arith, ap length is, length-append (joined numbers xs) t, joined_width numbers width each xs) })

-- A frame f of a side that was accepted, and tables that hold so many records of it.
pub record Left (x : Side) (limit : ℕ) (f : List ℕ) (m : Head) (counts : Counts) (messages pairs actions : List ℕ) : Type 0 where
  pub small : Bytes f
  pub contents : Contents
  pub rooms : Counts
  pub whole : Accepted x limit rooms f m contents
  pub in_messages_lem : Table message_at message_width messages counts.messages contents.messages
  pub in_pairs : Table pair_at pair_width pairs counts.pairs contents.pairs
  pub in_actions_lem : Table action_at action_width actions counts.actions contents.actions

-- Law: where a reader is done, it left such tables; and the frame has as many bytes as it took.
module _ (x : Side) (limit : ℕ) (rooms : Counts) (s : List ℕ) (small : Bytes s) (r : Result (Read Frame) Stop) (old_messages new_messages old_pairs new_pairs old_actions new_actions : List ℕ)
    (reads : FrameFills (frame_read x limit rooms s) r old_messages new_messages old_pairs new_pairs old_actions new_actions) (m : Head) (counts : Counts) (used : ℕ) (is : r ≡ frame_done m counts used) where
  found : (c : Contents) × (frame_read x limit rooms s ≡ answered (done (m, c) used)) × (counts_of c ≡ counts)
  found = said_done (frame_read x limit rooms s) m counts used (ap frame_said (sym is) ∙ reads.says)

  there : used ≤ length s
  there = (frame_cut x limit rooms s m found.0 used found.1).there

  pub long : length (take used s) ≡ used
  long = length-take-le used s there

  bytes : Bytes (take used s)
  bytes i l = rw (get_or-take used s i 0 (omega (arith, long))) (small i (omega (arith, long, there)))

  pub left : Left x limit (take used s) m counts new_messages new_pairs new_actions
  left =
      let c = found.0 in
      let e = found.1 in
      let n = found.2 in
      record {
        small = bytes;
        contents = c;
        rooms = rooms;
        whole = frame_accepted x limit rooms s m c used bytes e;
        in_messages_lem = in_table message_numbers message_at message_width (λ y. refl) table_messages c.messages new_messages _ (rw e at reads.fills.messages) counts.messages (ap (λ (z : Counts). z.messages) n);
        in_pairs = in_table pair_numbers pair_at pair_width (λ y. refl) table_pairs c.pairs new_pairs _ (rw e at reads.fills.pairs) counts.pairs (ap (λ (z : Counts). z.pairs) n);
        in_actions_lem = in_table action_numbers action_at action_width (λ y. refl) table_actions c.actions new_actions _ (rw e at reads.fills.actions) counts.actions (ap (λ (z : Counts). z.actions) n);
      }

-- ---- what the writers answer to it

module _ {x : Side} {limit : ℕ} {f : List ℕ} {m : Head} {counts : Counts} {messages pairs actions : List ℕ} (l : Left x limit f m counts messages pairs actions) where
  abbrev c : Contents
  c = l.contents

  abbrev start : ℕ
  start = l.whole.start

  abbrev h : Head
  h = head_again m

  abbrev rows : ℕ
  rows = counts.messages

  abbrev total : ℕ
  total = counts.pairs

  read_as : (kind : Payload) → payload_of m.frame_type ≡ kind → payload kind l.rooms start f ≡ done c (length f)
  read_as kind is = ap (λ (y : Payload). payload y l.rooms start f) (sym is) ∙ l.whole.read

  -- pairs in a row lie in the bytes; and of a pair that does, its own checks are its texts'
  run_whole : (at : ℕ) (ps : List Pair) (end : ℕ) → Run f at ps end → Each (Whole (length f)) ps
  run_whole at ps end r = row_each {Here = Found (λ n. pair_from n f)} (Whole (length f)) (λ n p next e. pair_there f n p next e) at ps end (row_found (λ n. pair_from n f) at ps end r)

  pair_says : Each (Whole (length f)) c.pairs → (i : ℕ) → i < total → in_order (pair_order f pairs i) 0 ≡ cond (well_pair f (pair_at pairs i)) 0 15
  pair_says whole i b = pair_refuses f (pair_at pairs i) (held_each (Whole (length f)) (pair_at pairs) total c.pairs l.in_pairs.hold whole i b)

  -- ---- a KV list

  module _ (kv : payload_of m.frame_type ≡ k.KvList) (allowed : kv_allowed h ≡ true) where
    kv_held : KvHeld f start c (length f)
    kv_held = kv_run l.rooms start f c (length f) (read_as k.KvList kv)

    fresh : (i : ℕ) → i < total → some (same_key f (pair_at pairs i)) (records (pair_at pairs) 0 i) ≡ false
    fresh i b =
        let here : 0 + i ≡ i = omega arith in
        let once : Once f (records (pair_at pairs) 0 0) (records (pair_at pairs) 0 total) = rw (records_none (pair_at pairs) 0, l.in_pairs.hold) kv_held.once in
        rw here at (once_at f (pair_at pairs) total 0 once i b)

    kv_says : (i : ℕ) → i < total → Says (kv_checks f pairs i) (well_pair f (pair_at pairs i))
    kv_says i b =
        let own = pair_says (run_whole start c.pairs (length f) kv_held.run) i b in
        record {
          passes = λ t. kv_new f pairs i ((says_number _ _ tt own).passes t) (fresh i b);
          refuses = λ t. kv_own f pairs i 15 (sym (own ∙ rw t)) fifteen;
        }

    -- Law: the writer writes the frame again, by its pairs.
    pub kv_rewrites : Rewrites limit f h (kv_answer h limit f pairs total) total (λ i. well_pair f (pair_at pairs i)) (λ i. plain_pair f (pair_at pairs i))
    kv_rewrites =
        rw (kv_list h limit f pairs total)
        (list_rewrites limit f h start l.whole.form l.whole.fits (pair_bytes f) (well_pair f) (plain_pair f) (pair_at pairs) total c.pairs l.in_pairs.hold
        (run_form f l.small start c.pairs (length f) kv_held.run) (λ is. (run_only f l.small start c.pairs (length f) kv_held.run [] is).0)
        (kv_allowed h) allowed pair_width pairs l.in_pairs.room (kv_checks f pairs) kv_says)

  -- ---- actions

  module _ (ack : m.frame_type ≡ 103) where
    acts : InRow (λ n. action_from n f) start c.actions (length f)
    acts = (actions_run l.rooms start f c (length f) (read_as k.Actions (ap payload_of ack))).run

    action_says : (i : ℕ) → i < counts.actions → Says (action_order f actions i) (well_action f (action_at actions i))
    action_says i b =
        says_number _ _ tt
        (held_each (RefusesText f) (action_at actions) counts.actions c.actions l.in_actions_lem.hold (actions_refuse f l.small start c.actions (length f) acts) i b)

    -- Law: the same, by its actions.
    pub ack_rewrites : Rewrites limit f h (actions_answer h limit f actions counts.actions) counts.actions (λ i. well_action f (action_at actions i)) (λ i. plain_action f (action_at actions i))
    ack_rewrites =
        rw (actions_list h limit f actions counts.actions)
        (list_rewrites limit f h start l.whole.form l.whole.fits (action_bytes f) (well_action f) (plain_action f) (action_at actions) counts.actions c.actions l.in_actions_lem.hold
        (actions_form f l.small start c.actions (length f) acts) (actions_only f l.small start c.actions (length f) acts [])
        (fin_alone h) refl action_width actions l.in_actions_lem.room (action_order f actions) action_says)

  -- ---- messages

  module _ (notify : m.frame_type ≡ 3) where
    held : MessagesHeld f start c (length f)
    held = messages_run l.rooms start f c (length f) (read_as k.Messages (ap payload_of notify))

    abbrev gs : List (Message × List Pair)
    gs = held.groups

    -- the tables hold the groups' messages and pairs
    many_rows : length gs ≡ rows
    many_rows = sym (length-map gs (λ g. g.0)) ∙ ap length (sym (l.in_messages_lem.hold ∙ held.messages)) ∙ records_length (message_at messages) rows 0

    many_pairs_lem : length c.pairs ≡ total
    many_pairs_lem = ap length (sym l.in_pairs.hold) ∙ records_length (pair_at pairs) total 0

    pairs_held : records (pair_at pairs) 0 (length (pairs_of gs)) ≡ pairs_of gs
    pairs_held = ap (records (pair_at pairs) 0) (ap length (sym held.pairs) ∙ many_pairs_lem) ∙ l.in_pairs.hold ∙ held.pairs

    runs : (i : ℕ) → i < rows → Runs f messages rows total i
    runs i b =
        let here : 0 + i ≡ i = omega arith in
        let count : rows ≡ 0 + length gs = omega (arith, many_rows) in
        rw here at
        (runs_stand f messages l.small rows total 0 (start, 0) gs (length f, length c.pairs) held.run
        (ap (records (message_at messages) 0) many_rows ∙ l.in_messages_lem.hold ∙ held.messages) refl count (sym many_pairs_lem) i (omega (arith, many_rows)))

    no_pair_lem : not (eqb rows 0) || eqb total 0 ≡ true
    no_pair_lem =
        bool_cases (eqb rows 0)
        (λ t. rw (t, eq-eqb total 0 (sym many_pairs_lem ∙ ap length held.pairs ∙ no_stray gs (many_rows ∙ eqb-true rows 0 t))))
        (λ t. rw t)

    name_says : (i : ℕ) → i < rows → Says (message_order f total messages rows i) (well_name f (message_at messages i))
    name_says i b =
        let a = message_at messages i in
        let r = runs i b in
        let there = le-leb (a.start + a.len) (length f) r.inside in
        says_number _ _ tt
        (message_name f total (run_start messages i) (eqb (i + 1) rows) a (eq-eqb a.first (run_start messages i) r.starts)
        (λ t. eq-eqb total (a.first + a.count) (r.ends (eqb-true (i + 1) rows t)))
        r.few
        ∙ bool_cases (well_name f a) (λ t. string_well f _ _ there t ∙ rw t) (λ t. string_ill f _ _ there t ∙ rw t))

    -- Law: where a name is not UTF-8, and all before it are, the writer refuses with 15 and the message's index.
    pub notify_refuses_name : (i : ℕ) → i < rows → well_name f (message_at messages i) ≡ false → WellNames f messages i
        → notify_answer h limit f messages rows pairs total ≡ refused 15 i
    notify_refuses_name i b ill ws =
        notify_held h limit f messages rows pairs total refl l.in_messages_lem.room l.in_pairs.room no_pair_lem
        ∙ first_ill (message_order f total messages rows) rows (λ i. well_name f (message_at messages i)) name_says _ i b ill ws

    -- Law: where all names are UTF-8, it writes the frame again, by its pairs.
    module _ (names : WellNames f messages rows) where
      no_name : Sound (message_order f total messages rows) rows
      no_name = none_ill (message_order f total messages rows) rows (λ i. well_name f (message_at messages i)) name_says names

      arguments_whole : Each (Whole (length f)) c.pairs
      arguments_whole =
          rw held.pairs
          (groups_all (Whole (length f)) gs
          (row_each (λ g. Each (Whole (length f)) g.1) (λ p g q y. run_whole y.place g.1 q.0 y.run) (start, 0) gs (length f, length c.pairs) held.run))

      pairs_say : (i : ℕ) → i < total → Says (pair_order f pairs i) (well_pair f (pair_at pairs i))
      pairs_say i b = says_number _ _ tt (pair_says arguments_whole i b)

      all : messages_bytes f messages rows pairs ≡ joined (group_bytes f) gs
      all =
          ap (joined (message_bytes f pairs)) (l.in_messages_lem.hold ∙ held.messages)
          ∙ groups_bytes f l.small pairs (start, 0) gs (length f, length c.pairs) held.run pairs_held

      pub notify_rewrites : Rewrites limit f h (notify_answer h limit f messages rows pairs total) total (λ i. well_pair f (pair_at pairs i)) (λ i. plain_pair f (pair_at pairs i))
      notify_rewrites =
          record {
            payload = messages_bytes f messages rows pairs;
            fits = l.whole.fits;
            taken = λ ws.
                notify_passed h limit f messages rows pairs total refl l.in_messages_lem.room l.in_pairs.room no_pair_lem no_name
                (none_ill (pair_order f pairs) total (λ i. well_pair f (pair_at pairs i)) pairs_say ws);
            ill = λ i b ill ws.
                notify_named h limit f messages rows pairs total refl l.in_messages_lem.room l.in_pairs.room no_pair_lem no_name
                ∙ first_ill (pair_order f pairs) total (λ i. well_pair f (pair_at pairs i)) pairs_say _ i b ill ws;
            same = λ ps.
                rw all
                (frame_same f h start l.whole.form (joined (group_bytes f) gs)
                (groups_form f l.small (start, 0) gs (length f, length c.pairs) held.run
                (groups_parts (Plain f) gs (rw held.pairs at (each_held (Plain f) (pair_at pairs) total c.pairs l.in_pairs.hold ps)))));
            only = λ is.
                held_each (Plain f) (pair_at pairs) total c.pairs l.in_pairs.hold
                (rw held.pairs
                (groups_all (Plain f) gs
                (groups_only f l.small (start, 0) gs (length f, length c.pairs) held.run [] (rw all at (frame_only f h start l.whole.form _ is)))));
          }

-- ---- which frames are KV lists, and what of their head may be written

module _ {limit : ℕ} {f : List ℕ} {m : Head} {counts : Counts} {messages pairs actions : List ℕ} where
  pub haproxy_kv : Left side.HAProxy limit f m counts messages pairs actions → (m.frame_type ≡ 3 → ⊥) → (payload_of m.frame_type ≡ k.KvList) × (kv_allowed (head_again m) ≡ true)
  haproxy_kv l kv =
      let own = three_says 1 m.frame_type l.whole.own in (
        rw (ne_eqb m.frame_type 3 kv, ne_eqb m.frame_type 103 (λ e. omega (arith, e, own.1))),
        bool_cases (eqb m.frame_type 1) (λ t. kv_haproxy_hello (head_again m) (eqb-true m.frame_type 1 t))
            (λ t. kv_haproxy_disconnect (head_again m) (second (eqb-false m.frame_type 1 t) own)),
      )
    where
      second : (m.frame_type ≡ 1 → ⊥) → (1 ≤ m.frame_type) × (m.frame_type ≤ 3) → m.frame_type ≡ 2
      second a own = omega (arith, own)

  pub agent_kv : Left side.Agents limit f m counts messages pairs actions → (m.frame_type ≡ 103 → ⊥)
      → (payload_of m.frame_type ≡ k.KvList) × (kv_allowed (head_again m) ≡ eqb m.stream 0 && eqb m.frame 0)
  agent_kv l kv =
      let own = three_says 101 m.frame_type l.whole.own in (
        rw (ne_eqb m.frame_type 3 (λ e. omega (arith, e, own.0)), ne_eqb m.frame_type 103 kv),
        bool_cases (eqb m.frame_type 101) (λ t. kv_agent_hello (head_again m) (eqb-true m.frame_type 101 t))
            (λ t. kv_agent_disconnect (head_again m) (second (eqb-false m.frame_type 101 t) own)),
      )
    where
      second : (m.frame_type ≡ 101 → ⊥) → (101 ≤ m.frame_type) × (m.frame_type ≤ 103) → m.frame_type ≡ 102
      second a own = omega (arith, own)
