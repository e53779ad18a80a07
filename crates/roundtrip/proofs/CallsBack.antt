-- What a writer left in its output, lent to the reader of the side that sends it, is read back: said of the calls, and of those under C names. The writer's answer is
-- one that ReadBack speaks of, and what ReadBack says of contents the reader says in its answer and leaves in its tables.
use mathlib.Core.Path.{◌≡◌, refl, sym, ap, subst, ◌∙◌}
use mathlib.Core.Bool.{true, false}
use mathlib.Core.List.{List, [], ◌++◌, map}
use Prim.Native.Nat.{ℕ, ◌/◌, ◌^◌, ◌≤◌, ◌<◌}
use native.Mathlib.Omega.{arith}
use lib.ListN.{length, take, drop, take-append-drop}
use lib.Seq.{take_at}
use borrow.Author.Tests.{ne_eqb}
use Rattle.std.specs.Prelude.{Result, Ok}
use Rattle.answer.specs.declared.Read.{Read}
use Rattle.frame.specs.declared.Stop.{Stop}
use Rattle.parser.specs.declared.Frame.{Frame}
use Rattle.answer.specs.Answer.{Answer, done}
use Rattle.answer.specs.Table.{records}
use Rattle.answer.specs.Writes.{Writes}
use Rattle.answer.proofs.Output.{given}
use Rattle.answer.proofs.Records.{records_none}
use Rattle.frame.specs.declared.Head.{Head}
use Rattle.frame.specs.declared.Side.{Side}
use Rattle.frame.specs.declared.Side.TheVariants as side
use Rattle.frame.specs.Read.{answered, sender}
use Rattle.frame.specs.Records.{message_width, message_at, message_numbers, pair_width, pair_at, pair_numbers, action_width, action_at, action_numbers}
use Rattle.frame.proofs.Meaning.{pair_meaning, message_meaning, action_meaning}
use Rattle.frame.proofs.Heads.{three_so}
use Rattle.frame.proofs.Back.{Sendable, sendable}
use Rattle.frame.proofs.Rows.{table_messages, table_pairs, table_actions}
use Rattle.payload.specs.declared.Counts.{Counts}
use Rattle.payload.specs.declared.Payload.{Payload}
use Rattle.payload.specs.declared.Payload.TheVariants as k
use Rattle.payload.specs.Promise.{counts_of, rooms_of, Fills}
use Rattle.payload.proofs.Kept.{Within}
use Rattle.parser.specs.Frame.{payload_of, frame_read}
use Rattle.parser.specs.Promise.{frame_tells, contents_read, FrameFills}
use Rattle.parser.proofs.Unique.{frame_done, frame_same}
use Rattle.writer.specs.Frame.{head_of, pairs_bytes, kv_answer, actions_bytes, actions_answer, messages_bytes, notify_answer}
use Rattle.writer.proofs.Laws.{kv_accepted, kv_wrote, actions_accepted, actions_wrote, notify_accepted, notify_passed_records, notify_wrote}
use Rattle.spop.specs.Told.{Left}
use Rattle.spop.specs.Values.{head_numbers}
use Rattle.spop.specs.Promise.{FrameTold}
use Rattle.roundtrip.proofs.Standing.{as_many}
use Rattle.roundtrip.proofs.Again.{in_table}
use Rattle.roundtrip.proofs.ReadBack.{ReadBack, placed, kv_reads, actions_read, messages_read}
use Rattle.roundtrip.proofs.Calls.{kv_call, actions_call, notify_call}

-- ---- the three writers

-- What a writer answers, by what its frames hold: pairs, messages with arguments, or actions, so many of each; and how many records that are.
abbrev pub writer_of : Payload → Head → ℕ → List ℕ → Counts → List ℕ → List ℕ → List ℕ → Answer (List ℕ)
writer_of k.KvList h limit buffer c messages pairs actions = kv_answer h limit buffer pairs c.pairs
writer_of k.Messages h limit buffer c messages pairs actions = notify_answer h limit buffer messages c.messages pairs c.pairs
writer_of k.Actions h limit buffer c messages pairs actions = actions_answer h limit buffer actions c.actions

abbrev pub sent_of : Payload → Counts → Counts
sent_of k.KvList c = record { messages = 0; pairs = c.pairs; actions = 0 }
sent_of k.Messages c = record { messages = c.messages; pairs = c.pairs; actions = 0 }
sent_of k.Actions c = record { messages = 0; pairs = 0; actions = c.actions }

-- So many records in front of three tables, of some bytes, mean what as many of three other tables mean, of a buffer, in the same order.
pub record SameRecords (c : Counts) (buffer messages pairs actions input new_messages new_pairs new_actions : List ℕ) : Type 0 where
  pub messages_same : map (message_meaning input) (records (message_at new_messages) 0 c.messages) ≡ map (message_meaning buffer) (records (message_at messages) 0 c.messages)
  pub pairs_same : map (pair_meaning input) (records (pair_at new_pairs) 0 c.pairs) ≡ map (pair_meaning buffer) (records (pair_at pairs) 0 c.pairs)
  pub actions_same : map (action_meaning input) (records (action_at new_actions) 0 c.actions) ≡ map (action_meaning buffer) (records (action_at actions) 0 c.actions)

-- A head, so many records of three tables, and the buffer that they point into.
module _ (x : Side) (h : Head) (buffer messages pairs actions : List ℕ) where
  -- that a frame of n bytes with these reads back
  abbrev Back : Counts → ℕ → ℕ → Counts → List ℕ → Type 0
  Back c n limit rooms input =
      ReadBack x h n buffer (records (message_at messages) 0 c.messages) (records (pair_at pairs) 0 c.pairs) (records (action_at actions) 0 c.actions) limit rooms input

  -- ---- what was written

  module _ (c : Counts) (limit : ℕ) (ok : Sendable (sender x) h) (small : limit < 2 ^ 32) (higher : ℕ) (up : limit ≤ higher) (rooms : Counts) where
    written_back : (kind : Payload) → payload_of h.frame_type ≡ kind → (bytes : List ℕ) (n : ℕ) → writer_of kind h limit buffer c messages pairs actions ≡ done bytes n
        → Within (sent_of kind c) rooms → (t : List ℕ) → (length bytes ≡ n) × Back (sent_of kind c) n higher rooms (bytes ++ t)
    written_back k.KvList is bytes n e room t =
        let wrote = kv_wrote h limit buffer pairs c.pairs bytes n e in (
          sym wrote.count,
          rw (records_none (message_at messages) 0, records_none (action_at actions) 0)
              (kv_reads x h bytes n higher rooms t buffer pairs c.pairs (placed x h limit (pairs_bytes buffer pairs c.pairs) bytes n wrote small ok higher up rooms t) is
              (kv_accepted h limit buffer pairs c.pairs bytes n e).2 room.pairs),
        )
    written_back k.Messages is bytes n e room t =
        let wrote = notify_wrote h limit buffer messages c.messages pairs c.pairs bytes n e in
        let passed = notify_passed_records h limit buffer messages c.messages pairs c.pairs bytes n e in (
          sym wrote.count,
          rw (records_none (action_at actions) 0)
              (messages_read x h bytes n higher rooms t buffer messages c.messages pairs c.pairs
              (placed x h limit (messages_bytes buffer messages c.messages pairs) bytes n wrote small ok higher up rooms t) is passed.0 passed.1
              (notify_accepted h limit buffer messages c.messages pairs c.pairs bytes n e).3 room.messages room.pairs),
        )
    written_back k.Actions is bytes n e room t =
        let wrote = actions_wrote h limit buffer actions c.actions bytes n e in (
          sym wrote.count,
          rw (records_none (message_at messages) 0, records_none (pair_at pairs) 0)
              (actions_read x h bytes n higher rooms t buffer actions c.actions (placed x h limit (actions_bytes buffer actions c.actions) bytes n wrote small ok higher up rooms t) is
              (actions_accepted h limit buffer actions c.actions bytes n e).2 room.actions),
        )

    -- of every input that starts with what a writer counted
    input_back : (kind : Payload) → payload_of h.frame_type ≡ kind → (n : ℕ) (old new : List ℕ) → Writes (writer_of kind h limit buffer c messages pairs actions) (Ok n) old new
        → Within (sent_of kind c) rooms → (input : List ℕ) → take n input ≡ take n new → Back (sent_of kind c) n higher rooms input
    input_back kind is n old new wrote room input same =
        let g = given (writer_of kind h limit buffer c messages pairs actions) wrote in
        let b = written_back kind is g.bytes n g.is room (drop n input) in
        let front : take n input ≡ g.bytes = same ∙ ap (take n) g.left ∙ take_at g.bytes (drop n old) n b.0 in
        subst (Back (sent_of kind c) n higher rooms) (ap (λ (l : List ℕ). l ++ drop n input) (sym front) ∙ take-append-drop n input) b.1

  -- ---- what is read

  module _ (c : Counts) (n limit : ℕ) (rooms : Counts) (input : List ℕ) (b : Back c n limit rooms input) where
    many : counts_of b.contents ≡ c
    many =
        λ i. record {
          messages = as_many (message_meaning input) (message_meaning buffer) (message_at messages) 0 c.messages b.contents.messages b.messages_same i;
          pairs = as_many (pair_meaning input) (pair_meaning buffer) (pair_at pairs) 0 c.pairs b.contents.pairs b.pairs_same i;
          actions = as_many (action_meaning input) (action_meaning buffer) (action_at actions) 0 c.actions b.contents.actions b.actions_same i;
        }

    module _ (old_messages new_messages old_pairs new_pairs old_actions new_actions : List ℕ) where
      filled : Fills (contents_read (frame_read x limit rooms input)) old_messages new_messages old_pairs new_pairs old_actions new_actions
          → SameRecords c buffer messages pairs actions input new_messages new_pairs new_actions
      filled f =
          let y = b.contents in
          let ms = in_table message_numbers message_at message_width (λ z. refl) table_messages y.messages new_messages _ (rw b.accepted at f.messages) c.messages (ap (λ (z : Counts). z.messages) many) in
          let ps = in_table pair_numbers pair_at pair_width (λ z. refl) table_pairs y.pairs new_pairs _ (rw b.accepted at f.pairs) c.pairs (ap (λ (z : Counts). z.pairs) many) in
          let xs = in_table action_numbers action_at action_width (λ z. refl) table_actions y.actions new_actions _ (rw b.accepted at f.actions) c.actions (ap (λ (z : Counts). z.actions) many) in
          record {
            messages_same = ap (map (message_meaning input)) ms.hold ∙ b.messages_same;
            pairs_same = ap (map (pair_meaning input)) ps.hold ∙ b.pairs_same;
            actions_same = ap (map (action_meaning input)) xs.hold ∙ b.actions_same;
          }

      said : (r : Result (Read Frame) Stop) → FrameFills (frame_read x limit rooms input) r old_messages new_messages old_pairs new_pairs old_actions new_actions → r ≡ frame_done h c n
      said r f = frame_same r (frame_done h c n) (f.says ∙ ap frame_tells b.accepted ∙ ap (λ (z : Counts). answered (done (h, z) n)) many)

      told : (r at : ℕ) (before head : List ℕ) → FrameTold x (frame_read x limit rooms input) r at before head old_messages new_messages old_pairs new_pairs old_actions new_actions
          → (r ≡ 0) × (at ≡ n) × (head ≡ head_numbers x h c)
      told r at before head f =
          let t = rw b.accepted at f.told in
          (t.0.says, t.0.where_at, t.1 ∙ ap (head_numbers x h) many)

-- ---- calls

-- under a C name
by_kind : (kind : Payload) (h : Head) (limit : ℕ) (buffer : List ℕ) (c : Counts) (messages pairs actions : List ℕ) (n : ℕ) (old new : List ℕ)
    → Left (writer_of kind h limit buffer c messages pairs actions) 0 n old new → Writes (writer_of kind h limit buffer c messages pairs actions) (Ok n) old new
by_kind k.KvList h limit buffer c messages pairs actions n old new = kv_call h limit buffer n old new pairs c.pairs
by_kind k.Messages h limit buffer c messages pairs actions n old new = notify_call h limit buffer n old new messages c.messages pairs c.pairs
by_kind k.Actions h limit buffer c messages pairs actions n old new = actions_call h limit buffer n old new actions c.actions

-- A writer with the answer a, which is to write a frame with this head and so many records of three tables, and the side's reader, which was lent an input and three tables under a limit.
-- Where the writer was done with n bytes, the reader is done with them, with the same type, flags and ids and as many records; and those that it left mean the same. Under C names the
-- writer answered 0, and so does the reader, with the head's six numbers. (What the reader of HAProxy's frames promises is `ReadFrame`, with no table for actions, and that of agents'
-- `ReadAgentFrame`, with none for messages.)
pub record CallsBack (x : Side) (h : Head) (a : Answer (List ℕ)) (c : Counts) (buffer messages pairs actions : List ℕ) (n : ℕ) (old new input : List ℕ) (limit : ℕ)
    (old_messages new_messages old_pairs new_pairs old_actions new_actions : List ℕ) : Type 0 where
  pub call : Writes a (Ok n) old new
      → (r : Result (Read Frame) Stop) → FrameFills (frame_read x limit (rooms_of old_messages old_pairs old_actions) input) r old_messages new_messages old_pairs new_pairs old_actions new_actions
      → (r ≡ frame_done h c n) × SameRecords c buffer messages pairs actions input new_messages new_pairs new_actions
  pub c_call : Left a 0 n old new
      → (r at : ℕ) (before head : List ℕ) → FrameTold x (frame_read x limit (rooms_of old_messages old_pairs old_actions) input) r at before head old_messages new_messages old_pairs new_pairs old_actions new_actions
      → ((r ≡ 0) × (at ≡ n) × (head ≡ head_numbers x h c)) × SameRecords c buffer messages pairs actions input new_messages new_pairs new_actions

-- The writer's limit is one of 32 bits. The first n bytes of its output stand in front of the input, which is lent under a limit no lower.
module _ (limit : ℕ) (small : limit < 2 ^ 32) (buffer : List ℕ) (n : ℕ) (old new input : List ℕ) (same : take n input ≡ take n new) (higher : ℕ) (up : limit ≤ higher) where
  -- Law: so it is with each head that a side sends, and with tables that have room for the records.
  pub calls_back : (x : Side) (h : Head) (kind : Payload) → payload_of h.frame_type ≡ kind → Sendable (sender x) h → (c : Counts) (messages pairs actions : List ℕ)
      → (old_messages new_messages old_pairs new_pairs old_actions new_actions : List ℕ) → Within (sent_of kind c) (rooms_of old_messages old_pairs old_actions)
      → CallsBack x h (writer_of kind h limit buffer c messages pairs actions) (sent_of kind c) buffer messages pairs actions n old new input higher old_messages new_messages old_pairs new_pairs old_actions new_actions
  calls_back x h kind is ok c messages pairs actions om nm op np oa na room =
      record {
        call = λ wrote r reads. let b = back wrote in (said x h buffer messages pairs actions (sent_of kind c) n higher (rooms_of om op oa) input b om nm op np oa na r reads, left_same b reads.fills);
        c_call = λ left r at before head reads.
            let b = back (by_kind kind h limit buffer c messages pairs actions n old new left) in
            (told x h buffer messages pairs actions (sent_of kind c) n higher (rooms_of om op oa) input b om nm op np oa na r at before head reads, left_same b reads.fills);
      }
    where
      back : Writes (writer_of kind h limit buffer c messages pairs actions) (Ok n) old new → Back x h buffer messages pairs actions (sent_of kind c) n higher (rooms_of om op oa) input
      back wrote = input_back x h buffer messages pairs actions c limit ok small higher up (rooms_of om op oa) kind is n old new wrote room input same

      left_same : Back x h buffer messages pairs actions (sent_of kind c) n higher (rooms_of om op oa) input → Fills (contents_read (frame_read x higher (rooms_of om op oa) input)) om nm op np oa na
          → SameRecords (sent_of kind c) buffer messages pairs actions input nm np na
      left_same b = filled x h buffer messages pairs actions (sent_of kind c) n higher (rooms_of om op oa) input b om nm op np oa na

  -- By the six types, each with FIN alone and ids of 64 bits.
  module _ (stream frame : ℕ) (one : stream < 2 ^ 64) (two : frame < 2 ^ 64) where
    abbrev headed : ℕ → Head
    headed type = head_of type true false stream frame

    abbrev holding : ℕ → ℕ → ℕ → Counts
    holding i j k = record { messages = i; pairs = j; actions = k }

    haproxys : (type : ℕ) → 1 ≤ type → type ≤ 3 → Sendable (sender side.HAProxy) (headed type)
    haproxys type least most = sendable side.HAProxy (headed type) (three_so 1 type least most) refl one two

    agents : (type : ℕ) → 101 ≤ type → type ≤ 103 → Sendable (sender side.Agents) (headed type)
    agents type least most = sendable side.Agents (headed type) (three_so 101 type least most) refl one two

    list : (type : ℕ) → (type ≡ 3 → ⊥) → (type ≡ 103 → ⊥) → payload_of type ≡ k.KvList
    list type a b = rw (ne_eqb type 3 a, ne_eqb type 103 b)

    -- Law: what `write_kv` wrote with type 1 or 2, and what `write_notify` wrote, is read back by `read_frame`.
    pub kv_calls : (type : ℕ) → 1 ≤ type → type ≤ 2 → (pairs : List ℕ) (count : ℕ) (old_messages new_messages old_pairs new_pairs : List ℕ) → count ≤ length old_pairs / pair_width
        → CallsBack side.HAProxy (headed type) (kv_answer (headed type) limit buffer pairs count) (holding 0 count 0) buffer [] pairs [] n old new input higher old_messages new_messages old_pairs new_pairs [] []
    kv_calls type least most pairs count om nm op np room =
        calls_back side.HAProxy (headed type) k.KvList (list type (λ z. omega arith) (λ z. omega arith)) (haproxys type least (omega arith)) (holding 0 count 0) [] pairs [] om nm op np [] []
        (record { messages = omega arith; pairs = room; actions = omega arith })

    pub notify_calls : (messages : List ℕ) (count : ℕ) (pairs : List ℕ) (total : ℕ) (old_messages new_messages old_pairs new_pairs : List ℕ) → count ≤ length old_messages / message_width
        → total ≤ length old_pairs / pair_width
        → CallsBack side.HAProxy (headed 3) (notify_answer (headed 3) limit buffer messages count pairs total) (holding count total 0) buffer messages pairs [] n old new input higher
        old_messages new_messages old_pairs new_pairs [] []
    notify_calls messages count pairs total om nm op np rows room =
        calls_back side.HAProxy (headed 3) k.Messages refl (haproxys 3 (omega arith) (omega arith)) (holding count total 0) messages pairs [] om nm op np [] []
        (record { messages = rows; pairs = room; actions = omega arith })

    -- Law: what `write_kv` wrote with type 101 or 102, and what `write_actions` wrote, by `read_agent_frame`.
    pub agent_kv_calls : (type : ℕ) → 101 ≤ type → type ≤ 102 → (pairs : List ℕ) (count : ℕ) (old_pairs new_pairs old_actions new_actions : List ℕ) → count ≤ length old_pairs / pair_width
        → CallsBack side.Agents (headed type) (kv_answer (headed type) limit buffer pairs count) (holding 0 count 0) buffer [] pairs [] n old new input higher [] [] old_pairs new_pairs old_actions new_actions
    agent_kv_calls type least most pairs count op np oa na room =
        calls_back side.Agents (headed type) k.KvList (list type (λ z. omega arith) (λ z. omega arith)) (agents type least (omega arith)) (holding 0 count 0) [] pairs [] [] [] op np oa na
        (record { messages = omega arith; pairs = room; actions = omega arith })

    pub actions_calls : (actions : List ℕ) (count : ℕ) (old_pairs new_pairs old_actions new_actions : List ℕ) → count ≤ length old_actions / action_width
        → CallsBack side.Agents (headed 103) (actions_answer (headed 103) limit buffer actions count) (holding 0 0 count) buffer [] [] actions n old new input higher [] [] old_pairs new_pairs old_actions new_actions
    actions_calls actions count op np oa na room =
        calls_back side.Agents (headed 103) k.Actions refl (agents 103 (omega arith) (omega arith)) (holding 0 0 count) [] [] actions [] [] op np oa na
        (record { messages = omega arith; pairs = omega arith; actions = room })
