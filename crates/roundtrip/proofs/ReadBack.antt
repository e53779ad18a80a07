-- What is written is read back, whichever side sends it: KV lists, messages, argument by argument, and actions. What was written stands in a row (Standing), and what
-- stands in a row to the end is what is read.
use mathlib.Core.Path.{◌≡◌, refl, sym, ap, ap₂, subst, ◌∙◌}
use mathlib.Core.Bool.{true, cond, not, ◌||◌}
use mathlib.Core.Logic.{⊎_elim}
use mathlib.Core.List.{List, [], ◌∷◌, ◌++◌, map, map-map, map-append, append-nil}
use Prim.Native.Nat.{ℕ, zero, suc, ◌+◌, ◌^◌, ◌≤◌, ◌<◌}
use native.Mathlib.Omega.{arith}
use lib.Dec.{eqb}
use lib.ListN.{length, drop, get_or, length-drop, length-map, get_or-map}
use borrow.Author.Tests.{ne_eqb, eqb-true, eqb-false}
use Rattle.answer.specs.Answer.{Answer, done}
use Rattle.answer.specs.Table.{records}
use Rattle.answer.specs.Inner as inner
use Rattle.answer.proofs.Cases.{lt_or_le, bool_cases, true_false, both_true}
use Rattle.answer.proofs.Records.{records_none, records_length, record_at}
use Rattle.frame.specs.declared.Head.{Head}
use Rattle.frame.specs.declared.Pair.{Pair}
use Rattle.frame.specs.declared.Message.{Message}
use Rattle.frame.specs.declared.Action.{Action}
use Rattle.frame.specs.declared.Side.{Side}
use Rattle.frame.specs.declared.Side.TheVariants as side
use Rattle.frame.specs.Records.{key_of, pair_at, message_at, action_at}
use Rattle.frame.specs.Read.{answered, sender}
use Rattle.frame.proofs.Meaning.{pair_meaning, message_meaning, action_meaning}
use Rattle.frame.proofs.Heads.{three_so}
use Rattle.frame.proofs.Back.{Sendable, sendable}
use Rattle.payload.specs.declared.Counts.{Counts}
use Rattle.payload.specs.declared.Payload.{Payload}
use Rattle.payload.specs.declared.Payload.TheVariants as k
use Rattle.payload.specs.Pair.{pair_from}
use Rattle.payload.specs.Action.{action_from}
use Rattle.payload.specs.Payload.{Contents, payload}
use Rattle.answer.proofs.Row.{Row, found_row}
use Rattle.payload.proofs.Accepted.{Group, messages_of, pairs_of}
use Rattle.payload.proofs.Holding.{kv_so, actions_so, messages_so}
use Rattle.parser.specs.Frame.{payload_of, frame_read}
use Rattle.parser.proofs.Frames.{in_frame_lem}
use Rattle.parser.proofs.Back.{back, read_back}
use Rattle.writer.specs.Pair.{kv_checks}
use Rattle.writer.specs.Inner.{Formed, pair_order, action_order, message_order}
use Rattle.writer.specs.Frame.{fin_alone, kv_allowed, pairs_bytes, kv_answer, actions_bytes, actions_answer, messages_bytes, notify_answer}
use Rattle.writer.proofs.Pairs.{formed_passed, kv_passed, kv_fresh}
use Rattle.writer.proofs.Messages.{runs_start, runs_inside, arguments_of, gathered, arguments_all}
use Rattle.writer.proofs.Answers.{kv_other, kv_agent_hello, kv_agent_disconnect}
use Rattle.writer.proofs.Laws.{Wrote, kv_accepted, kv_wrote, actions_accepted, actions_wrote, notify_accepted, notify_passed_records, notify_wrote}
use Rattle.roundtrip.proofs.Keys.{once_so}
use Rattle.roundtrip.proofs.Standing.{both_same, as_many, pairs_back, actions_back, messages_back}

-- These bytes are accepted as a frame of n bytes with this head that a side sends, and its messages, pairs and actions mean what those of a buffer mean, in the same order.
pub record ReadBack (x : Side) (h : Head) (n : ℕ) (buffer : List ℕ) (messages : List Message) (pairs : List Pair) (actions : List Action) (limit : ℕ) (rooms : Counts) (input : List ℕ) : Type 0 where
  pub contents : Contents
  pub accepted : frame_read x limit rooms input ≡ answered (done (h, contents) n)
  pub messages_same : map (message_meaning input) contents.messages ≡ map (message_meaning buffer) messages
  pub pairs_same : map (pair_meaning input) contents.pairs ≡ map (pair_meaning buffer) pairs
  pub actions_same : map (action_meaning input) contents.actions ≡ map (action_meaning buffer) actions

-- the arguments of groups that mean the same as those of some messages, one after the other
arguments_same : (input buffer pairs : List ℕ) (gs : List (Message × List Pair)) (ms : List Message)
    → map (λ (g : Message × List Pair). map (pair_meaning input) g.1) gs ≡ map (λ (m : Message). map (pair_meaning buffer) (arguments_of pairs m)) ms
    → map (pair_meaning input) (pairs_of gs) ≡ map (pair_meaning buffer) (gathered (arguments_of pairs) ms)
unfolding gathered
arguments_same input buffer pairs [] [] e = refl
arguments_same input buffer pairs [] (m ∷ ms) e = absurd (omega (arith, ap length e))
arguments_same input buffer pairs (g ∷ gs) [] e = absurd (omega (arith, ap length e))
arguments_same input buffer pairs (g ∷ gs) (m ∷ ms) e =
    let here : map (pair_meaning input) g.1 ≡ map (pair_meaning buffer) (arguments_of pairs m) = cc in
    let rest = arguments_same input buffer pairs gs ms (cc) in
    map-append (pair_meaning input) g.1 (pairs_of gs)
    ∙ ap₂ ◌++◌ here rest
    ∙ sym (map-append (pair_meaning buffer) (arguments_of pairs m) (gathered (arguments_of pairs) ms))

-- ---- a frame that was written

-- A frame of n bytes with this head and this payload, which is read under a limit with t behind it: where its payload stands, and that the frame is read where the
-- payload is.
pub record Placed (x : Side) (h : Head) (p bytes : List ℕ) (n limit : ℕ) (rooms : Counts) (t : List ℕ) : Type 0 where
  pub start : ℕ
  pub stands : drop start bytes ≡ p ++ []
  pub long : start + length (p ++ []) ≡ length bytes
  pub short : length bytes < 2 ^ 64
  pub reads : (kind : Payload) (c : Contents) → payload_of h.frame_type ≡ kind → payload kind rooms start bytes ≡ done c (length bytes)
      → frame_read x limit rooms (bytes ++ t) ≡ answered (done (h, c) n)

-- Law: a frame that was written is so, with any bytes behind it and under a limit no lower.
pub placed : (x : Side) (h : Head) (limit : ℕ) (p bytes : List ℕ) (n : ℕ) → Wrote h limit p bytes n → limit < 2 ^ 32 → Sendable (sender x) h
    → (higher : ℕ) → limit ≤ higher → (rooms : Counts) (t : List ℕ) → Placed x h p bytes n higher rooms t
placed x h limit p bytes n w small ok higher up rooms t =
    let f = w.parts small in
    let b = back x h limit p bytes f ok higher up t in
    record {
      start = b.start;
      stands = b.there ∙ sym (append-nil p);
      long = ap (λ (l : List ℕ). b.start + length l) (append-nil p) ∙ b.long;
      short = omega (arith, f.fits, length-drop 4 bytes);
      reads = λ kind c is e.
          read_back x h limit p bytes f ok higher up t rooms
          ∙ ap (λ (a : Answer Contents). answered (in_frame_lem h a)) (ap (λ (y : Payload). payload y rooms b.start bytes) is ∙ e)
          ∙ ap (λ (m : ℕ). answered (done (h, c) m)) (sym w.count);
    }

module _ (x : Side) (h : Head) (bytes : List ℕ) (n limit : ℕ) (rooms : Counts) (t buffer : List ℕ) where
  -- pairs with keys that are met once
  pub kv_reads : (pairs : List ℕ) (count : ℕ) → Placed x h (pairs_bytes buffer pairs count) bytes n limit rooms t → payload_of h.frame_type ≡ k.KvList → inner.Sound (kv_checks buffer pairs) count → count ≤ rooms.pairs
      → ReadBack x h n buffer [] (records (pair_at pairs) 0 count) [] limit rooms (bytes ++ t)
  kv_reads pairs count z kv passed room =
      let formed : (i : ℕ) → i < count → Formed buffer (pair_at pairs i) = λ i l. formed_passed buffer (pair_at pairs i) (kv_passed buffer pairs i (passed.each i l)) in
      let m = pairs_back bytes t buffer z.short pairs count formed count 0 z.start [] (omega arith) z.stands z.long in
      let ps = m.these in
      let end : m.to ≡ length bytes = omega (arith, m.inside) in
      let same = both_same (key_of bytes) (pair_meaning (bytes ++ t)) (key_of buffer) (pair_meaning buffer) ps (records (pair_at pairs) 0 count) m.same in
      let many = as_many (key_of bytes) (key_of buffer) (pair_at pairs) 0 count ps same.0 in
      let once = once_so bytes buffer (pair_at pairs) count 0 [] ps (ap (map (key_of buffer)) (sym (records_none (pair_at pairs) 0))) same.0 (λ i l. kv_fresh buffer pairs i (passed.each i (omega arith))) in
      record {
        contents = record { messages = []; pairs = ps; actions = [] };
        accepted = z.reads k.KvList _ kv (kv_so rooms bytes z.start ps (rw end at (found_row (λ i. pair_from i bytes) z.start ps m.to m.row)) once (omega (arith, many)));
        messages_same = refl;
        pairs_same = same.1;
        actions_same = refl;
      }

  -- actions
  pub actions_read : (rows : List ℕ) (count : ℕ) → Placed x h (actions_bytes buffer rows count) bytes n limit rooms t → payload_of h.frame_type ≡ k.Actions → inner.Sound (action_order buffer rows) count → count ≤ rooms.actions
      → ReadBack x h n buffer [] [] (records (action_at rows) 0 count) limit rooms (bytes ++ t)
  actions_read rows count z ack passed room =
      let m = actions_back bytes t buffer z.short rows count passed z.start z.stands z.long in
      let xs = m.these in
      let end : m.to ≡ length bytes = omega (arith, m.inside) in
      let many = as_many (action_meaning (bytes ++ t)) (action_meaning buffer) (action_at rows) 0 count xs m.same in
      record {
        contents = record { messages = []; pairs = []; actions = xs };
        accepted = z.reads k.Actions _ ack (actions_so rooms bytes z.start xs (rw end at (found_row (λ i. action_from i bytes) z.start xs m.to m.row)) (omega (arith, many)));
        messages_same = refl;
        pairs_same = refl;
        actions_same = m.same;
      }

  -- messages, whose runs stand one behind the other among the pairs
  pub messages_read : (messages : List ℕ) (count : ℕ) (pairs : List ℕ) (total : ℕ) → Placed x h (messages_bytes buffer messages count pairs) bytes n limit rooms t → payload_of h.frame_type ≡ k.Messages
      → inner.Sound (message_order buffer total messages count) count → inner.Sound (pair_order buffer pairs) total → not (eqb count 0) || eqb total 0 ≡ true
      → count ≤ rooms.messages → total ≤ rooms.pairs → ReadBack x h n buffer (records (message_at messages) 0 count) (records (pair_at pairs) 0 total) [] limit rooms (bytes ++ t)
  messages_read messages count pairs total z notify ms ps stray rows room =
      let formed : (i : ℕ) → i < total → Formed buffer (pair_at pairs i) = λ i l. formed_passed buffer (pair_at pairs i) (ps.each i l) in
      let m =
      messages_back bytes t buffer z.short messages pairs count total formed (runs_start buffer total messages count ms) (runs_inside buffer total messages count ms) z.start
      z.stands z.long in
      let gs = m.these in
      let end : m.to.0 ≡ length bytes = omega (arith, m.inside) in
      let same =
      both_same (λ (g : Message × List Pair). message_meaning (bytes ++ t) g.0) (λ (g : Message × List Pair). map (pair_meaning (bytes ++ t)) g.1) (message_meaning buffer)
      (λ (y : Message). map (pair_meaning buffer) (arguments_of pairs y)) gs (records (message_at messages) 0 count) m.same in
      let arguments : map (pair_meaning (bytes ++ t)) (pairs_of gs) ≡ map (pair_meaning buffer) (records (pair_at pairs) 0 total) =
      arguments_same (bytes ++ t) buffer pairs gs (records (message_at messages) 0 count) same.1 ∙ ap (map (pair_meaning buffer)) (arguments_all buffer total messages count ms pairs stray) in
      let few = as_many (λ (g : Message × List Pair). message_meaning (bytes ++ t) g.0) (message_meaning buffer) (message_at messages) 0 count gs same.0 in
      let many = as_many (pair_meaning (bytes ++ t)) (pair_meaning buffer) (pair_at pairs) 0 total (pairs_of gs) arguments in
      let row : Row (Group bytes) (z.start, 0) gs (length bytes, m.to.1) = subst (λ (i : ℕ). Row (Group bytes) (z.start, 0) gs (i, m.to.1)) end m.row in
      record {
        contents = record { messages = messages_of gs; pairs = pairs_of gs; actions = [] };
        accepted = z.reads k.Messages _ notify (messages_so rooms bytes z.start gs m.to.1 row (omega (arith, few)) (omega (arith, many)));
        messages_same = map-map (message_meaning (bytes ++ t)) (λ (g : Message × List Pair). g.0) gs ∙ same.0;
        pairs_same = arguments;
        actions_same = refl;
      }

-- ---- by index

-- message i of what was read, and argument j of message i
abbrev pub no_message : Message
no_message = record { start = 0; len = 0; first = 0; count = 0 }

abbrev pub no_pair : Pair
no_pair = record { start = 0; len = 0; value = record { kind = 0; a = 0; b = 0; flags = 0 } }

abbrev pub message_of : Contents → ℕ → Message
message_of c i = get_or c.messages i no_message

abbrev pub argument_of : Contents → ℕ → ℕ → Pair
argument_of c i j = get_or c.pairs ((message_of c i).first + j) no_pair

-- what stands in a list does not go by what is taken where nothing stands
there : {A : Type 0} (l : List A) (i : ℕ) (d e : A) → i < length l → get_or l i d ≡ get_or l i e
there [] i d e h = absurd (omega arith)
there (x ∷ l) zero d e h = refl
there (x ∷ l) (suc i) d e h = there l i d e (omega arith)

-- where some things mean what so many records mean, thing i means what record i means
record_same : {A C : Type 0} (f g : A → C) (at : ℕ → A) (d : A) (n : ℕ) (xs : List A) → map f xs ≡ map g (records at 0 n) → (i : ℕ) → i < n → f (get_or xs i d) ≡ g (at i)
record_same f g at d n xs e i h =
    let here : 0 + i ≡ i = omega arith in
    sym (get_or-map f xs i d)
    ∙ ap (λ (l : List _). get_or l i (f d)) e
    ∙ there (map g (records at 0 n)) i (f d) (g d) (omega (arith, length-map (records at 0 n) g, records_length at n 0))
    ∙ get_or-map g (records at 0 n) i d
    ∙ ap g (record_at at n 0 i d h ∙ ap at here)

-- ---- what the writers write

-- the types of KV frames below 101 are 1 and 2
kv_types : (h : Head) → kv_allowed h ≡ true → h.frame_type < 101 → (1 ≤ h.frame_type) × (h.frame_type ≤ 2)
kv_types h e l =
    bool_cases (eqb h.frame_type 1) (λ t. let k = eqb-true h.frame_type 1 t in omega arith)
    (λ a. bool_cases (eqb h.frame_type 2) (λ t. let k = eqb-true h.frame_type 2 t in omega arith)
    (λ b. true_false e (kv_other h (eqb-false h.frame_type 1 a) (eqb-false h.frame_type 2 b) (λ z. omega arith) (λ z. omega arith))))

-- What is written under an agent's head: actions under that of an ACK, and pairs else.
abbrev pub agent_answer : Head → ℕ → List ℕ → List ℕ → ℕ → List ℕ → ℕ → Answer (List ℕ)
agent_answer h limit buffer pairs i rows j = cond (eqb h.frame_type 103) (actions_answer h limit buffer rows j) (kv_answer h limit buffer pairs i)

abbrev pub pairs_sent : Head → List ℕ → ℕ → List Pair
pairs_sent h pairs i = cond (eqb h.frame_type 103) [] (records (pair_at pairs) 0 i)

abbrev pub actions_sent : Head → List ℕ → ℕ → List Action
actions_sent h rows j = cond (eqb h.frame_type 103) (records (action_at rows) 0 j) []

-- A frame of n bytes that was written. Its ids are numbers of 64 bits and its limit is one of 32, as the calls' parameters are. It is read under a limit
-- no lower, and with any bytes t behind it.
module _ (h : Head) (limit : ℕ) (buffer bytes : List ℕ) (n : ℕ) (stream : h.stream < 2 ^ 64) (frame : h.frame < 2 ^ 64) (small : limit < 2 ^ 32)
    (higher : ℕ) (up : limit ≤ higher) (rooms : Counts) (t : List ℕ) where
  by_haproxy : fin_alone h ≡ true → 1 ≤ h.frame_type → h.frame_type ≤ 3 → Sendable (sender side.HAProxy) h
  by_haproxy fin least most = sendable side.HAProxy h (three_so 1 h.frame_type least most) (eqb-true h.flags 1 fin) stream frame

  by_agent : fin_alone h ≡ true → 101 ≤ h.frame_type → h.frame_type ≤ 103 → Sendable (sender side.Agents) h
  by_agent fin least most = sendable side.Agents h (three_so 101 h.frame_type least most) (eqb-true h.flags 1 fin) stream frame

  module _ (pairs : List ℕ) (count : ℕ) (is : kv_answer h limit buffer pairs count ≡ done bytes n) (room : count ≤ rooms.pairs) where
    -- as a KV list, by any side
    kv_by : (x : Side) → Sendable (sender x) h → (h.frame_type ≡ 3 → ⊥) → (h.frame_type ≡ 103 → ⊥) → ReadBack x h n buffer [] (records (pair_at pairs) 0 count) [] higher rooms (bytes ++ t)
    kv_by x ok three ack =
        kv_reads x h bytes n higher rooms t buffer pairs count
        (placed x h limit (pairs_bytes buffer pairs count) bytes n (kv_wrote h limit buffer pairs count bytes n is) small ok higher up rooms t)
        (rw (ne_eqb h.frame_type 3 three, ne_eqb h.frame_type 103 ack)) (kv_accepted h limit buffer pairs count bytes n is).2 room

    -- Law: each KV frame of type 1 or 2 with FIN alone that `write_kv` writes reads back, with room for its pairs.
    pub kv_read_back : h.frame_type < 101 → fin_alone h ≡ true → ReadBack side.HAProxy h n buffer [] (records (pair_at pairs) 0 count) [] higher rooms (bytes ++ t)
    kv_read_back below fin =
        let types = kv_types h (kv_accepted h limit buffer pairs count bytes n is).0 below in
        kv_by side.HAProxy (by_haproxy fin types.0 (omega (arith, types.1))) (λ z. omega (arith, types.1)) (λ z. omega (arith, types.1))

    -- AGENT-HELLO and AGENT-DISCONNECT have FIN alone
    agent_fin : 101 ≤ h.frame_type → h.frame_type < 103 → fin_alone h ≡ true
    agent_fin agent kv =
        let allowed = (kv_accepted h limit buffer pairs count bytes n is).0 in
        ⊎_elim
        (λ l. (both_true (fin_alone h) _ (sym (kv_agent_hello h (omega arith)) ∙ allowed)).0)
        (λ l. (both_true (fin_alone h) _ (sym (kv_agent_disconnect h (omega arith)) ∙ allowed)).0)
        (lt_or_le h.frame_type 102)

    agent_kv_back : 101 ≤ h.frame_type → h.frame_type < 103 → ReadBack side.Agents h n buffer [] (records (pair_at pairs) 0 count) [] higher rooms (bytes ++ t)
    agent_kv_back agent kv = kv_by side.Agents (by_agent (agent_fin agent kv) agent (omega arith)) (λ z. omega arith) (λ z. omega arith)

  -- an ACK
  ack_back : (rows : List ℕ) (j : ℕ) → actions_answer h limit buffer rows j ≡ done bytes n → h.frame_type ≡ 103 → j ≤ rooms.actions
      → ReadBack side.Agents h n buffer [] [] (records (action_at rows) 0 j) higher rooms (bytes ++ t)
  ack_back rows j is ack room =
      let o = actions_accepted h limit buffer rows j bytes n is in
      actions_read side.Agents h bytes n higher rooms t buffer rows j
      (placed side.Agents h limit (actions_bytes buffer rows j) bytes n (actions_wrote h limit buffer rows j bytes n is) small (by_agent o.0 (omega (arith, ack)) (omega (arith, ack))) higher up rooms t)
      (ap payload_of ack) o.2 room

  -- Law: each frame that `write_kv` writes with type 101 or 102, and each that `write_actions` writes, reads back, with room for its records.
  pub agent_read_back : 101 ≤ h.frame_type → (pairs : List ℕ) (i : ℕ) (rows : List ℕ) (j : ℕ) → h.frame_type ≤ 103 → agent_answer h limit buffer pairs i rows j ≡ done bytes n
      → i ≤ rooms.pairs → j ≤ rooms.actions → ReadBack side.Agents h n buffer [] (pairs_sent h pairs i) (actions_sent h rows j) higher rooms (bytes ++ t)
  agent_read_back agent pairs i rows j most is few fewer =
      bool_cases (eqb h.frame_type 103)
      (λ a. rw a (ack_back rows j (rw a at is) (eqb-true h.frame_type 103 a) fewer))
      (λ a. rw a (agent_kv_back pairs i (rw a at is) few agent (below (eqb-false h.frame_type 103 a))))
    where
      below : (h.frame_type ≡ 103 → ⊥) → h.frame_type < 103
      below ne = ⊎_elim (λ l. l) (λ l. absurd (ne (omega arith))) (lt_or_le h.frame_type 103)

  -- ---- NOTIFY frames

  module _ (messages : List ℕ) (count : ℕ) (pairs : List ℕ) (total : ℕ) (is : notify_answer h limit buffer messages count pairs total ≡ done bytes n)
      (notify : h.frame_type ≡ 3) (rows : count ≤ rooms.messages) (room : total ≤ rooms.pairs) where
    messages_passed : inner.Sound (message_order buffer total messages count) count
    messages_passed = (notify_passed_records h limit buffer messages count pairs total bytes n is).0

    -- Law: so does each NOTIFY frame that `write_notify` writes, with room for its messages and its pairs.
    pub notify_read_back : ReadBack side.HAProxy h n buffer (records (message_at messages) 0 count) (records (pair_at pairs) 0 total) [] higher rooms (bytes ++ t)
    notify_read_back =
        let o = notify_accepted h limit buffer messages count pairs total bytes n is in
        messages_read side.HAProxy h bytes n higher rooms t buffer messages count pairs total
        (placed side.HAProxy h limit (messages_bytes buffer messages count pairs) bytes n (notify_wrote h limit buffer messages count pairs total bytes n is) small
        (by_haproxy o.0 (omega (arith, notify)) (omega (arith, notify))) higher up rooms t)
        (ap payload_of notify) messages_passed
        (notify_passed_records h limit buffer messages count pairs total bytes n is).1 o.3 rows room

    -- Law: argument j of message i of what was written is argument j of message i of what is read, and the message has its name, its first pair and its
    -- count.
    pub notify_arguments_lem : (i j : ℕ) → i < count → j < (message_at messages i).count
        → (message_meaning (bytes ++ t) (message_of notify_read_back.contents i) ≡ message_meaning buffer (message_at messages i))
        × (pair_meaning (bytes ++ t) (argument_of notify_read_back.contents i j) ≡ pair_meaning buffer (pair_at pairs ((message_at messages i).first + j)))
    notify_arguments_lem i j h l =
        let c = notify_read_back.contents in
        let m = message_at messages i in
        let name = record_same (message_meaning (bytes ++ t)) (message_meaning buffer) (message_at messages) no_message count c.messages notify_read_back.messages_same i h in
        let run = runs_inside buffer total messages count messages_passed i h in
        let first : (message_of c i).first + j ≡ m.first + j = ap (λ (x : List ℕ × ℕ × ℕ). x.1 + j) name in (
          name,
          ap (λ (k : ℕ). pair_meaning (bytes ++ t) (get_or c.pairs k no_pair)) first
              ∙ record_same (pair_meaning (bytes ++ t)) (pair_meaning buffer) (pair_at pairs) no_pair total c.pairs notify_read_back.pairs_same (m.first + j) (omega arith),
        )
