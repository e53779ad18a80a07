-- Non-malleable: an accepted frame whose values are plain is told by its type, its ids and what its messages, pairs and actions mean. For the bytes that these
-- are written as go by their meaning alone, and are the frame's.
use mathlib.Core.Path.{◌≡◌, refl, sym, ap, ap₂, ◌∙◌}
use mathlib.Core.Bool.{cond}
use mathlib.Core.List.{List, [], ◌∷◌, ◌++◌, map, map-append}
use Prim.Native.Nat.{ℕ}
use lib.Dec.{eqb}
use lib.ListN.{length, take, drop, length-map}
use lib.Seq.{take_at, drop_at}
use Rattle.answer.specs.Answer.{done}
use Rattle.answer.specs.Table.{joined}
use Rattle.answer.proofs.Cases.{bool_cases}
use Rattle.answer.proofs.Each.{Each}
use Rattle.answer.proofs.Records.{joined_none, joined_on}
use Rattle.varint.proofs.Reading.{Bytes}
use Rattle.types.specs.Value.{Shape, nothing, flag, integer, address, text, reserved, shape, Record, value, points}
use Rattle.types.specs.Form.{part, string_bytes, data_bytes, type_of, value_bytes}
use Rattle.types.specs.Promise.{record_of}
use Rattle.types.proofs.Writing.{value_bytes_lem}
use Rattle.types.proofs.Roundtrip.{Meaning, means, meaning}
use Rattle.frame.specs.declared.Head.{Head}
use Rattle.frame.specs.declared.Pair.{Pair}
use Rattle.frame.specs.declared.Message.{Message}
use Rattle.frame.specs.declared.Action.{Action}
use Rattle.frame.specs.declared.Side.{Side}
use Rattle.frame.specs.declared.Side.TheVariants as side
use Rattle.frame.specs.Head.{frame_bytes}
use Rattle.frame.specs.Read.{answered}
use Rattle.frame.proofs.Meaning.{pair_meaning, message_meaning, action_meaning}
use Rattle.payload.specs.declared.Counts.{Counts}
use Rattle.payload.specs.declared.Payload.{Payload}
use Rattle.payload.specs.declared.Payload.TheVariants as k
use Rattle.payload.specs.Payload.{Contents, payload}
use Rattle.answer.proofs.Row.{Row}
use Rattle.payload.proofs.Accepted.{Group, kv_run, messages_run, actions_run, messages_of, pairs_of}
use Rattle.parser.specs.Frame.{payload_of, frame_read}
use Rattle.parser.proofs.Frames.{frame_cut, haproxy_actions, agent_messages}
use Rattle.writer.specs.Pair.{pair_bytes}
use Rattle.writer.specs.Action.{action_bytes}
use Rattle.writer.proofs.Pairs.{pair_bytes_lem}
use Rattle.writer.proofs.Messages.{name_bytes_lem}
use Rattle.roundtrip.proofs.Pair.{Plain, run_form}
use Rattle.roundtrip.proofs.Action.{PlainOf, actions_form}
use Rattle.roundtrip.proofs.Groups.{group_bytes, groups_parts, groups_form}
use Rattle.roundtrip.proofs.Head.{head_again, frame_accepted}
use Rattle.roundtrip.proofs.Rewritten.{frame_same}

-- ---- written forms go by meanings

abbrev value_form : Meaning → List ℕ
value_form (means kind a flags bytes) = data_bytes (shape kind) (type_of kind flags) a bytes

abbrev pair_form : List ℕ × Meaning → List ℕ
pair_form x = string_bytes x.0 ++ value_form x.1

abbrev action_form : ℕ × ℕ × (List ℕ × Meaning) → List ℕ
action_form x = cond (eqb x.0 1) (1 ∷ 3 ∷ x.1 ∷ pair_form x.2) (2 ∷ 2 ∷ x.1 ∷ string_bytes x.2.0)

-- each message, and behind it as many pairs as it has arguments
unfoldable list_form : List (List ℕ × ℕ × ℕ) → List (List ℕ × Meaning) → List ℕ
list_form [] ps = []
list_form (m ∷ ms) ps = ((string_bytes m.0 ++ (m.2 ∷ [])) ++ joined pair_form (take m.2 ps)) ++ list_form ms (drop m.2 ps)

value_meant : (f : List ℕ) (v : Record) → value_bytes f v ≡ value_form (meaning f v)
value_meant f (value kind a b flags) = value_bytes_lem f kind a b flags ∙ by_shape (shape kind)
  where
    by_shape : (sh : Shape) → data_bytes sh (type_of kind flags) a (part f a b) ≡ data_bytes sh (type_of kind flags) (cond (points sh) 0 a) (cond (points sh) (part f a b) [])
    by_shape nothing = refl
    by_shape flag = refl
    by_shape (integer w) = refl
    by_shape (address n) = refl
    by_shape text = refl
    by_shape reserved = refl

pair_meant : (f : List ℕ) (p : Pair) → pair_bytes f p ≡ pair_form (pair_meaning f p)
pair_meant f p = pair_bytes_lem f p ∙ ap (λ (l : List ℕ). string_bytes (part f p.start p.len) ++ l) (value_meant f (record_of p.value))

action_meant : (f : List ℕ) (x : Action) → action_bytes f x ≡ action_form (action_meaning f x)
unfolding action_bytes
action_meant f x = bool_cases (eqb x.verb 1) (λ t. rw t (ap (λ (l : List ℕ). 1 ∷ 3 ∷ x.scope ∷ l) (pair_meant f x.pair))) (λ t. rw t refl)

joined_as : {A B : Type 0} (bytes : A → List ℕ) (form : B → List ℕ) (g : A → B) → ((x : A) → bytes x ≡ form (g x)) → (xs : List A) → joined bytes xs ≡ joined form (map g xs)
unfolding joined
joined_as bytes form g same [] = refl
joined_as bytes form g same (x ∷ xs) = ap₂ ◌++◌ (same x) (joined_as bytes form g same xs)

pairs_meant : (f : List ℕ) (ps : List Pair) → joined (pair_bytes f) ps ≡ joined pair_form (map (pair_meaning f) ps)
pairs_meant f = joined_as (pair_bytes f) pair_form (pair_meaning f) (pair_meant f)

-- ---- a payload goes by them

list_none : (ps : List (List ℕ × Meaning)) → list_form [] ps ≡ []
unfolding list_form
list_none ps = refl

list_on : (m : List ℕ × ℕ × ℕ) (ms : List (List ℕ × ℕ × ℕ)) (own rest : List (List ℕ × Meaning)) → length own ≡ m.2
    → list_form (m ∷ ms) (own ++ rest) ≡ ((string_bytes m.0 ++ (m.2 ∷ [])) ++ joined pair_form own) ++ list_form ms rest
unfolding list_form
list_on m ms own rest n =
    ap₂ (λ (x y : List (List ℕ × Meaning)). ((string_bytes m.0 ++ (m.2 ∷ [])) ++ joined pair_form x) ++ list_form ms y) (take_at own rest m.2 n) (drop_at own rest m.2 n)

groups_meant : (f : List ℕ) (p : ℕ × ℕ) (gs : List (Message × List Pair)) (q : ℕ × ℕ) → Row (Group f) p gs q
    → joined (group_bytes f) gs ≡ list_form (map (message_meaning f) (messages_of gs)) (map (pair_meaning f) (pairs_of gs))
groups_meant f p [] q r = joined_none (group_bytes f) ∙ sym (list_none [])
groups_meant f p (g ∷ gs) q r =
    let own = map (pair_meaning f) g.1 in
    let others = map (pair_meaning f) (pairs_of gs) in
    joined_on (group_bytes f) g gs
    ∙ ap₂ ◌++◌ (ap₂ ◌++◌ (name_bytes_lem f g.0) (pairs_meant f g.1)) (groups_meant f r.0 gs q r.2)
    ∙ sym (list_on (message_meaning f g.0) (map (message_meaning f) (messages_of gs)) own others (length-map g.1 (pair_meaning f) ∙ r.1.many))
    ∙ ap (list_form (map (message_meaning f) (messages_of (g ∷ gs)))) (sym (map-append (pair_meaning f) g.1 (pairs_of gs)))

-- the payload of a kind, by what it means
abbrev payload_form : Payload → List (List ℕ × ℕ × ℕ) → List (List ℕ × Meaning) → List (ℕ × ℕ × (List ℕ × Meaning)) → List ℕ
payload_form k.KvList ms ps xs = joined pair_form ps
payload_form k.Messages ms ps xs = list_form ms ps
payload_form k.Actions ms ps xs = joined action_form xs

module _ (f : List ℕ) (small : Bytes f) (rooms : Counts) (start : ℕ) (c : Contents) (plain : Each (Plain f) c.pairs) (acts : Each (PlainOf f) c.actions) where
  payload_meant : (kind : Payload) → payload kind rooms start f ≡ done c (length f)
      → drop start f ≡ payload_form kind (map (message_meaning f) c.messages) (map (pair_meaning f) c.pairs) (map (action_meaning f) c.actions) ++ drop (length f) f
  payload_meant k.KvList e =
      run_form f small start c.pairs (length f) (kv_run rooms start f c (length f) e).run plain
      ∙ ap (λ (l : List ℕ). l ++ drop (length f) f) (pairs_meant f c.pairs)
  payload_meant k.Messages e =
      let h = messages_run rooms start f c (length f) e in
      groups_form f small (start, 0) h.groups (length f, length c.pairs) h.run (groups_parts (Plain f) h.groups (rw h.pairs at plain))
      ∙ ap (λ (l : List ℕ). l ++ drop (length f) f)
      (groups_meant f (start, 0) h.groups (length f, length c.pairs) h.run
      ∙ ap₂ list_form (ap (map (message_meaning f)) (sym h.messages)) (ap (map (pair_meaning f)) (sym h.pairs)))
  payload_meant k.Actions e =
      actions_form f small start c.actions (length f) (actions_run rooms start f c (length f) e).run acts
      ∙ ap (λ (l : List ℕ). l ++ drop (length f) f) (joined_as (action_bytes f) action_form (action_meaning f) (action_meant f) c.actions)

-- ---- a frame goes by them

abbrev frame_form : Head → List (List ℕ × ℕ × ℕ) → List (List ℕ × Meaning) → List (ℕ × ℕ × (List ℕ × Meaning)) → List ℕ
frame_form m ms ps xs = frame_bytes (head_again m) (payload_form (payload_of m.frame_type) ms ps xs)

-- a frame whose values are plain is the bytes that go by its type, its ids and its meanings
frame_meant : (x : Side) (limit : ℕ) (rooms : Counts) (s : List ℕ) (m : Head) (c : Contents) (used : ℕ) → Bytes (take used s)
    → frame_read x limit rooms s ≡ answered (done (m, c) used) → Each (Plain (take used s)) c.pairs → Each (PlainOf (take used s)) c.actions
    → take used s ≡ frame_form m (map (message_meaning (take used s)) c.messages) (map (pair_meaning (take used s)) c.pairs) (map (action_meaning (take used s)) c.actions)
frame_meant x limit rooms s m c used small e plain acts =
    let f = take used s in
    let a = frame_accepted x limit rooms s m c used small e in
    sym (frame_same f _ a.start a.form _ (payload_meant f small rooms a.start c plain acts (payload_of m.frame_type) a.read))

module _ (x : Side) (limit other : ℕ) (rooms others : Counts) (s t : List ℕ) (m k : Head) (c d : Contents) (used taken : ℕ) (small : Bytes (take used s)) (smalls : Bytes (take taken t))
    (e : frame_read x limit rooms s ≡ answered (done (m, c) used)) (g : frame_read x other others t ≡ answered (done (k, d) taken))
    (plain : Each (Plain (take used s)) c.pairs) (plains : Each (Plain (take taken t)) d.pairs)
    (type : m.frame_type ≡ k.frame_type) (stream : m.stream ≡ k.stream) (frame : m.frame ≡ k.frame)
    (pairs : map (pair_meaning (take used s)) c.pairs ≡ map (pair_meaning (take taken t)) d.pairs) where
  same : Each (PlainOf (take used s)) c.actions → Each (PlainOf (take taken t)) d.actions
      → map (message_meaning (take used s)) c.messages ≡ map (message_meaning (take taken t)) d.messages
      → map (action_meaning (take used s)) c.actions ≡ map (action_meaning (take taken t)) d.actions → take used s ≡ take taken t
  same acts actss messages actions =
      frame_meant x limit rooms s m c used small e plain acts
      ∙ rw (messages, pairs, actions, type, stream, frame) refl
      ∙ sym (frame_meant x other others t k d taken smalls g plains actss)

-- Law: so two accepted frames whose values are plain, of one type and with the same ids and the same meanings, are the same bytes.
pub frames_apart : (limit other : ℕ) (rooms others : Counts) (s t : List ℕ) (m k : Head) (c d : Contents) (used taken : ℕ)
    → Bytes (take used s) → Bytes (take taken t)
    → frame_read side.HAProxy limit rooms s ≡ answered (done (m, c) used) → frame_read side.HAProxy other others t ≡ answered (done (k, d) taken)
    → Each (Plain (take used s)) c.pairs → Each (Plain (take taken t)) d.pairs
    → m.frame_type ≡ k.frame_type → m.stream ≡ k.stream → m.frame ≡ k.frame
    → map (message_meaning (take used s)) c.messages ≡ map (message_meaning (take taken t)) d.messages
    → map (pair_meaning (take used s)) c.pairs ≡ map (pair_meaning (take taken t)) d.pairs
    → take used s ≡ take taken t
frames_apart limit other rooms others s t m k c d used taken small smalls e g plain plains type stream frame messages pairs =
    let one = haproxy_actions rooms (take used s) m c used (frame_cut side.HAProxy limit rooms s m c used e).held in
    let two = haproxy_actions others (take taken t) k d taken (frame_cut side.HAProxy other others t k d taken g).held in
    same side.HAProxy limit other rooms others s t m k c d used taken small smalls e g plain plains type stream frame pairs (rw one tt) (rw two tt) messages (rw (one, two) refl)

-- Law: and so are two accepted frames of agents.
pub agents_apart : (limit other : ℕ) (rooms others : Counts) (s t : List ℕ) (m k : Head) (c d : Contents) (used taken : ℕ)
    → Bytes (take used s) → Bytes (take taken t)
    → frame_read side.Agents limit rooms s ≡ answered (done (m, c) used) → frame_read side.Agents other others t ≡ answered (done (k, d) taken)
    → Each (Plain (take used s)) c.pairs → Each (Plain (take taken t)) d.pairs
    → Each (PlainOf (take used s)) c.actions → Each (PlainOf (take taken t)) d.actions
    → m.frame_type ≡ k.frame_type → m.stream ≡ k.stream → m.frame ≡ k.frame
    → map (pair_meaning (take used s)) c.pairs ≡ map (pair_meaning (take taken t)) d.pairs
    → map (action_meaning (take used s)) c.actions ≡ map (action_meaning (take taken t)) d.actions
    → take used s ≡ take taken t
agents_apart limit other rooms others s t m k c d used taken small smalls e g plain plains acts actss type stream frame pairs actions =
    let one = agent_messages rooms (take used s) m c used (frame_cut side.Agents limit rooms s m c used e).held in
    let two = agent_messages others (take taken t) k d taken (frame_cut side.Agents other others t k d taken g).held in
    same side.Agents limit other rooms others s t m k c d used taken small smalls e g plain plains type stream frame pairs acts actss (rw (one, two) refl) actions
