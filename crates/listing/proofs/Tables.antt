-- Laws about the tables of an accepted frame, whichever side sent it: they hold its records, and the steps over them give its lines.
use mathlib.Core.Path.{◌≡◌, refl, sym, ap, ap₂, ◌∙◌}
use mathlib.Core.Bool.{true}
use mathlib.Core.List.{List, [], ◌∷◌, ◌++◌}
use Prim.Native.Nat.{ℕ, zero, suc, ◌+◌, ◌*◌, ◌≤◌, ◌<◌}
use native.Mathlib.Nat.{mul-le-mul_right}
use native.Mathlib.Omega.{arith}
use lib.Dec.{leb}
use lib.ListN.{length, take, length-append}
use lib.Seq.{length-take-le}
use borrow.Author.Tests.{le-leb, eq-eqb, ne_eqb}
use Rattle.answer.specs.Answer.{done, written}
use Rattle.answer.specs.Order.{Check}
use Rattle.answer.specs.Table.{records, joined}
use Rattle.answer.specs.Inner.{Passes}
use Rattle.answer.proofs.Cases.{bool_cases}
use Rattle.answer.proofs.Order.{lines_pass}
use Rattle.answer.proofs.Each.{Each, each_at}
use Rattle.types.specs.Value.{points, shape}
use Rattle.types.specs.Form.{inside, ranged}
use Rattle.types.specs.Promise.{record_of}
use Rattle.frame.specs.declared.Head.{Head}
use Rattle.frame.specs.declared.Pair.{Pair}
use Rattle.frame.specs.declared.Message.{Message}
use Rattle.frame.specs.declared.Action.{Action}
use Rattle.frame.specs.declared.Side.{Side}
use Rattle.frame.specs.Read.{Sender, answered, sender}
use Rattle.frame.proofs.Rows.{table_messages, table_pairs, table_actions}
use Rattle.frame.specs.Records.{message_width, message_at, message_numbers, pair_width, pair_at, pair_numbers, action_width, action_at, action_numbers}
use Rattle.payload.specs.declared.Counts.{Counts}
use Rattle.payload.specs.Payload.{Contents}
use Rattle.payload.specs.Promise.{rooms_of, Fills}
use Rattle.payload.proofs.Filling.{joined_width}
use Rattle.payload.proofs.Standing.{by_verb}
use Rattle.parser.specs.Frame.{framed, frame_read}
use Rattle.parser.specs.Promise.{contents_read}
use Rattle.parser.proofs.Frames.{Cut, frame_cut}
use Rattle.listing.specs.Lines.{frame_line, message_line, pair_line, action_line}
use Rattle.listing.specs.Check.{checked_line, message_answer, pair_line_checks, pair_answer, is_action, action_answer}
use Rattle.listing.specs.Order.{in_table}
use Rattle.listing.proofs.Frames.{item_lines, action_lines, frame_lines}
use Rattle.listing.proofs.Accepted.{Named, Whole, Acts, Held, whole_held}
use Rattle.listing.proofs.Stepped.{bytes_of, steps, steps_lines}

-- ---- records of an accepted frame pass their checks

message_passes : (f : List ℕ) (m : Message) → Named (length f) m → Passes ((16, inside f m.start m.len) ∷ [])
message_passes f m h = (le-leb (m.start + m.len) (length f) h, tt)

pair_passes : (f : List ℕ) (p : Pair) → Whole (length f) p → Passes (pair_line_checks f p)
pair_passes f p h = (h.fields, (le-leb (p.start + p.len) (length f) h.key, (range, tt)))
  where
    range : ranged f (record_of p.value) ≡ true
    range = bool_cases (points (shape p.value.kind)) (λ t. rw t (le-leb (p.value.a + p.value.b) (length f) (h.range t))) (λ t. rw t)

action_passes : (f : List ℕ) (x : Action) → Acts (length f) x → Passes ((14, is_action x) ∷ pair_line_checks f x.pair)
action_passes f x a = (known, pair_passes f x.pair a.whole)
  where
    scope : leb x.scope 4 ≡ true
    scope = le-leb x.scope 4 a.scope

    known : is_action x ≡ true
    known =
        by_verb x a.verbs (λ one. rw (scope, eq-eqb x.verb 1 one))
        (λ two.
        let none = a.null two in
        let kind : x.pair.value.kind ≡ 0 = cc in
        let flags : x.pair.value.flags ≡ 0 = cc in
        rw (scope, ne_eqb x.verb 1 (λ z. omega arith), eq-eqb x.verb 2 two, eq-eqb x.pair.value.kind 0 kind, eq-eqb x.pair.value.flags 0 flags))

-- what holds of each of some records holds of record i of a table that has them at its front
pub each_there : {A : Type 0} (at : ℕ → A) (P : A → Type 0) (xs : List A) → records at 0 (length xs) ≡ xs → Each P xs → (i : ℕ) → i < length xs → P (at i)
each_there at P xs these each i h = let here : 0 + i ≡ i = omega arith in rw here at (each_at P at (length xs) 0 (rw these each) i h)

-- A table with these records at its front: whatever holds of each of them, and lets its checks pass, record i is there and has its line.
answers : {A : Type 0} (numbers : A → List ℕ) (width : ℕ) → ((x : A) → length (numbers x) ≡ width) → (at : List ℕ → ℕ → A) (P : A → Type 0)
    → (checks : A → List Check) → ((x : A) → P x → Passes (checks x)) → (line : ℕ → List ℕ → A → List ℕ) (f table : List ℕ) (xs : List A) (behind : List ℕ)
    → table ≡ joined numbers xs ++ behind → records (at table) 0 (length xs) ≡ xs → Each P xs → (i : ℕ) → i < length xs
    → in_table width at (λ k g x. checked_line (checks x) (line k g x)) f table i ≡ written (line i f (at table i))
answers numbers width wide at P checks passes line f table xs behind is these each i h =
    let all = joined_width numbers width wide xs in
    let few : i + 1 ≤ length xs = omega arith in
    let more = mul-le-mul_right width few in
    let room : (i + 1) * width ≤ length table = omega (arith, ap length is, length-append (joined numbers xs) behind) in
    let there = each_there (at table) P xs these each i h in
    rw (le-leb ((i + 1) * width) (length table) room) (lines_pass (checks (at table i)) (passes (at table i) there) 0 (written (line i f (at table i))))

-- ---- tables with an accepted frame's records at their front

-- Laws: a table with the frame's records of a sort in front holds them, and each of them is answered with its line.
module _ (sent : Sender) (rooms : Counts) (f : List ℕ) (m : Head) (c : Contents) (used : ℕ) (e : framed sent rooms f ≡ done (m, c) used) (table behind : List ℕ) where
  held : Held (length f) c
  held = whole_held sent rooms f m c used e

  module _ (is : table ≡ joined message_numbers c.messages ++ behind) where
    pub messages_stand : records (message_at table) 0 (length c.messages) ≡ c.messages
    messages_stand = rw is (table_messages c.messages behind)

    pub message_stands : (i : ℕ) → i < length c.messages → in_table message_width message_at message_answer f table i ≡ written (message_line i f (message_at table i))
    message_stands =
        answers message_numbers message_width (λ x. refl) message_at (Named (length f)) (λ x. (16, inside f x.start x.len) ∷ []) (message_passes f) message_line f table c.messages behind is
        messages_stand held.messages

  module _ (is : table ≡ joined pair_numbers c.pairs ++ behind) where
    pub pairs_stand : records (pair_at table) 0 (length c.pairs) ≡ c.pairs
    pairs_stand = rw is (table_pairs c.pairs behind)

    pub pair_stands : (k : ℕ) → k < length c.pairs → in_table pair_width pair_at pair_answer f table k ≡ written (pair_line k f (pair_at table k))
    pair_stands =
        answers pair_numbers pair_width (λ x. refl) pair_at (Whole (length f)) (pair_line_checks f) (pair_passes f) pair_line f table c.pairs behind is
        pairs_stand held.pairs

  module _ (is : table ≡ joined action_numbers c.actions ++ behind) where
    pub actions_stand : records (action_at table) 0 (length c.actions) ≡ c.actions
    actions_stand = rw is (table_actions c.actions behind)

    pub action_stands : (k : ℕ) → k < length c.actions → in_table action_width action_at action_answer f table k ≡ written (action_line k f (action_at table k))
    action_stands =
        answers action_numbers action_width (λ x. refl) action_at (Acts (length f)) (λ x. (14, is_action x) ∷ pair_line_checks f x.pair) (action_passes f) action_line f table c.actions behind is
        actions_stand held.actions

-- ---- the lines of the actions of a table

-- What the answers for so many actions of a table write, one behind the other.
unfoldable pub action_steps : List ℕ → List ℕ → ℕ → ℕ → List ℕ
action_steps f actions k zero = []
action_steps f actions k (suc n) = bytes_of (in_table action_width action_at action_answer f actions k) ++ action_steps f actions (suc k) n

action_steps_lem : (f actions : List ℕ) (n k : ℕ) → ((i : ℕ) → i < k + n → in_table action_width action_at action_answer f actions i ≡ written (action_line i f (action_at actions i)))
    → action_steps f actions k n ≡ action_lines f k (records (action_at actions) k n)
unfolding action_steps action_lines records
action_steps_lem f actions zero k each = refl
action_steps_lem f actions (suc n) k each =
    rw (each k (omega arith))
    (ap (λ (l : List ℕ). action_line k f (action_at actions k) ++ l) (action_steps_lem f actions n (suc k) (λ i h. each i (omega arith))))

-- ---- an accepted frame's tables

-- The bytes of a frame that was accepted, and the tables that its reader left.
module _ (side : Side) (limit : ℕ) (s old_messages new_messages old_pairs new_pairs old_actions new_actions : List ℕ) (m : Head) (c : Contents) (used : ℕ)
    (e : frame_read side limit (rooms_of old_messages old_pairs old_actions) s ≡ answered (done (m, c) used))
    (fills : Fills (contents_read (frame_read side limit (rooms_of old_messages old_pairs old_actions) s)) old_messages new_messages old_pairs new_pairs old_actions new_actions) where
  abbrev f : List ℕ
  f = take used s

  cut : Cut side limit (rooms_of old_messages old_pairs old_actions) s m c used
  cut = frame_cut side limit (rooms_of old_messages old_pairs old_actions) s m c used e

  in_messages : (t : List ℕ) × (new_messages ≡ joined message_numbers c.messages ++ t)
  in_messages = (_, rw e at fills.messages)

  in_pairs_lem : (t : List ℕ) × (new_pairs ≡ joined pair_numbers c.pairs ++ t)
  in_pairs_lem = (_, rw e at fills.pairs)

  in_actions : (t : List ℕ) × (new_actions ≡ joined action_numbers c.actions ++ t)
  in_actions = (_, rw e at fills.actions)

  -- Laws: each table holds the frame's records of its sort, and each of them is answered with its line.
  pub messages_held : records (message_at new_messages) 0 (length c.messages) ≡ c.messages
  messages_held = messages_stand (sender side) _ f m c used cut.is new_messages _ in_messages.1

  pub pairs_held : records (pair_at new_pairs) 0 (length c.pairs) ≡ c.pairs
  pairs_held = pairs_stand (sender side) _ f m c used cut.is new_pairs _ in_pairs_lem.1

  pub actions_held : records (action_at new_actions) 0 (length c.actions) ≡ c.actions
  actions_held = actions_stand (sender side) _ f m c used cut.is new_actions _ in_actions.1

  pub message_answered : (i : ℕ) → i < length c.messages → in_table message_width message_at message_answer f new_messages i ≡ written (message_line i f (message_at new_messages i))
  message_answered = message_stands (sender side) _ f m c used cut.is new_messages _ in_messages.1

  pub pair_answered : (k : ℕ) → k < length c.pairs → in_table pair_width pair_at pair_answer f new_pairs k ≡ written (pair_line k f (pair_at new_pairs k))
  pair_answered = pair_stands (sender side) _ f m c used cut.is new_pairs _ in_pairs_lem.1

  pub action_answered : (k : ℕ) → k < length c.actions → in_table action_width action_at action_answer f new_actions k ≡ written (action_line k f (action_at new_actions k))
  action_answered = action_stands (sender side) _ f m c used cut.is new_actions _ in_actions.1

  -- Law: so the steps from the first place on, and then the actions one by one, are the frame's lines, in order, behind its own.
  pub accepted_lines : (index : ℕ)
      → frame_line index m used
      ++ (steps f new_messages (length c.messages) new_pairs (length c.pairs) (length c.messages + length c.pairs) (record { messages = 0; pairs = 0; left = 0 })
      ++ action_steps f new_actions 0 (length c.actions))
      ≡ frame_lines index f m c
  unfolding frame_lines
  accepted_lines index =
      let items =
      steps_lines f new_messages (length c.messages) new_pairs (length c.pairs) message_answered pair_answered
      ∙ ap₂ (item_lines f 0 0) messages_held pairs_held in
      let actions = action_steps_lem f new_actions (length c.actions) 0 (λ i h. action_answered i (omega arith)) ∙ ap (action_lines f 0) actions_held in
      ap₂ (λ (n : ℕ) (l : List ℕ). frame_line index m n ++ l) (sym (length-take-le used s cut.there)) (ap₂ ◌++◌ items actions)
