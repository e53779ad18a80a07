-- Laws about filling the tables step by step, of a payload that is accepted: what comes next is a message, for which there is room, or a pair, and at the end all
-- is filled in.
use mathlib.Core.Path.{◌≡◌, refl, sym, ap, ◌∙◌}
use mathlib.Core.List.{List, [], ◌∷◌, ◌++◌}
use Prim.Native.Nat.{ℕ, suc, ◌*◌, ◌/◌, ◌<◌}
use native.Mathlib.Omega.{arith}
use lib.ListN.{length, drop, set, get_or, length-append}
use lib.Seq.{drop-cons, set-append_seam}
use Rattle.answer.specs.Answer.{Answer, refused}
use Rattle.answer.specs.Table.{joined}
use Rattle.answer.proofs.Cases.{not_both}
use Rattle.frame.specs.declared.Pair.{Pair}
use Rattle.frame.specs.declared.Message.{Message}
use Rattle.frame.specs.declared.Action.{Action}
use Rattle.frame.specs.Records.{message_width, message_numbers}
use Rattle.payload.specs.declared.Counts.{Counts}
use Rattle.payload.specs.declared.Cursor.{Cursor}
use Rattle.payload.specs.declared.Item.{Item}
use Rattle.payload.specs.declared.Item.TheVariants as i
use Rattle.payload.specs.declared.Payload.{Payload}
use Rattle.payload.specs.Payload.{Contents, empty, payload}
use Rattle.payload.specs.Item.{one, no_more, item_at}
use Rattle.payload.specs.Inner.{began, after_item, Stands, put_at, Accepted}
use Rattle.payload.proofs.Accepted.{payload_start}
use Rattle.payload.proofs.Passing.{Goes, with_item, goes_start, stands_start, then_on, then_end, then_not}
use Rattle.payload.proofs.Filling.{joined_width, Filled, filled_none, filled_more, filled_length, Roomy, by_tests}
use Rattle.records.specs.Promise.{FillsRecords}

-- the rooms of a table of messages of such a length, and of one of so many pairs
abbrev pub rooms_in : ℕ → ℕ → Counts
rooms_in messages pairs = record { messages = messages / message_width; pairs = pairs; actions = 0 }

-- what the payload comes to that starts there, with a table of messages and room for so many pairs
abbrev pub held : List ℕ → Payload → ℕ → List ℕ → ℕ → Answer Contents
held s kind start table n = payload kind (rooms_in (length table) n) start s

-- How far the filling of a payload is that is accepted: these pairs were met, the messages that were met stand in their table, which was old, and what is left
-- comes to what the payload does.
pub record Meets (s : List ℕ) (kind : Payload) (start : ℕ) (old : List ℕ) (n : ℕ) (x : Cursor) (table : List ℕ) (ps : List Pair) : Type 0 where
  pub met : Contents
  pub are : met.pairs ≡ ps
  pub stands : Stands kind start s x met
  pub goes : Goes kind (rooms_in (length old) n) s x met (held s kind start old n)
  pub messages : Filled message_numbers old met.messages table
  pub accepted : Accepted kind (rooms_in (length old) n) start s

-- ---- where it begins

pub meets_start : (s : List ℕ) (kind : Payload) (start : ℕ) (old : List ℕ) (n : ℕ) → Accepted kind (rooms_in (length old) n) start s → Meets s kind start old n (began start) old []
meets_start s kind start old n ok =
    let there = (payload_start kind (rooms_in (length old) n) start s ok.contents ok.end ok.is).0 in
    record {
      met = empty;
      are = refl;
      stands = stands_start kind start s there;
      goes = goes_start kind start s there (rooms_in (length old) n);
      messages = filled_none message_numbers old;
      accepted = ok;
    }

-- ---- how it goes on

module _ {s : List ℕ} {kind : Payload} {start : ℕ} {old : List ℕ} {n : ℕ} {x : Cursor} {table : List ℕ} {ps : List Pair} (m : Meets s kind start old n x table ps) where
  abbrev rooms : Counts
  rooms = rooms_in (length old) n

  -- a record that comes next has room, and is met
  on : (item : Item) → one item ≡ item_at kind s x
      → Roomy rooms x item × (x.at < (after_item x item).at) × Stands kind start s (after_item x item) (with_item m.met item) × Goes kind rooms s (after_item x item) (with_item m.met item) (held s kind start old n)
  on item is =
      by_tests rooms s x m.met item
      (λ e r. let t = then_on m.stands m.goes item is (sym e) in (r, t.1, t.2, t.3))
      (λ k place e. not_both m.accepted.is (then_on m.stands m.goes item is (sym e)))

  pub meets_length : length table ≡ length old
  meets_length = filled_length m.messages

  -- so many pairs were met
  pub meets_many : length ps ≡ x.pairs
  meets_many = ap length (sym m.are) ∙ m.stands.pairs

  -- a pair
  pub meets_pair : (p : Pair) (end : ℕ) → one (i.Pair p end) ≡ item_at kind s x
      → (length ps < n) × (x.at < end) × Meets s kind start old n (after_item x (i.Pair p end)) table (ps ++ (p ∷ []))
  meets_pair p end is =
      let o = on (i.Pair p end) is in (
        omega (arith, o.0, meets_many),
        o.1,
        record {
          met = with_item m.met (i.Pair p end);
          are = ap (λ (qs : List Pair). qs ++ (p ∷ [])) m.are;
          stands = o.2;
          goes = o.3;
          messages = m.messages;
          accepted = m.accepted;
        },
      )

  -- a message
  module _ (y : Message) (end : ℕ) (is : one (i.Message y end) ≡ item_at kind s x) where
    pub meets_room : x.messages < length table / message_width
    meets_room = omega (arith, (on (i.Message y end) is).0, meets_length)

    pub meets_message : (x.at < end) × Meets s kind start old n (after_item x (i.Message y end)) (put_at (x.messages * message_width) (message_numbers y) table) ps
    meets_message =
        let o = on (i.Message y end) is in
        let many : length (joined message_numbers m.met.messages) ≡ x.messages * message_width = joined_width message_numbers message_width (λ z. refl) m.met.messages ∙ ap (λ (k : ℕ). k * message_width) m.stands.messages in (
          o.1,
          record {
            met = with_item m.met (i.Message y end);
            are = m.are;
            stands = o.2;
            goes = o.3;
            messages = filled_more m.messages y (x.messages * message_width) many (omega (arith, o.0));
            accepted = m.accepted;
          },
        )

  -- no action, and no refusal
  pub meets_action : {G : Type 0} (a : Action) (end : ℕ) → one (i.Action a end) ≡ item_at kind s x → G
  meets_action a end is = absurd (omega (arith, (on (i.Action a end) is).0))

  pub meets_refusal : {G : Type 0} (number place : ℕ) → refused number place ≡ item_at kind s x → G
  meets_refusal number place is = not_both m.accepted.is (then_not m.stands m.goes number place is)

  -- the end
  pub meets_end : no_more ≡ item_at kind s x → (old_pairs : List Pair) → FillsRecords (held s kind start old n) old table old_pairs (ps ++ drop (length ps) old_pairs)
  meets_end is old_pairs =
      rw (then_end m.stands m.goes is) (record { messages = m.messages.holds; pairs = ap (λ (qs : List Pair). qs ++ drop (length qs) old_pairs) (sym m.are) })

-- ---- the table of pairs

append_snoc : (xs : List Pair) (y : Pair) (l : List Pair) → (xs ++ (y ∷ [])) ++ l ≡ xs ++ y ∷ l
append_snoc [] y l = refl
append_snoc (x ∷ xs) y l = ap (λ (k : List Pair). x ∷ k) (append_snoc xs y l)

-- the record at the seam of what is stored and what is not is set
pub stored : (zs ys : List Pair) (i : ℕ) (p : Pair) → length zs ≡ i → i < length ys → set (zs ++ drop (length zs) ys) i p ≡ (zs ++ (p ∷ [])) ++ drop (length (zs ++ (p ∷ []))) ys
stored zs ys i p e h =
    ap (λ (k : ℕ). set (zs ++ drop k ys) i p) e
    ∙ ap (λ (l : List Pair). set (zs ++ l) i p) (drop-cons ys i p h)
    ∙ ap (λ (k : ℕ). set (zs ++ get_or ys i p ∷ drop (suc i) ys) k p) (sym e)
    ∙ set-append_seam zs (get_or ys i p) (drop (suc i) ys) p
    ∙ ap (λ (k : ℕ). zs ++ p ∷ drop k ys) {x = suc i} {y = length (zs ++ (p ∷ []))} (omega (arith, length-append zs (p ∷ []), e))
    ∙ sym (append_snoc zs p (drop (length (zs ++ (p ∷ []))) ys))
