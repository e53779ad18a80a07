-- Laws about filling tables: a table at whose front records stand takes one more behind them; and how far a pass is that fills three of them.
use Rattle.std.specs.Prelude.{Option}
use Rattle.payload.specs.Item.{one, no_more}
use mathlib.Core.Path.{◌≡◌, refl, sym, ap, ap₂, subst, ◌∙◌}
use mathlib.Core.Bool.{◌&&◌}
use mathlib.Core.Logic.{⊎_elim}
use mathlib.Core.List.{List, [], ◌∷◌, ◌++◌, append-nil, append_assoc}
use Prim.Native.Nat.{ℕ, suc, ◌+◌, ◌*◌, ◌≤◌, ◌<◌}
use native.Mathlib.Nat.{zero-mul, one-mul, add-mul}
use native.Mathlib.Omega.{arith}
use lib.Dec.{eqb}
use lib.ListN.{length, take, drop, length-append}
use lib.Seq.{take_at, drop_at, drop-drop}
use borrow.Author.Tests.{lt-ltb, le-ltb}
use Rattle.answer.specs.Answer.{Answer, done, refused, written, leaves}
use Rattle.answer.specs.Order.{in_order}
use Rattle.answer.specs.Table.{joined}
use Rattle.answer.proofs.Cases.{lt_or_le, bool_cases, not_both}
use Rattle.answer.proofs.Output.{leaves_length}
use Rattle.answer.proofs.Records.{joined_none, joined_on, joined_both}
use Rattle.frame.specs.Records.{message_width, message_numbers, pair_width, pair_numbers, action_width, action_numbers}
use Rattle.payload.specs.declared.Counts.{Counts}
use Rattle.payload.specs.declared.Cursor.{Cursor}
use Rattle.payload.specs.declared.Item.{Item}
use Rattle.payload.specs.declared.Item.TheVariants as i
use Rattle.payload.specs.declared.Payload.{Payload}
use Rattle.payload.specs.Payload.{Contents, empty, met, payload}
use Rattle.payload.specs.Item.{one, no_more, item_at}
use Rattle.payload.specs.Promise.{rooms_of}
use Rattle.payload.specs.Inner.{began, after_item, tests, Stands, Fits, put_at, Stores, Accepted, Leaves}
use Rattle.payload.proofs.Passing.{Goes, with_item, goes_start, stands_start, goes_then, Then}

-- ---- records, one after the other

module _ {A : Type 0} (numbers : A → List ℕ) where
  -- one more
  pub joined_more : (xs : List A) (x : A) → joined numbers (xs ++ (x ∷ [])) ≡ joined numbers xs ++ numbers x
  joined_more xs x =
      joined_both numbers xs (x ∷ [])
      ∙ ap (λ (l : List ℕ). joined numbers xs ++ l) (joined_on numbers x [] ∙ ap (λ (l : List ℕ). numbers x ++ l) (joined_none numbers) ∙ append-nil (numbers x))

  -- of a width
  pub joined_width : (width : ℕ) → ((x : A) → length (numbers x) ≡ width) → (xs : List A) → length (joined numbers xs) ≡ length xs * width
  joined_width width each [] = ap length (joined_none numbers) ∙ sym (zero-mul width)
  joined_width width each (x ∷ xs) =
      let one : suc (length xs) ≡ 1 + length xs = omega arith in
      ap length (joined_on numbers x xs)
      ∙ length-append (numbers x) (joined numbers xs)
      ∙ ap (λ (n : ℕ). n + length (joined numbers xs)) (each x)
      ∙ ap (λ (n : ℕ). width + n) (joined_width width each xs)
      ∙ ap (λ (n : ℕ). n + length xs * width) (sym (one-mul width))
      ∙ sym (add-mul 1 (length xs) width)
      ∙ ap (λ (n : ℕ). n * width) (sym one)

-- ---- a table that is filled

-- The table old, in which these records stand at the front.
pub record Filled {A : Type 0} (numbers : A → List ℕ) (old : List ℕ) (xs : List A) (table : List ℕ) : Type 0 where
  pub room : length (joined numbers xs) ≤ length old
  pub holds : table ≡ leaves (written (joined numbers xs)) old

pub filled_none : {A : Type 0} (numbers : A → List ℕ) (old : List ℕ) → Filled numbers old [] old
filled_none numbers old =
    record { room = rw (joined_none numbers) (omega arith); holds = ap (λ (l : List ℕ). leaves (written l) old) (sym (joined_none numbers)) }

module _ {A : Type 0} {numbers : A → List ℕ} {old : List ℕ} {xs : List A} {table : List ℕ} (f : Filled numbers old xs table) where
  pub filled_length : length table ≡ length old
  filled_length = ap length f.holds ∙ leaves_length (joined numbers xs) old f.room

  -- one more goes behind them
  pub filled_more : (x : A) (n : ℕ) → length (joined numbers xs) ≡ n → n + length (numbers x) ≤ length old → Filled numbers old (xs ++ (x ∷ [])) (put_at n (numbers x) table)
  filled_more x n count room =
      let all = joined_more numbers xs x in
      let both = length-append (joined numbers xs) (numbers x) in
      let front = joined numbers xs in
      record {
        room = rw all (omega (arith, both, count, room));
        holds =
            ap₂ (λ (l r : List ℕ). l ++ (numbers x ++ drop (length (numbers x)) r))
            (ap (take n) f.holds ∙ take_at front (drop (length front) old) n count)
            (ap (drop n) f.holds ∙ drop_at front (drop (length front) old) n count)
            ∙ sym (append_assoc front (numbers x) _)
            ∙ ap (λ (r : List ℕ). (front ++ numbers x) ++ r) (drop-drop (length (numbers x)) (length front) old ∙ ap (λ (k : ℕ). drop k old) (sym both))
            ∙ ap (λ (l : List ℕ). leaves (written l) old) (sym all);
      }

-- ---- tests that were passed

-- there is room for what comes next
abbrev pub Roomy : Counts → Cursor → Item → Type 0
Roomy rooms x (i.Pair p end) = x.pairs < rooms.pairs
Roomy rooms x (i.Message m end) = x.messages < rooms.messages
Roomy rooms x (i.Action a end) = x.actions < rooms.actions

-- that it goes on is no end, and no refusal
pub on_end : {G : Type 0} {y : Cursor} → one y ≡ no_more → G
on_end e = absurd (cc e)

pub on_refused : {G : Type 0} {y : Cursor} {n place : ℕ} → one y ≡ refused n place → G
on_refused e = not_both refl e

module _ (rooms : Counts) (s : List ℕ) (x : Cursor) (c : Contents) where
  -- Of a record that comes next the tests are passed, where there is room, or it is refused.
  pub by_tests : {G : Type 0} (item : Item)
      → (tests rooms s x c (one item) ≡ one (after_item x item) → Roomy rooms x item → G)
      → ((n place : ℕ) → tests rooms s x c (one item) ≡ refused n place → G)
      → G
  unfolding tests in_order
  by_tests (i.Pair p end) on stop =
      bool_cases (eqb x.left 0 && met s c.pairs p)
      (λ m. stop 9 end (rw m))
      (λ m.
      ⊎_elim
      (λ h. on (rw (m, lt-ltb x.pairs rooms.pairs h)) h)
      (λ h. stop 10 end (rw (m, le-ltb x.pairs rooms.pairs h)))
      (lt_or_le x.pairs rooms.pairs))
  by_tests (i.Message m end) on stop =
      ⊎_elim
      (λ h. on (rw (lt-ltb x.messages rooms.messages h)) h)
      (λ h. stop 10 end (rw (le-ltb x.messages rooms.messages h)))
      (lt_or_le x.messages rooms.messages)
  by_tests (i.Action a end) on stop =
      ⊎_elim
      (λ h. on (rw (lt-ltb x.actions rooms.actions h)) h)
      (λ h. stop 10 end (rw (le-ltb x.actions rooms.actions h)))
      (lt_or_le x.actions rooms.actions)

  -- and where the pass goes on, they are passed
  pub tests_room : (item : Item) (y : Cursor) → tests rooms s x c (one item) ≡ one y → Roomy rooms x item
  tests_room item y e = by_tests item (λ f r. r) (λ n place f. not_both e f)

-- ---- how far a pass is that fills

module _ (kind : Payload) (start : ℕ) (s old_messages old_pairs old_actions : List ℕ) where
  abbrev pub rooms : Counts
  rooms = rooms_of old_messages old_pairs old_actions

  abbrev pub all : Answer Contents
  all = payload kind rooms start s

  -- What was met is filled in, and what is left comes to what the payload does.
  pub record Filling (x : Cursor) (messages pairs actions : List ℕ) : Type 0 where
    pub met : Contents
    pub stands : Stands kind start s x met
    pub goes : Goes kind rooms s x met all
    pub in_messages_lem : Filled message_numbers old_messages met.messages messages
    pub in_pairs : Filled pair_numbers old_pairs met.pairs pairs
    pub in_actions_lem : Filled action_numbers old_actions met.actions actions

  pub filling_start : start ≤ length s → Filling (began start) old_messages old_pairs old_actions
  filling_start there =
      record {
        met = empty;
        stands = stands_start kind start s there;
        goes = goes_start kind start s there rooms;
        in_messages_lem = filled_none message_numbers old_messages;
        in_pairs = filled_none pair_numbers old_pairs;
        in_actions_lem = filled_none action_numbers old_actions;
      }

  module _ {x : Cursor} {messages pairs actions : List ℕ} (f : Filling x messages pairs actions) where
    -- so many numbers are filled in, which lie in the tables
    message_count : length (joined message_numbers f.met.messages) ≡ x.messages * message_width
    message_count = joined_width message_numbers message_width (λ m. refl) f.met.messages ∙ ap (λ (n : ℕ). n * message_width) f.stands.messages

    pair_count : length (joined pair_numbers f.met.pairs) ≡ x.pairs * pair_width
    pair_count = joined_width pair_numbers pair_width (λ p. refl) f.met.pairs ∙ ap (λ (n : ℕ). n * pair_width) f.stands.pairs

    action_count : length (joined action_numbers f.met.actions) ≡ x.actions * action_width
    action_count = joined_width action_numbers action_width (λ a. refl) f.met.actions ∙ ap (λ (n : ℕ). n * action_width) f.stands.actions

    pub tables_in : (x.messages * message_width ≤ length old_messages) × (x.pairs * pair_width ≤ length old_pairs) × (x.actions * action_width ≤ length old_actions)
    tables_in = (
      omega (arith, message_count, f.in_messages_lem.room),
      omega (arith, pair_count, f.in_pairs.room),
      omega (arith, action_count, f.in_actions_lem.room),
    )

    pub tables_length : (length messages ≡ length old_messages) × (length pairs ≡ length old_pairs) × (length actions ≡ length old_actions)
    tables_length = (filled_length f.in_messages_lem, filled_length f.in_pairs, filled_length f.in_actions_lem)

    -- there is room in the tables where the tests are passed
    pub filling_fits : (item : Item) → Roomy rooms x item → Fits item x messages pairs actions
    filling_fits (i.Pair p end) r = omega (arith, tables_length.1, r)
    filling_fits (i.Message m end) r = omega (arith, tables_length.0, r)
    filling_fits (i.Action a end) r = omega (arith, tables_length.2, r)

    -- one more
    pub filling_on : (item : Item) (y : Cursor) → one item ≡ item_at kind s x → tests rooms s x f.met (one item) ≡ one y
        → (new_messages new_pairs new_actions : List ℕ) → Stores item x messages new_messages pairs new_pairs actions new_actions
        → (x.at < y.at) × Filling y new_messages new_pairs new_actions
    filling_on item y is t new_messages new_pairs new_actions stored = (n.1, go item n.2 n.3 (tests_room rooms s x f.met item y t) stored)
      where
        n : Then f.stands f.goes (one item) (one y)
        n = subst (λ (z : Answer (Option Cursor)). Then f.stands f.goes (one item) z) t (rw is (goes_then f.stands f.goes))

        go : (item : Item) → Stands kind start s y (with_item f.met item) → Goes kind rooms s y (with_item f.met item) all → Roomy rooms x item
            → Stores item x messages new_messages pairs new_pairs actions new_actions → Filling y new_messages new_pairs new_actions
        go (i.Pair p end) st g room stored =
            record {
              met = with_item f.met (i.Pair p end);
              stands = st;
              goes = g;
              in_messages_lem = rw stored.0 f.in_messages_lem;
              in_pairs = rw stored.1 (filled_more f.in_pairs p (x.pairs * pair_width) pair_count (omega (arith, room)));
              in_actions_lem = rw stored.2 f.in_actions_lem;
            }
        go (i.Message m end) st g room stored =
            record {
              met = with_item f.met (i.Message m end);
              stands = st;
              goes = g;
              in_messages_lem = rw stored.0 (filled_more f.in_messages_lem m (x.messages * message_width) message_count (omega (arith, room)));
              in_pairs = rw stored.1 f.in_pairs;
              in_actions_lem = rw stored.2 f.in_actions_lem;
            }
        go (i.Action a end) st g room stored =
            record {
              met = with_item f.met (i.Action a end);
              stands = st;
              goes = g;
              in_messages_lem = rw stored.0 f.in_messages_lem;
              in_pairs = rw stored.1 f.in_pairs;
              in_actions_lem = rw stored.2 (filled_more f.in_actions_lem a (x.actions * action_width) action_count (omega (arith, room)));
            }

    -- at the end all is filled in
    pub filling_fills : all ≡ done f.met x.at → Leaves kind start s old_messages messages old_pairs pairs old_actions actions
    filling_fills e = rw e (record { messages = f.in_messages_lem.holds; pairs = f.in_pairs.holds; actions = f.in_actions_lem.holds })

    -- of a payload that is accepted, a record passes its tests, and else all is filled in
    module _ (ok : Accepted kind rooms start s) where
      then_of : Then f.stands f.goes (item_at kind s x) (tests rooms s x f.met (item_at kind s x))
      then_of = goes_then f.stands f.goes

      pub accepted_on : (item : Item) → one item ≡ item_at kind s x → (tests rooms s x f.met (one item) ≡ one (after_item x item)) × Roomy rooms x item
      accepted_on item is =
          by_tests rooms s x f.met item (λ e r. (e, r))
          (λ n place e. not_both ok.is (subst (λ (z : Answer (Option Cursor)). Then f.stands f.goes (one item) z) e (rw is then_of)))

      pub accepted_fits : (item : Item) → one item ≡ item_at kind s x → Fits item x messages pairs actions
      accepted_fits item is = filling_fits item (accepted_on item is).1

      pub accepted_more : (item : Item) → one item ≡ item_at kind s x → (y : Cursor) → y ≡ after_item x item
          → (new_messages new_pairs new_actions : List ℕ) → Stores item x messages new_messages pairs new_pairs actions new_actions
          → (x.at < y.at) × Filling y new_messages new_pairs new_actions
      accepted_more item is y e new_messages new_pairs new_actions stored =
          filling_on item y is ((accepted_on item is).0 ∙ ap one (sym e)) new_messages new_pairs new_actions stored

      pub accepted_end : no_more ≡ item_at kind s x → Leaves kind start s old_messages messages old_pairs pairs old_actions actions
      unfolding tests
      accepted_end is = filling_fills (subst (λ (z : Answer (Option Item)). Then f.stands f.goes z (tests rooms s x f.met z)) (sym is) then_of)

      pub accepted_not : {G : Type 0} (n place : ℕ) → refused n place ≡ item_at kind s x → G
      unfolding tests
      accepted_not n place is = not_both ok.is (subst (λ (z : Answer (Option Item)). Then f.stands f.goes z (tests rooms s x f.met z)) (sym is) then_of)
