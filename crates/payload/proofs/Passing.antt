-- Laws about a pass over a payload: the reading goes on behind what comes next, as its tests say, and ends where nothing does.
use mathlib.Core.Path.{◌≡◌, refl, sym, ap, subst, ◌∙◌}
use mathlib.Core.Bool.{Bool, true, false, ◌&&◌}
use mathlib.Core.Logic.{⊎_elim}
use mathlib.Core.List.{List, [], ◌∷◌, ◌++◌}
use Prim.Native.Nat.{ℕ, zero, suc, ◌+◌, ◌-◌, ◌^◌, ◌≤◌, ◌<◌}
use native.Mathlib.Omega.{arith}
use lib.Dec.{eqb}
use lib.ListN.{length, length-append}
use borrow.Author.Tests.{lt-ltb, le-ltb, le-leb, eq-eqb, ne_eqb}
use Rattle.answer.specs.declared.Refusal.{Refusal}
use Rattle.answer.specs.Answer.{Answer, done, refused, next}
use Rattle.answer.specs.Order.{in_order}
use Rattle.answer.specs.Row.{so_many, to_end}
use Rattle.answer.proofs.Cases.{lt_or_le, bool_cases}
use Rattle.frame.specs.declared.Pair.{Pair}
use Rattle.frame.specs.declared.Message.{Message}
use Rattle.frame.specs.declared.Action.{Action}
use Rattle.payload.specs.declared.Counts.{Counts}
use Rattle.payload.specs.declared.Cursor.{Cursor}
use Rattle.payload.specs.declared.Item.{Item}
use Rattle.payload.specs.declared.Item.TheVariants as i
use Rattle.std.specs.Prelude.{Option, Some, None, Ok, Err}
use Rattle.answer.specs.Writes.{refusal_said}
use Rattle.payload.specs.declared.Payload.{Payload}
use Rattle.payload.specs.declared.Payload.TheVariants as k
use Rattle.payload.specs.Pair.{pair_from}
use Rattle.payload.specs.Action.{action_from}
use Rattle.payload.specs.Payload.{Contents, empty, with_pair, with_message, with_action, message_from, met, one_pair, one_of, payload}
use Rattle.payload.specs.Item.{one, no_more, item_of, listed, item_at}
use Rattle.payload.specs.Inner.{began, after_item, tests, Low, KeyInside, Run, Stands, Passes}
use Rattle.payload.proofs.Pairs.{from_lies}
use Rattle.payload.proofs.Rows.{from_next, run_more}
use Rattle.payload.proofs.Actions.{action_next}
use Rattle.payload.proofs.Steps.{message_next, pair_refused, pair_met, pair_full, pair_taken, message_refused, message_full, message_taken, action_refused, action_full, action_taken}

-- What is left from there on comes to a.
pub record Goes (kind : Payload) (rooms : Counts) (s : List ℕ) (x : Cursor) (c : Contents) (a : Answer Contents) : Type 0 where
  pub fuel : ℕ
  pub enough : length s ≤ x.at + fuel
  pub is : next (so_many (one_pair rooms s false) x.left c x.at) (λ d end. to_end (one_of rooms s kind) (length s) fuel d end) ≡ a

-- ---- where it begins

module _ (kind : Payload) (start : ℕ) (s : List ℕ) (there : start ≤ length s) where
  pub goes_start : (rooms : Counts) → Goes kind rooms s (began start) empty (payload kind rooms start s)
  unfolding payload in_order so_many
  goes_start rooms = record { fuel = length s; enough = omega arith; is = rw (le-leb start (length s) there) }

  pub stands_start : Stands kind start s (began start) empty
  stands_start = record { place = there; messages = refl; pairs = refl; actions = refl; few = omega arith; run = λ e. refl }

-- ---- how it goes on

-- What is left, where arguments are due; where none is, and a list goes on; and at the end.
module _ {kind : Payload} {rooms : Counts} {s : List ℕ} {x : Cursor} {c : Contents} {a : Answer Contents} (g : Goes kind rooms s x c a) where
  abbrev rest : ℕ → Contents → ℕ → Answer Contents
  rest fuel d end = to_end (one_of rooms s kind) (length s) fuel d end

  -- an argument
  pub due_stop : (l : ℕ) → x.left ≡ suc l → (n place : ℕ) → one_pair rooms s false c x.at ≡ refused n place → a ≡ refused n place
  unfolding so_many
  due_stop l is n place e = sym (rw (is, e) at g.is)

  pub due_on : (l : ℕ) → x.left ≡ suc l → (y : Cursor) (d : Contents) → y.left ≡ l → x.at ≤ y.at → one_pair rooms s false c x.at ≡ done d y.at → Goes kind rooms s y d a
  unfolding so_many
  due_on l is y d left on e = record { fuel = g.fuel; enough = omega (arith, g.enough, on); is = rw left (rw (is, e) at g.is) }

  module _ (none : x.left ≡ 0) where
    list_is : rest g.fuel c x.at ≡ a
    unfolding so_many
    list_is = rw none at g.is

    pub list_end : length s ≤ x.at → a ≡ done c x.at
    unfolding to_end
    list_end h = sym (go g.fuel list_is)
      where
        go : (k : ℕ) → rest k c x.at ≡ a → done c x.at ≡ a
        go zero e = e
        go (suc k) e = rw (le-ltb x.at (length s) h) at e

    module _ (h : x.at < length s) where
      unrolled : (m : ℕ) × (g.fuel ≡ suc m) × (next (one_of rooms s kind c x.at) (λ (d : Contents) (end : ℕ). rest m d end) ≡ a)
      unfolding to_end
      unrolled = go g.fuel g.enough list_is
        where
          go : (k : ℕ) → length s ≤ x.at + k → rest k c x.at ≡ a
              → (m : ℕ) × (k ≡ suc m) × (next (one_of rooms s kind c x.at) (λ (d : Contents) (end : ℕ). rest m d end) ≡ a)
          go zero l e = absurd (omega arith)
          go (suc m) l e = (m, refl, rw (lt-ltb x.at (length s) h) at e)

      pub list_stop : (n place : ℕ) → one_of rooms s kind c x.at ≡ refused n place → a ≡ refused n place
      list_stop n place e = sym (rw e at unrolled.2)

      -- one of the list, or the first part of one, of which so many arguments are due
      pub list_on : (y : Cursor) (d : Contents) → x.at < y.at
          → one_of rooms s kind c x.at ≡ so_many (one_pair rooms s false) y.left d y.at → Goes kind rooms s y d a
      list_on y d on e = record { fuel = unrolled.0; enough = omega (arith, g.enough, unrolled.1); is = rw e at unrolled.2 }

-- ---- what comes next

module _ (kind : Payload) (s : List ℕ) (x : Cursor) where
  pub item_due : (l : ℕ) → x.left ≡ suc l → item_at kind s x ≡ item_of i.Pair (pair_from x.at s)
  unfolding item_at
  item_due l is = rw (lt-ltb 0 x.left (omega (arith, is)))

  module _ (none : x.left ≡ 0) where
    pub item_listed : x.at < length s → item_at kind s x ≡ listed kind s x
    unfolding item_at
    item_listed h = rw (none, lt-ltb x.at (length s) h)

    pub item_end : length s ≤ x.at → item_at kind s x ≡ no_more
    unfolding item_at
    item_end h = rw (none, le-ltb x.at (length s) h)

-- what comes next, as the code took it apart
pub comes : {a : Answer (Option Item)} {o q : Option Item} → o ≡ q → done o 0 ≡ a → done q 0 ≡ a
comes e is = ap (λ (z : Option Item). done z 0) (sym e) ∙ is

-- what was met behind what comes next
abbrev pub with_item : Contents → Item → Contents
with_item c (i.Pair p end) = with_pair c p
with_item c (i.Message m end) = with_message c m
with_item c (i.Action a end) = with_action c a

abbrev pub with_next : Contents → Answer (Option Item) → Contents
with_next c (done (Some item) n) = with_item c item
with_next c (done None n) = c
with_next c (refused number place) = c

-- and where the pass goes on
abbrev pub after_next : Cursor → Answer (Option Item) → Cursor
after_next x (done (Some item) n) = after_item x item
after_next x (done None n) = x
after_next x (refused number place) = x

one_more : {A : Type 0} (xs : List A) (y : A) → length (xs ++ (y ∷ [])) ≡ length xs + 1
one_more xs y = length-append xs (y ∷ [])

module _ {kind : Payload} {start : ℕ} {rooms : Counts} {s : List ℕ} {x : Cursor} {c : Contents} {a : Answer Contents}
    (st : Stands kind start s x c) (g : Goes kind rooms s x c a) where
  -- What is left where the tests of an item come out so: the pass goes on behind it, has ended, or is refused.
  abbrev pub Then : Answer (Option Item) → Answer (Option Cursor) → Type 0
  Then item (done (Some y) n) =
      (y ≡ after_next x item) × (x.at < y.at) × Stands kind start s y (with_next c item) × Goes kind rooms s y (with_next c item) a
  Then item (done None n) = a ≡ done c x.at
  Then item (refused number place) = a ≡ refused number place

  -- a pair, by what is known of reading one more
  module _ (once : Bool) (is : once ≡ eqb x.left 0) (stop : (n place : ℕ) → one_pair rooms s once c x.at ≡ refused n place → a ≡ refused n place) where
    then_pair : (p : Pair) (end : ℕ) → pair_from x.at s ≡ done p end
        → (one_pair rooms s once c x.at ≡ done (with_pair c p) end → Goes kind rooms s (after_item x (i.Pair p end)) (with_pair c p) a)
        → Then (one (i.Pair p end)) (tests rooms s x c (one (i.Pair p end)))
    unfolding tests in_order
    then_pair p end f on =
        bool_cases (once && met s c.pairs p)
        (λ t. rw (rw is at t) (stop 9 end (pair_met rooms s c x.at once p end f t)))
        (λ t.
        ⊎_elim
        (λ h.
        rw (rw is at t, lt-ltb x.pairs rooms.pairs (omega (arith, st.pairs, h))) (
          refl,
          omega (arith, from_next s x.at p end f),
          stands_pair p end f,
          on (pair_taken rooms s c x.at once p end f t h),
        ))
        (λ h. rw (rw is at t, le-ltb x.pairs rooms.pairs (omega (arith, st.pairs, h))) (stop 10 end (pair_full rooms s c x.at once p end f t h)))
        (lt_or_le (length c.pairs) rooms.pairs))
      where
        stands_pair : (p : Pair) (end : ℕ) → pair_from x.at s ≡ done p end → Stands kind start s (after_item x (i.Pair p end)) (with_pair c p)
        stands_pair p end f =
            let n = from_next s x.at p end f in
            record {
              place = n.2;
              messages = st.messages;
              pairs = one_more c.pairs p ∙ ap (λ (m : ℕ). m + 1) st.pairs;
              actions = st.actions;
              few = omega (arith, st.few);
              run = λ e. run_more s start c.pairs x.at p end (st.run e) f;
            }

  -- an argument that is due
  then_due : (l : ℕ) → x.left ≡ suc l → (r : Answer Pair) → pair_from x.at s ≡ r → Then (item_of i.Pair r) (tests rooms s x c (item_of i.Pair r))
  unfolding tests
  then_due l is (done p end) f =
      then_pair false (sym (ne_eqb x.left 0 (λ z. omega (arith, is, z)))) (due_stop g l is) p end f
      (λ e. due_on g l is (after_item x (i.Pair p end)) (with_pair c p) (omega (arith, is)) (omega (arith, from_next s x.at p end f)) e)
  then_due l is (refused n place) f = due_stop g l is n place (pair_refused rooms s c x.at false n place f)

  module _ (none : x.left ≡ 0) (h : x.at < length s) where
    -- one of a list of that sort
    one_as : (q : Payload) → kind ≡ q → one_of rooms s kind c x.at ≡ one_of rooms s q c x.at
    one_as q is = ap (λ (z : Payload). one_of rooms s z c x.at) is

    then_kv : kind ≡ k.KvList → (r : Answer Pair) → pair_from x.at s ≡ r → Then (item_of i.Pair r) (tests rooms s x c (item_of i.Pair r))
    unfolding tests so_many
    then_kv is (done p end) f =
        then_pair true (sym (eq-eqb x.left 0 none)) (λ n place e. list_stop g none h n place (one_as k.KvList is ∙ e)) p end f
        (λ e.
        let z : 0 ≡ x.left - 1 = omega (arith, none) in
        list_on g none h (after_item x (i.Pair p end)) (with_pair c p) (omega (arith, from_next s x.at p end f))
        (one_as k.KvList is ∙ e ∙ ap (λ (l : ℕ). so_many (one_pair rooms s false) l (with_pair c p) end) z))
    then_kv is (refused n place) f = list_stop g none h n place (one_as k.KvList is ∙ pair_refused rooms s c x.at true n place f)

    then_message : kind ≡ k.Messages → (r : Answer Message) → message_from x.pairs x.at s ≡ r → Then (item_of i.Message r) (tests rooms s x c (item_of i.Message r))
    unfolding tests in_order
    then_message is (done m end) f =
        let n = message_next x.pairs x.at s m end f in
        let there : message_from (length c.pairs) x.at s ≡ done m end = ap (λ (z : ℕ). message_from z x.at s) st.pairs ∙ f in
        ⊎_elim
        (λ l.
        rw (lt-ltb x.messages rooms.messages (omega (arith, st.messages, l))) (
          refl,
          n.0,
          record {
            place = n.1;
            messages = one_more c.messages m ∙ ap (λ (z : ℕ). z + 1) st.messages;
            pairs = st.pairs;
            actions = st.actions;
            few = omega (arith, st.few, n.0);
            run = λ e. kinds_apart (sym is ∙ e);
          },
          list_on g none h (after_item x (i.Message m end)) (with_message c m) n.0 (one_as k.Messages is ∙ message_taken rooms s c x.at m end there l),
        ))
        (λ l. rw (le-ltb x.messages rooms.messages (omega (arith, st.messages, l))) (list_stop g none h 10 end (one_as k.Messages is ∙ message_full rooms s c x.at m end there l)))
        (lt_or_le (length c.messages) rooms.messages)
      where
        kinds_apart : {G : Type 0} → k.Messages ≡ k.KvList → G
        kinds_apart e = let z : ◌≡◌ {A = ℕ} 0 1 = cc in absurd (omega arith)
    then_message is (refused n place) f =
        list_stop g none h n place (one_as k.Messages is ∙ message_refused rooms s c x.at n place (ap (λ (z : ℕ). message_from z x.at s) st.pairs ∙ f))

    then_action : kind ≡ k.Actions → (r : Answer Action) → action_from x.at s ≡ r → Then (item_of i.Action r) (tests rooms s x c (item_of i.Action r))
    unfolding tests in_order so_many
    then_action is (done y end) f =
        let n = action_next s x.at y end f in
        ⊎_elim
        (λ l.
        rw (lt-ltb x.actions rooms.actions (omega (arith, st.actions, l))) (
          refl,
          n.0,
          record {
            place = n.1;
            messages = st.messages;
            pairs = st.pairs;
            actions = one_more c.actions y ∙ ap (λ (z : ℕ). z + 1) st.actions;
            few = omega (arith, st.few, n.0);
            run = λ e. kinds_apart (sym is ∙ e);
          },
          list_on g none h (after_item x (i.Action y end)) (with_action c y) n.0
              (one_as k.Actions is ∙ action_taken rooms s c x.at y end f l ∙ ap (λ (z : ℕ). so_many (one_pair rooms s false) z (with_action c y) end) (sym none)),
        ))
        (λ l. rw (le-ltb x.actions rooms.actions (omega (arith, st.actions, l))) (list_stop g none h 10 end (one_as k.Actions is ∙ action_full rooms s c x.at y end f l)))
        (lt_or_le (length c.actions) rooms.actions)
      where
        kinds_apart : {G : Type 0} → k.Actions ≡ k.KvList → G
        kinds_apart e = let z : ◌≡◌ {A = ℕ} 0 1 = cc in absurd (omega arith)
    then_action is (refused n place) f = list_stop g none h n place (one_as k.Actions is ∙ action_refused rooms s c x.at n place f)

    then_listed : (q : Payload) → kind ≡ q → Then (listed q s x) (tests rooms s x c (listed q s x))
    then_listed k.KvList is = then_kv is (pair_from x.at s) refl
    then_listed k.Messages is = then_message is (message_from x.pairs x.at s) refl
    then_listed k.Actions is = then_action is (action_from x.at s) refl

  -- Law: the reading comes to what the tests of what comes next say.
  pub goes_then : Then (item_at kind s x) (tests rooms s x c (item_at kind s x))
  unfolding tests
  goes_then = go x.left refl
    where
      go : (l : ℕ) → x.left ≡ l → Then (item_at kind s x) (tests rooms s x c (item_at kind s x))
      go zero none =
          ⊎_elim
          (λ h. rw (item_listed kind s x none h) (then_listed none h kind refl))
          (λ h. rw (item_end kind s x none h) (list_end g none h))
          (lt_or_le x.at (length s))
      go (suc l) is = rw (item_due kind s x l is) (then_due l is (pair_from x.at s) refl)

  -- The same by what comes next: a record, of which the tests come out so; the end; or a refusal.
  pub then_on : (item : Item) → one item ≡ item_at kind s x → {t : Answer (Option Cursor)} → t ≡ tests rooms s x c (one item) → Then (one item) t
  then_on item is e = subst (λ (z : Answer (Option Cursor)). Then (one item) z) (sym e) (rw is goes_then)

  pub then_end : no_more ≡ item_at kind s x → a ≡ done c x.at
  unfolding tests
  then_end is = subst (λ (z : Answer (Option Item)). Then z (tests rooms s x c z)) (sym is) goes_then

  pub then_not : (n place : ℕ) → refused n place ≡ item_at kind s x → a ≡ refused n place
  unfolding tests
  then_not n place is = subst (λ (z : Answer (Option Item)). Then z (tests rooms s x c z)) (sym is) goes_then

pub tests_not : (rooms : Counts) (s : List ℕ) (x : Cursor) (c : Contents) (n place : ℕ) → tests rooms s x c (refused n place) ≡ refused n place
unfolding tests
tests_not rooms s x c n place = refl

-- ---- what the tests ask

module _ (kind : Payload) (s : List ℕ) (x : Cursor) where
  -- the key of a pair lies in the bytes
  abbrev KeyIn : Answer (Option Item) → Type 0
  KeyIn (done (Some item) n) = KeyInside s item
  KeyIn (done None n) = Unit
  KeyIn (refused number place) = Unit

  pair_key_in : (r : Answer Pair) → pair_from x.at s ≡ r → KeyIn (item_of i.Pair r)
  pair_key_in (done p end) f = let l = from_lies s x.at p end f in omega (arith, l.key, l.most)
  pair_key_in (refused n place) f = tt

  message_key_in : (r : Answer Message) → KeyIn (item_of i.Message r)
  message_key_in (done m end) = tt
  message_key_in (refused n place) = tt

  action_key_in : (r : Answer Action) → KeyIn (item_of i.Action r)
  action_key_in (done a end) = tt
  action_key_in (refused n place) = tt

  listed_key_in : (q : Payload) → KeyIn (listed q s x)
  listed_key_in k.KvList = pair_key_in (pair_from x.at s) refl
  listed_key_in k.Messages = message_key_in (message_from x.pairs x.at s)
  listed_key_in k.Actions = action_key_in (action_from x.at s)

  pub key_inside : (item : Item) → one item ≡ item_at kind s x → KeyInside s item
  key_inside item is = subst (λ (z : Answer (Option Item)). KeyIn z) (sym is) (go x.left refl)
    where
      go : (l : ℕ) → x.left ≡ l → KeyIn (item_at kind s x)
      go zero none =
          ⊎_elim
          (λ h. rw (item_listed kind s x none h) (listed_key_in kind))
          (λ h. rw (item_end kind s x none h) tt)
          (lt_or_le x.at (length s))
      go (suc l) is = rw (item_due kind s x l is) (pair_key_in (pair_from x.at s) refl)

  message_no_pair : {G : Type 0} (r : Answer Message) (p : Pair) (end : ℕ) → item_of i.Message r ≡ one (i.Pair p end) → G
  message_no_pair (done m n) p end e = let z : ◌≡◌ {A = ℕ} 0 1 = cc in absurd (omega arith)
  message_no_pair (refused m n) p end e = let z : ◌≡◌ {A = ℕ} 0 1 = cc in absurd (omega arith)

  action_no_pair : {G : Type 0} (r : Answer Action) (p : Pair) (end : ℕ) → item_of i.Action r ≡ one (i.Pair p end) → G
  action_no_pair (done a n) p end e = let z : ◌≡◌ {A = ℕ} 0 1 = cc in absurd (omega arith)
  action_no_pair (refused m n) p end e = let z : ◌≡◌ {A = ℕ} 0 1 = cc in absurd (omega arith)

  -- where no argument is due, a pair is one of a KV list
  pub pair_of_kv : (p : Pair) (end : ℕ) → item_at kind s x ≡ one (i.Pair p end) → x.left ≡ 0 → kind ≡ k.KvList
  pair_of_kv p end e none =
      ⊎_elim
      (λ h. go kind refl (sym (item_listed kind s x none h) ∙ e))
      (λ h. let f = sym (item_end kind s x none h) ∙ e in let z : ◌≡◌ {A = ℕ} 0 1 = cc f in absurd (omega arith))
      (lt_or_le x.at (length s))
    where
      go : (q : Payload) → kind ≡ q → listed kind s x ≡ one (i.Pair p end) → kind ≡ k.KvList
      go k.KvList is f = is
      go k.Messages is f = message_no_pair (message_from x.pairs x.at s) p end (ap (λ (z : Payload). listed z s x) (sym is) ∙ f)
      go k.Actions is f = action_no_pair (action_from x.at s) p end (ap (λ (z : Payload). listed z s x) (sym is) ∙ f)

module _ {kind : Payload} {start : ℕ} {s : List ℕ} {x : Cursor} {c : Contents} (st : Stands kind start s x c) where
  -- another of each can be counted
  pub low : length s + 1 < 2 ^ 64 → Low x
  low h =
      record {
        messages = omega (arith, st.few, st.place, h);
        pairs = omega (arith, st.few, st.place, h);
        actions = omega (arith, st.few, st.place, h);
      }

  -- the pairs that a key is sought among
  pub sought : (item : Item) → one item ≡ item_at kind s x → (p : Pair) (end : ℕ) → item ≡ i.Pair p end → x.left ≡ 0 → Run s start c.pairs x.at
  sought item is p end e none = st.run (pair_of_kv kind s x p end (sym is ∙ ap one e) none)

  -- ---- what a pass comes to

  pub passes_done : {rooms : Counts} → payload kind rooms start s ≡ done c x.at → Passes kind rooms start s (Ok x)
  passes_done e = record { says = rw (e, st.messages, st.pairs, st.actions); stood = tt }

  pub passes_refused : {rooms : Counts} (r : Refusal) → tests rooms s x c (item_at kind s x) ≡ refusal_said r → payload kind rooms start s ≡ refusal_said r
      → Passes kind rooms start s (Err (record { refusal = r; cursor = x }))
  passes_refused r t e = record { says = rw e; stood = (c, st, t) }
