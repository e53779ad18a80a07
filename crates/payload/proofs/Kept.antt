-- What larger tables keep: an accepted payload, and every refusal but 10, which goes by the one table that was full.
use mathlib.Core.Path.{◌≡◌, refl, sym, ◌∙◌}
use mathlib.Core.Bool.{Bool, true, false, cond, not, ◌&&◌}
use mathlib.Core.List.{List}
use Prim.Native.Nat.{ℕ, ◌≤◌, ◌<◌}
use native.Mathlib.Omega.{arith}
use lib.Dec.{ltb, leb}
use lib.ListN.{length}
use borrow.Author.Tests.{lt-ltb, ltb-true}
use Rattle.answer.specs.Answer.{Answer, done, refused, next}
use Rattle.answer.specs.Order.{in_order}
use Rattle.answer.specs.Row.{so_many}
use Rattle.answer.proofs.Cases.{bool_cases}
use Rattle.payload.specs.declared.Counts.{Counts}
use Rattle.payload.specs.declared.Payload.{Payload}
use Rattle.payload.specs.declared.Payload.TheVariants as k
use Rattle.payload.specs.Pair.{pair_from}
use Rattle.payload.specs.Action.{action_from}
use Rattle.payload.specs.Payload.{Contents, empty, with_message, with_pair, with_action, message_from, met, one_pair, one_message, one_action, one_of, payload}
use Rattle.answer.proofs.Row.{KeptAs, kept_done, kept_refused, kept_same, kept_next, many_kept, end_kept}

-- the tables that a payload's records go into
pub data Table : Payload → Type 0 where
  pairs : Table k.KvList
  messages : Table k.Messages
  arguments : Table k.Messages
  actions : Table k.Actions

-- how many records one of them has room for
abbrev pub room : {kind : Payload} → Table kind → Counts → ℕ
room pairs rooms = rooms.pairs
room messages rooms = rooms.messages
room arguments rooms = rooms.pairs
room actions rooms = rooms.actions

-- a payload's first table
pub table : (kind : Payload) → Table kind
table k.KvList = pairs
table k.Messages = messages
table k.Actions = actions

-- no more of each
pub record Within (a b : Counts) : Type 0 where
  pub messages : a.messages ≤ b.messages
  pub pairs : a.pairs ≤ b.pairs
  pub actions : a.actions ≤ b.actions

-- tables no smaller with which a refusal stays, a 10 for one table only where that one has the same room
pub record Stays {kind : Payload} (rooms : Counts) (t : Table kind) (number : ℕ) (others : Counts) : Type 0 where
  pub larger : Within rooms others
  pub full : number ≡ 10 → room t rooms ≡ room t others

room_grows : {kind : Payload} (t : Table kind) (rooms others : Counts) → Within rooms others → room t rooms ≤ room t others
room_grows pairs rooms others l = l.pairs
room_grows messages rooms others l = l.messages
room_grows arguments rooms others l = l.pairs
room_grows actions rooms others l = l.actions

module _ (kind : Payload) (rooms : Counts) where
  abbrev KeepsAs : {A : Type 0} → (Counts → Answer A) → Answer A → Type 0
  KeepsAs f a = KeptAs {T = Table kind} rooms (Within rooms) (Stays rooms) f a

  -- An answer that goes by the rooms is kept.
  abbrev pub Keeps : {A : Type 0} → (Counts → Answer A) → Type 0
  Keeps f = KeepsAs f (f rooms)

  larger : (t : Table kind) (number : ℕ) (others : Counts) → Stays rooms t number others → Within rooms others
  larger t number others s = s.larger

  pub same_keeps : {A : Type 0} (a : Answer A) → Keeps (λ y. a)
  same_keeps a = kept_same rooms (Within rooms) (Stays rooms) larger (table kind) a

  pub next_keeps : {A B : Type 0} (f : Counts → Answer A) (g : Counts → A → ℕ → Answer B) → Keeps f → ((d : A) (end : ℕ) → f rooms ≡ done d end → Keeps (λ y. g y d end))
      → Keeps (λ y. next (f y) (g y))
  next_keeps f g j each = kept_next rooms (Within rooms) (Stays rooms) larger f g j each

  -- behind a test for room
  room_keeps : {A : Type 0} (t : Table kind) (r : Counts → ℕ) → ((y : Counts) → room t y ≡ r y) → (n end : ℕ) (g : Counts → Answer A) → Keeps g
      → Keeps (λ y. cond (ltb n (r y)) (g y) (refused 10 end))
  room_keeps {A} t r is n end g j =
      bool_cases (ltb n (r rooms))
      (λ b. rw b (by_answer (ltb-true n (r rooms) b) (g rooms) j))
      (λ b. rw b (t, λ y s. rw (sym (sym (is rooms) ∙ s.full refl ∙ is y), b)))
    where
      test : n < r rooms → (y : Counts) → Within rooms y → ltb n (r y) ≡ true
      test h y l = lt-ltb n (r y) (omega (arith, h, room_grows t rooms y l, is rooms, is y))

      by_answer : n < r rooms → (a : Answer A) → KeepsAs g a → KeepsAs (λ y. cond (ltb n (r y)) (g y) (refused 10 end)) a
      by_answer h (done d e) j = λ y l. rw (test h y l) (j y l)
      by_answer h (refused number place) j = (j.0, λ y s. rw (test h y s.larger) (j.1 y s))

  module _ (s : List ℕ) where
    pair_keeps : (t : Table kind) → ((y : Counts) → room t y ≡ y.pairs) → (once : Bool) (c : Contents) (at : ℕ) → Keeps (λ y. one_pair y s once c at)
    unfolding one_pair in_order
    pair_keeps t is once c at =
        next_keeps (λ y. pair_from at s)
        (λ y p end. cond (not (once && met s c.pairs p)) (cond (ltb (length c.pairs) y.pairs) (done (with_pair c p) end) (refused 10 end)) (refused 9 end))
        (same_keeps (pair_from at s))
        (λ p end e.
        bool_cases (not (once && met s c.pairs p))
        (λ b. rw b (room_keeps t (λ y. y.pairs) is (length c.pairs) end (λ y. done (with_pair c p) end) (same_keeps (done (with_pair c p) end))))
        (λ b. rw b (same_keeps (refused 9 end))))

    message_keeps : (t a : Table kind) → ((y : Counts) → room t y ≡ y.messages) → ((y : Counts) → room a y ≡ y.pairs) → (c : Contents) (at : ℕ) → Keeps (λ y. one_message y s c at)
    unfolding one_message in_order
    message_keeps t a is arg c at =
        next_keeps (λ y. message_from (length c.pairs) at s)
        (λ y m end. cond (ltb (length c.messages) y.messages) (so_many (one_pair y s false) m.count (with_message c m) end) (refused 10 end))
        (same_keeps (message_from (length c.pairs) at s))
        (λ m end e.
        room_keeps t (λ y. y.messages) is (length c.messages) end (λ y. so_many (one_pair y s false) m.count (with_message c m) end)
        (many_kept rooms (Within rooms) (Stays rooms) larger t (λ y. one_pair y s false) (λ d place. pair_keeps a arg false d place) m.count (with_message c m) end))

    action_keeps : (t : Table kind) → ((y : Counts) → room t y ≡ y.actions) → (c : Contents) (at : ℕ) → Keeps (λ y. one_action y s c at)
    unfolding one_action in_order
    action_keeps t is c at =
        next_keeps (λ y. action_from at s) (λ y x end. cond (ltb (length c.actions) y.actions) (done (with_action c x) end) (refused 10 end))
        (same_keeps (action_from at s))
        (λ x end e. room_keeps t (λ y. y.actions) is (length c.actions) end (λ y. done (with_action c x) end) (same_keeps (done (with_action c x) end)))

one_keeps : (kind : Payload) (rooms : Counts) (s : List ℕ) (c : Contents) (at : ℕ) → Keeps kind rooms (λ y. one_of y s kind c at)
one_keeps k.KvList rooms s c at = pair_keeps k.KvList rooms s pairs (λ y. refl) true c at
one_keeps k.Messages rooms s c at = message_keeps k.Messages rooms s messages arguments (λ y. refl) (λ y. refl) c at
one_keeps k.Actions rooms s c at = action_keeps k.Actions rooms s actions (λ y. refl) c at

module _ (kind : Payload) (rooms : Counts) (start : ℕ) (s : List ℕ) where
  -- Law: a payload is kept, wherever it stands.
  pub payload_keeps : Keeps kind rooms (λ y. payload kind y start s)
  unfolding payload in_order
  payload_keeps =
      bool_cases (leb start (length s))
      (λ b. rw b (end_kept rooms (Within rooms) (Stays rooms) (larger kind rooms) (table kind) (λ y. one_of y s kind) (one_keeps kind rooms s) (length s) (length s) empty start))
      (λ b. rw b (same_keeps kind rooms (refused 3 (length s))))

  -- Law: so larger tables keep an accepted payload; and a refusal's number and place, for a 10 where the one table that was full has the same room.
  pub payload_kept : (c : Contents) (end : ℕ) → payload kind rooms start s ≡ done c end → (others : Counts) → Within rooms others → payload kind others start s ≡ done c end
  payload_kept = kept_done {T = Table kind} rooms (Within rooms) (Stays rooms) (λ y. payload kind y start s) payload_keeps

  pub payload_refusal_kept : (number place : ℕ) → payload kind rooms start s ≡ refused number place
      → (t : Table kind) × ((others : Counts) → Stays rooms t number others → payload kind others start s ≡ refused number place)
  payload_refusal_kept = kept_refused rooms (Within rooms) (Stays rooms) (λ y. payload kind y start s) payload_keeps
