-- Laws about payloads that are accepted: one takes all of its bytes, and a refusal lies within them; and what it holds stands in a row, the pairs of a KV list,
-- messages with their arguments, or actions.
use mathlib.Core.Path.{◌≡◌, refl, sym, ap, ◌∙◌}
use mathlib.Core.Bool.{Bool, true, false, not, ◌&&◌}
use mathlib.Core.Logic.{⊎_elim}
use mathlib.Core.List.{List, [], ◌∷◌, ◌++◌, map, append_assoc, append-nil}
use Prim.Native.Nat.{ℕ, ◌+◌, ◌≤◌, ◌<◌}
use native.Mathlib.Omega.{arith}
use lib.Dec.{ltb, leb}
use lib.ListN.{length, take, drop, get_or, length-append, length-drop}
use lib.Seq.{take_at, drop_at}
use borrow.Author.Tests.{lt-ltb, le-ltb, le-leb, lt-leb, leb-true, ltb-true, not-true}
use Rattle.answer.specs.Answer.{Answer, done, refused, behind}
use Rattle.answer.specs.Order.{in_order}
use Rattle.answer.specs.Row.{to_end}
use Rattle.answer.specs.Inner.{InRow}
use Rattle.answer.proofs.Cases.{lt_or_le}
use Rattle.answer.proofs.Each.{Each}
use Rattle.types.specs.Value.{string}
use Rattle.types.specs.declared.Span.{Span}
use Rattle.types.proofs.Reading.{string_accepted, string_place}
use Rattle.frame.specs.declared.Pair.{Pair}
use Rattle.frame.specs.declared.Message.{Message}
use Rattle.frame.specs.declared.Action.{Action}
use Rattle.answer.proofs.Answers.{done_same, line_passed, next_done}
use Rattle.payload.specs.declared.Counts.{Counts}
use Rattle.payload.specs.declared.Payload.{Payload}
use Rattle.payload.specs.declared.Payload.TheVariants as k
use Rattle.payload.specs.Pair.{moved_pair, pair, pair_from}
use Rattle.payload.specs.Action.{action, moved_action, action_from}
use Rattle.payload.specs.Payload.{Contents, empty, with_message, with_pair, with_action, moved_span, string_from, message_of, message_from, met, one_pair, one_message, one_action, one_of, payload}
use Rattle.payload.specs.Promise.{counts_of}
use Rattle.payload.specs.Inner.{Run}
use Rattle.payload.proofs.Pairs.{pair_accepted, pair_place}
use Rattle.payload.proofs.Rows.{from_next, run_on}
use Rattle.payload.proofs.Actions.{action_inside, action_place, action_next}
use Rattle.payload.proofs.Steps.{string_next, message_says, message_next}
use Rattle.payload.proofs.Kept.{Within}
use Rattle.answer.proofs.Answers.{ends}
use Rattle.answer.proofs.Row.{Row, row_as, Found, found_row, puts, many_read, end_read, many_holds, end_holds, next_ends, line_ends, many_ends, end_ends, end_all}

-- ---- one more of each sort

-- a message and its arguments, put in
abbrev pub with_group : Contents → Message × List Pair → Contents
with_group c g = record { messages = c.messages ++ (g.0 ∷ []); pairs = c.pairs ++ g.1; actions = c.actions }

-- A message with its arguments, from a place and behind so many pairs to another place and behind its pairs too.
pub record Group (s : List ℕ) (from : ℕ × ℕ) (g : Message × List Pair) (to : ℕ × ℕ) : Type 0 where
  pub place : ℕ
  pub message : message_from from.1 from.0 s ≡ done g.0 place
  pub many : length g.1 ≡ g.0.count
  pub run : Run s place g.1 to.0
  pub pairs : from.1 + length g.1 ≡ to.1

-- A pair with a key that none of those before it has, from a place and behind these pairs to another place and behind it too.
record Fresh (s : List ℕ) (at : ℕ × List Pair) (p : Pair) (to : ℕ × List Pair) : Type 0 where
  from : pair_from at.0 s ≡ done p to.0
  new : met s at.1 p ≡ false
  more : at.1 ++ (p ∷ []) ≡ to.1

-- No key of these pairs is met before, neither among those before them nor among themselves.
abbrev pub Once : List ℕ → List Pair → List Pair → Type 0
Once s before [] = Unit {0}
Once s before (p ∷ ps) = (met s before p ≡ false) × Once s (before ++ (p ∷ [])) ps

fresh_once : (s : List ℕ) (at : ℕ × List Pair) (ps : List Pair) (to : ℕ × List Pair) → Row (Fresh s) at ps to → Once s at.1 ps
fresh_once s at [] to r = tt
fresh_once s at (p ∷ ps) to r = (r.1.new, rw (sym r.1.more) at (fresh_once s r.0 ps to r.2))

snoc_append : {A : Type 0} (xs : List A) (y : A) (l : List A) → (xs ++ (y ∷ [])) ++ l ≡ xs ++ y ∷ l
snoc_append xs y l = append_assoc xs (y ∷ []) l

-- what is left when pairs, groups or actions were put in
pub put_pairs : (c : Contents) (ps : List Pair) → puts with_pair c ps ≡ record { messages = c.messages; pairs = c.pairs ++ ps; actions = c.actions }
put_pairs c [] = λ i. record { messages = c.messages; pairs = sym (append-nil c.pairs) i; actions = c.actions }
put_pairs c (p ∷ ps) = put_pairs (with_pair c p) ps ∙ (λ i. record { messages = c.messages; pairs = snoc_append c.pairs p ps i; actions = c.actions })

pub put_actions : (c : Contents) (xs : List Action) → puts with_action c xs ≡ record { messages = c.messages; pairs = c.pairs; actions = c.actions ++ xs }
put_actions c [] = λ i. record { messages = c.messages; pairs = c.pairs; actions = sym (append-nil c.actions) i }
put_actions c (x ∷ xs) = put_actions (with_action c x) xs ∙ (λ i. record { messages = c.messages; pairs = c.pairs; actions = snoc_append c.actions x xs i })

-- the pairs of groups, one group after the other
abbrev pub pairs_of : List (Message × List Pair) → List Pair
pairs_of [] = []
pairs_of (g ∷ gs) = g.1 ++ pairs_of gs

abbrev pub messages_of : List (Message × List Pair) → List Message
messages_of gs = map (λ g. g.0) gs

pub put_groups : (c : Contents) (gs : List (Message × List Pair))
    → puts with_group c gs ≡ record { messages = c.messages ++ messages_of gs; pairs = c.pairs ++ pairs_of gs; actions = c.actions }
put_groups c [] = λ i. record { messages = sym (append-nil c.messages) i; pairs = sym (append-nil c.pairs) i; actions = c.actions }
put_groups c (g ∷ gs) =
    put_groups (with_group c g) gs
    ∙ (λ i. record { messages = snoc_append c.messages g.0 (messages_of gs) i; pairs = append_assoc c.pairs g.1 (pairs_of gs) i; actions = c.actions })

module _ (rooms : Counts) (s : List ℕ) where
  -- an accepted one stands at its place, is new where it has to be, had room, and is put in
  record PairSaid (once : Bool) (c : Contents) (at : ℕ) (d : Contents) (end : ℕ) : Type 0 where
    pair : Pair
    from : pair_from at s ≡ done pair end
    new : once && met s c.pairs pair ≡ false
    room : length c.pairs < rooms.pairs
    is : with_pair c pair ≡ d

  pair_said_lem : (once : Bool) (c : Contents) (at : ℕ) (d : Contents) (end : ℕ) → one_pair rooms s once c at ≡ done d end → PairSaid once c at d end
  unfolding one_pair in_order
  pair_said_lem once c at d end e =
      let o = next_done (pair_from at s) _ e in
      let a = line_passed (not (once && met s c.pairs o.0)) _ 9 o.1 o.3 in
      let b = line_passed (ltb (length c.pairs) rooms.pairs) _ 10 o.1 a.1 in
      let q = done_same b.1 in
      record { pair = o.0; from = o.2 ∙ ap (done o.0) q.1; new = not-true _ a.0; room = ltb-true _ _ b.0; is = q.0 }

  argument_said : (c : Contents) (at : ℕ) (d : Contents) (end : ℕ) → one_pair rooms s false c at ≡ done d end → (p : Pair) × Found (λ n. pair_from n s) at p end × (with_pair c p ≡ d)
  argument_said c at d end e = let t = pair_said_lem false c at d end e in (t.pair, t.from, t.is)

  -- a pair with a new key, from a place and behind these pairs to another place and behind it too
  fresh_said : (c : Contents) (at : ℕ) (d : Contents) (end : ℕ) → one_pair rooms s true c at ≡ done d end
      → (p : Pair) × Fresh s (at, c.pairs) p (end, d.pairs) × (with_pair c p ≡ d)
  fresh_said c at d end e =
      let t = pair_said_lem true c at d end e in (t.pair, record { from = t.from; new = t.new; more = ap (λ (x : Contents). x.pairs) t.is }, t.is)

  action_said_lem : (c : Contents) (at : ℕ) (d : Contents) (end : ℕ) → one_action rooms s c at ≡ done d end
      → (x : Action) × Found (λ n. action_from n s) at x end × (with_action c x ≡ d)
  unfolding one_action in_order
  action_said_lem c at d end e =
      let o = next_done (action_from at s) _ e in
      let b = line_passed (ltb (length c.actions) rooms.actions) _ 10 o.1 o.3 in
      let q = done_same b.1 in
      (o.0, o.2 ∙ ap (done o.0) q.1, q.0)

  message_said : (c : Contents) (at : ℕ) (d : Contents) (end : ℕ) → one_message rooms s c at ≡ done d end
      → (g : Message × List Pair) × Group s (at, length c.pairs) g (end, length d.pairs) × (with_group c g ≡ d)
  unfolding one_message in_order
  message_said c at d end e =
      let o = next_done (message_from (length c.pairs) at s) _ e in
      let b = line_passed (ltb (length c.messages) rooms.messages) _ 10 o.1 o.3 in
      let r = many_read (one_pair rooms s false) with_pair (Found (λ n. pair_from n s)) (λ d n. n) argument_said o.0.count (with_message c o.0) o.1 d end b.1 in
      let ps = r.0.these in
      let is : with_group c (o.0, ps) ≡ d = sym (put_pairs (with_message c o.0) ps) ∙ r.0.is in (
        (o.0, ps),
        record {
          place = o.1;
          message = o.2;
          many = r.1;
          run = found_row (λ n. pair_from n s) o.1 ps end r.0.row;
          pairs = sym (length-append c.pairs ps) ∙ ap (λ (x : Contents). length x.pairs) is;
        },
        is,
      )

-- ---- what each kind holds

module _ (kind : Payload) (rooms : Counts) (start : ℕ) (s : List ℕ) (c : Contents) (end : ℕ) (e : payload kind rooms start s ≡ done c end) where
  -- Law: an accepted payload starts within the bytes, and is read to their end.
  pub payload_start : (start ≤ length s) × (to_end (one_of rooms s kind) (length s) (length s) empty start ≡ done c end)
  unfolding payload in_order
  payload_start = let o = line_passed (leb start (length s)) _ 3 (length s) e in (leb-true start (length s) o.0, o.1)

pub record KvHeld (s : List ℕ) (start : ℕ) (c : Contents) (end : ℕ) : Type 0 where
  pub run : Run s start c.pairs end
  pub once : Once s [] c.pairs
  pub messages : c.messages ≡ []
  pub actions : c.actions ≡ []

pub record ActionsHeld (s : List ℕ) (start : ℕ) (c : Contents) (end : ℕ) : Type 0 where
  pub run : InRow (λ n. action_from n s) start c.actions end
  pub messages : c.messages ≡ []
  pub pairs : c.pairs ≡ []

pub record MessagesHeld (s : List ℕ) (start : ℕ) (c : Contents) (end : ℕ) : Type 0 where
  pub groups : List (Message × List Pair)
  pub run : Row (Group s) (start, 0) groups (end, length c.pairs)
  pub messages : c.messages ≡ messages_of groups
  pub pairs : c.pairs ≡ pairs_of groups
  pub actions : c.actions ≡ []

module _ (rooms : Counts) (start : ℕ) (s : List ℕ) (c : Contents) (end : ℕ) where
  -- Law: the pairs of a KV list stand in a row, no key is met twice, and it has nothing else.
  pub kv_run : payload k.KvList rooms start s ≡ done c end → KvHeld s start c end
  kv_run e =
      let r = end_read (one_pair rooms s true) with_pair (Fresh s) (λ d n. (n, d.pairs)) (fresh_said rooms s) (length s) (length s) empty start c end (payload_start k.KvList rooms start s c end e).1 in
      let run = row_as (Found (λ n. pair_from n s)) (λ (x : ℕ × List Pair). x.0) (λ x p y f. f.from) (start, []) r.these (end, c.pairs) r.row in
      let is = sym (put_pairs empty r.these) ∙ r.is in
      rw (sym is) (record { run = found_row (λ n. pair_from n s) start r.these end run; once = fresh_once s (start, []) r.these (end, c.pairs) r.row; messages = refl; actions = refl })

  -- Law: so do the actions of a list of them.
  pub actions_run : payload k.Actions rooms start s ≡ done c end → ActionsHeld s start c end
  actions_run e =
      let r = end_read (one_action rooms s) with_action (Found (λ n. action_from n s)) (λ d n. n) (action_said_lem rooms s) (length s) (length s) empty start c end (payload_start k.Actions rooms start s c end e).1 in
      let is = sym (put_actions empty r.these) ∙ r.is in
      rw (sym is) (record { run = found_row (λ n. action_from n s) start r.these end r.row; messages = refl; pairs = refl })

  -- Law: so do messages, each with its arguments.
  pub messages_run : payload k.Messages rooms start s ≡ done c end → MessagesHeld s start c end
  messages_run e =
      let r = end_read (one_message rooms s) with_group (Group s) (λ d n. (n, length d.pairs)) (message_said rooms s) (length s) (length s) empty start c end (payload_start k.Messages rooms start s c end e).1 in
      let is = sym (put_groups empty r.these) ∙ r.is in
      record {
        groups = r.these;
        run = r.row;
        messages = ap (λ (x : Contents). x.messages) (sym is);
        pairs = ap (λ (x : Contents). x.pairs) (sym is);
        actions = ap (λ (x : Contents). x.actions) (sym is);
      }

-- ---- each message by itself

-- which pairs a message's arguments are
abbrev pub arguments_in : List Pair → Message → List Pair
arguments_in ps m = take m.count (drop m.first ps)

-- They are there, and stand in a row behind its count byte.
pub record Whole (s : List ℕ) (ps : List Pair) (m : Message) : Type 0 where
  pub within : m.first + m.count ≤ length ps
  pub inside : m.start + m.len + 1 ≤ length s
  pub last : ℕ
  pub run : Run s (m.start + m.len + 1) (arguments_in ps m) last

groups_whole : (s : List ℕ) (front : List Pair) (from : ℕ × ℕ) (gs : List (Message × List Pair)) (to : ℕ × ℕ) → Row (Group s) from gs to → length front ≡ from.1
    → Each (Whole s (front ++ pairs_of gs)) (messages_of gs)
groups_whole s front from [] to r is = tt
groups_whole s front from (g ∷ gs) to r is =
    let x = r.1 in
    let m = g.0 in
    let n = message_says from.1 from.0 s m x.place x.message in
    let w = string_next s from.0 m.start m.len n.place n.name in
    let behind : m.start + m.len + 1 ≡ x.place = omega (arith, n.ends) in
    let first : m.first ≡ length front = n.is_first ∙ sym is in
    let here : arguments_in (front ++ (g.1 ++ pairs_of gs)) m ≡ g.1 =
    ap (λ (i : ℕ). take m.count (drop i (front ++ (g.1 ++ pairs_of gs)))) first
    ∙ ap (take m.count) (drop_at front (g.1 ++ pairs_of gs) (length front) refl)
    ∙ take_at g.1 (pairs_of gs) m.count x.many in
    let both = length-append front g.1 in (
      record {
        within = omega (arith, length-append front (g.1 ++ pairs_of gs), length-append g.1 (pairs_of gs), x.many);
        inside = omega (arith, n.byte, n.ends);
        last = r.0.0;
        run = rw (here, behind) x.run;
      },
      rw (append_assoc front g.1 (pairs_of gs)) at (groups_whole s (front ++ g.1) r.0 gs to r.2 (omega (arith, x.pairs))),
    )

-- Law: so it is with each message of an accepted payload.
pub messages_whole : (s : List ℕ) (start : ℕ) (c : Contents) (end : ℕ) → MessagesHeld s start c end → Each (Whole s c.pairs) c.messages
messages_whole s start c end h = rw (h.messages, h.pairs) (groups_whole s [] (start, 0) h.groups (end, length c.pairs) h.run refl)

-- ---- where it ends

within : {A : Type 0} (last : ℕ) (a : Answer A) → ((x : A) (end : ℕ) → a ≡ done x end → end ≤ last) → ((number place : ℕ) → a ≡ refused number place → place ≤ last) → ends a ≤ last
within last (done x end) f g = f x end refl
within last (refused number place) f g = g number place refl

-- what is read at a place
from_within : {A : Type 0} (moved : ℕ → A → A) (a : Answer A) (s : List ℕ) (at : ℕ) → at ≤ length s → ends a ≤ length (drop at s) → ends (behind moved at a) ≤ length s
from_within moved (done x used) s at h l = omega (arith, length-drop at s)
from_within moved (refused number place) s at h l = omega (arith, length-drop at s)

module _ (rooms : Counts) (s : List ℕ) where
  string_within : (t : List ℕ) → ends (string t) ≤ length t
  string_within t = within (length t) (string t) by_span (string_place t)
    where
      by_span : (x : Span) (end : ℕ) → string t ≡ done x end → end ≤ length t
      by_span x end e = (string_accepted t x.start x.len end e).1

  pair_within : (once : Bool) (c : Contents) (at : ℕ) → at ≤ length s → ends (one_pair rooms s once c at) ≤ length s
  unfolding one_pair in_order
  pair_within once c at h =
      next_ends (length s) (pair_from at s) _
      (from_within moved_pair (pair (drop at s)) s at h (within (length (drop at s)) (pair (drop at s)) (λ p used e. (pair_accepted (drop at s) p used e).most) (pair_place (drop at s))))
      (λ p end e.
      let n = (from_next s at p end e).2 in
      line_ends (length s) (not (once && met s c.pairs p)) _ 9 end n (line_ends (length s) (ltb (length c.pairs) rooms.pairs) (done (with_pair c p) end) 10 end n n))

  action_within : (c : Contents) (at : ℕ) → at ≤ length s → ends (one_action rooms s c at) ≤ length s
  unfolding one_action in_order
  action_within c at h =
      next_ends (length s) (action_from at s) _
      (from_within moved_action (action (drop at s)) s at h (within (length (drop at s)) (action (drop at s)) (λ x used e. (action_inside (drop at s) x used e).most) (action_place (drop at s))))
      (λ x end e. let n = (action_next s at x end e).1 in line_ends (length s) (ltb (length c.actions) rooms.actions) (done (with_action c x) end) 10 end n n)

  name_within : (first at : ℕ) → at ≤ length s → ends (message_from first at s) ≤ length s
  unfolding message_from in_order
  name_within first at h =
      next_ends (length s) (string_from at s) _ (from_within moved_span (string (drop at s)) s at h (string_within (drop at s))) by_name
    where
      by_name : (name : Span) (end : ℕ) → string_from at s ≡ done name end → ends (in_order ((refused 3 end, ltb end (length s)) ∷ []) (done (message_of name first (get_or s end 0)) (end + 1))) ≤ length s
      by_name x end e =
          ⊎_elim (λ l. rw (lt-ltb end (length s) l) (omega arith)) (λ l. rw (le-ltb end (length s) l) (string_next s at x.start x.len end e).1) (lt_or_le end (length s))

  message_within : (c : Contents) (at : ℕ) → at ≤ length s → ends (one_message rooms s c at) ≤ length s
  unfolding one_message in_order
  message_within c at h =
      next_ends (length s) (message_from (length c.pairs) at s) _ (name_within (length c.pairs) at h)
      (λ m end e.
      let n = (message_next (length c.pairs) at s m end e).1 in
      line_ends (length s) (ltb (length c.messages) rooms.messages) _ 10 end n (many_ends (one_pair rooms s false) (length s) (pair_within false) m.count (with_message c m) end n))

  one_within : (kind : Payload) (c : Contents) (at : ℕ) → at ≤ length s → ends (one_of rooms s kind c at) ≤ length s
  one_within k.KvList c at h = pair_within true c at h
  one_within k.Messages c at h = message_within c at h
  one_within k.Actions c at h = action_within c at h

  -- each takes a byte at least
  one_on : (kind : Payload) (c : Contents) (at : ℕ) (d : Contents) (end : ℕ) → one_of rooms s kind c at ≡ done d end → at < end
  one_on k.KvList c at d end e = let o = pair_said_lem rooms s true c at d end e in omega (arith, from_next s at o.pair end o.from)
  one_on k.Messages c at d end e =
      let o = message_said rooms s c at d end e in
      omega (arith, message_next (length c.pairs) at s o.0.0 o.1.place o.1.message, run_on s o.1.place o.0.1 end o.1.run)
  one_on k.Actions c at d end e = let o = action_said_lem rooms s c at d end e in (action_next s at o.0 end o.1).0

module _ (kind : Payload) (rooms : Counts) (start : ℕ) (s : List ℕ) where
  -- Law: a payload takes no more bytes than are there, and is refused at a place within them, their end included.
  pub payload_ends : ends (payload kind rooms start s) ≤ length s
  unfolding payload in_order
  payload_ends =
      ⊎_elim (λ h. rw (lt-leb start (length s) h) (omega arith))
      (λ h. rw (le-leb start (length s) h) (end_ends (one_of rooms s kind) (length s) (one_within rooms s kind) (length s) empty start h))
      (lt_or_le (length s) start)

  -- Law: an accepted payload takes all of its bytes.
  pub payload_all : (c : Contents) (end : ℕ) → payload kind rooms start s ≡ done c end → end ≡ length s
  payload_all c end e =
      let o = payload_start kind rooms start s c end e in
      end_all (one_of rooms s kind) (length s) (one_within rooms s kind) (one_on rooms s kind) (length s) empty start c end o.1 o.0 (omega arith)

-- ---- room

-- what was read has no more records than there is room for
abbrev Fit : Counts → Contents → Type 0
Fit rooms c = Within (counts_of c) rooms

module _ (rooms : Counts) (s : List ℕ) where
  one_more : {A : Type 0} (xs : List A) (x : A) (n : ℕ) → length xs < n → length (xs ++ (x ∷ [])) ≤ n
  one_more xs x n h = omega (arith, length-append xs (x ∷ []))

  pair_fit : (once : Bool) (c : Contents) (at : ℕ) (d : Contents) (end : ℕ) → one_pair rooms s once c at ≡ done d end → Fit rooms c → Fit rooms d
  pair_fit once c at d end e f =
      let t = pair_said_lem rooms s once c at d end e in
      rw (sym t.is) (record { messages = f.messages; pairs = one_more c.pairs t.pair rooms.pairs t.room; actions = f.actions })

  message_fit : (c : Contents) (at : ℕ) (d : Contents) (end : ℕ) → one_message rooms s c at ≡ done d end → Fit rooms c → Fit rooms d
  unfolding one_message in_order
  message_fit c at d end e f =
      let o = next_done (message_from (length c.pairs) at s) _ e in
      let b = line_passed (ltb (length c.messages) rooms.messages) _ 10 o.1 o.3 in
      many_holds (one_pair rooms s false) (λ x n. Fit rooms x) (pair_fit false) o.0.count (with_message c o.0) o.1 d end b.1
      (record { messages = one_more c.messages o.0 rooms.messages (ltb-true _ _ b.0); pairs = f.pairs; actions = f.actions })

  action_fit : (c : Contents) (at : ℕ) (d : Contents) (end : ℕ) → one_action rooms s c at ≡ done d end → Fit rooms c → Fit rooms d
  unfolding one_action in_order
  action_fit c at d end e f =
      let o = next_done (action_from at s) _ e in
      let b = line_passed (ltb (length c.actions) rooms.actions) _ 10 o.1 o.3 in
      rw (sym (done_same b.1).0) (record { messages = f.messages; pairs = f.pairs; actions = one_more c.actions o.0 rooms.actions (ltb-true _ _ b.0) })

  one_fit : (kind : Payload) (c : Contents) (at : ℕ) (d : Contents) (end : ℕ) → one_of rooms s kind c at ≡ done d end → Fit rooms c → Fit rooms d
  one_fit k.KvList c at d end e f = pair_fit true c at d end e f
  one_fit k.Messages c at d end e f = message_fit c at d end e f
  one_fit k.Actions c at d end e f = action_fit c at d end e f

-- Law: so it is with every accepted payload.
pub payload_fit : (kind : Payload) (rooms : Counts) (start : ℕ) (s : List ℕ) (c : Contents) (end : ℕ) → payload kind rooms start s ≡ done c end → Within (counts_of c) rooms
payload_fit kind rooms start s c end e =
    end_holds (one_of rooms s kind) (λ x n. Fit rooms x) (one_fit rooms s kind) (length s) (length s) empty start c end (payload_start kind rooms start s c end e).1
    (record { messages = omega arith; pairs = omega arith; actions = omega arith })
