-- The listing loses nothing but values' flags, which no line shows: frames with the same lines have the same type, ids and records, whichever side sent them.
use mathlib.Core.Path.{◌≡◌, refl, sym, ap, ap₂, ◌∙◌}
use mathlib.Core.List.{List, [], ◌∷◌, ◌++◌, append_assoc, head-eq_of_cons-eq, map}
use Prim.Native.Nat.{ℕ, zero, suc, ◌+◌, ◌<◌}
use native.Mathlib.Omega.{arith}
use lib.ListN.{length, take, drop, drop_of_length-le}
use Rattle.answer.specs.Answer.{done}
use Rattle.answer.proofs.Each.{Each, each_on}
use Rattle.frame.specs.declared.Head.{Head}
use Rattle.frame.specs.declared.Pair.{Pair}
use Rattle.frame.specs.declared.Message.{Message}
use Rattle.frame.specs.declared.Action.{Action}
use Rattle.frame.specs.Read.{Sender}
use Rattle.payload.specs.declared.Counts.{Counts}
use Rattle.payload.specs.Payload.{Contents}
use Rattle.parser.specs.Frame.{framed}
use Rattle.listing.specs.Lines.{filled, frame_line, message_line, pair_line, action_line, end_line}
use Rattle.listing.proofs.Frames.{pair_lines, item_lines, action_lines, frame_lines}
use Rattle.listing.proofs.Accepted.{Whole, Acts, whole_held}
use Rattle.listing.proofs.Apart.{message_means, pair_means, action_means, Fields, Lined, frame_apart, message_apart, pair_apart, action_apart, message_starts, pair_starts, action_starts}

-- ---- what follows

-- no line that starts with this letter
abbrev pub NotFrom : ℕ → List ℕ → Type 0
NotFrom letter [] = Unit
NotFrom letter (b ∷ t) = b ≡ letter → ⊥

-- neither a message's line nor a pair's; and no action's either
abbrev pub NoItem : List ℕ → Type 0
NoItem u = NotFrom 109 u × NotFrom 112 u

abbrev pub Over : List ℕ → Type 0
Over u = NoItem u × NotFrom 97 u

not_start : {letter : ℕ} {l u : List ℕ} → (t : List ℕ) × (l ≡ letter ∷ t) → (t : List ℕ) → NotFrom letter u → u ≡ l ++ t → ⊥
not_start s t h e = (rw (e, s.1) at h) refl

-- ---- lists of one kind

-- Each record has a line that starts with this letter, and what stands behind the list does not.
module _ {A M : Type 0} (P : A → Type 0) (letter : ℕ) (line : ℕ → List ℕ → A → List ℕ) (lines : List ℕ → ℕ → List A → List ℕ) (means : List ℕ → A → M)
    (none : (i : ℕ) (h u : List ℕ) → lines h i [] ++ u ≡ u)
    (on : (i : ℕ) (h : List ℕ) (x : A) (xs : List A) (u : List ℕ) → lines h i (x ∷ xs) ++ u ≡ line i h x ++ (lines h (suc i) xs ++ u))
    (one : (i : ℕ) (f g : List ℕ) (x y : A) (u v : List ℕ) → P x → P y → line i f x ++ u ≡ line i g y ++ v → (means f x ≡ means g y) × (u ≡ v))
    (starts : (i : ℕ) (f : List ℕ) (x : A) → (t : List ℕ) × (line i f x ≡ letter ∷ t)) (f g : List ℕ) where
  -- Law: lists with the same lines mean the same, one by one, and the same follows them.
  list_apart : (i : ℕ) (xs ys : List A) (u v : List ℕ) → Each P xs → Each P ys → NotFrom letter u → NotFrom letter v → lines f i xs ++ u ≡ lines g i ys ++ v
      → (map (means f) xs ≡ map (means g) ys) × (u ≡ v)
  list_apart i [] [] u v h l x y e = (refl, sym (none i f u) ∙ e ∙ none i g v)
  list_apart i [] (q ∷ qs) u v h l x y e = absurd (not_start (starts i g q) _ x (sym (none i f u) ∙ e ∙ on i g q qs v))
  list_apart i (p ∷ ps) [] u v h l x y e = absurd (not_start (starts i f p) _ y (sym (none i g v) ∙ sym e ∙ on i f p ps u))
  list_apart i (p ∷ ps) (q ∷ qs) u v h l x y e =
      let o = one i f g p q _ _ h.0 l.0 (sym (on i f p ps u) ∙ e ∙ on i g q qs v) in
      let r = list_apart (suc i) ps qs u v h.1 l.1 x y o.1 in
      (ap₂ ◌∷◌ o.0 r.0, r.1)

-- ---- pairs

pairs_on : (i : ℕ) (h : List ℕ) (p : Pair) (ps : List Pair) (u : List ℕ) → pair_lines h i (p ∷ ps) ++ u ≡ pair_line i h p ++ (pair_lines h (suc i) ps ++ u)
unfolding pair_lines
pairs_on i h p ps u = append_assoc (pair_line i h p) (pair_lines h (suc i) ps) u

pairs_none : (i : ℕ) (h u : List ℕ) → pair_lines h i [] ++ u ≡ u
unfolding pair_lines
pairs_none i h u = refl

module _ (f g : List ℕ) where
  -- of as many pairs as a message counts, where nothing behind them is a pair's line unless they are all there
  run_apart : (n i : ℕ) (ps qs : List Pair) (u v : List ℕ) → Each Fields ps → Each Fields qs
      → (length ps < n → NotFrom 112 u) → (length qs < n → NotFrom 112 v)
      → pair_lines f i (take n ps) ++ u ≡ pair_lines g i (take n qs) ++ v
      → (map (pair_means f) (take n ps) ≡ map (pair_means g) (take n qs)) × (u ≡ v)
  run_apart zero i ps qs u v h l x y e = (refl, sym (pairs_none i f u) ∙ e ∙ pairs_none i g v)
  run_apart (suc n) i [] [] u v h l x y e = (refl, sym (pairs_none i f u) ∙ e ∙ pairs_none i g v)
  run_apart (suc n) i [] (q ∷ qs) u v h l x y e =
      absurd (not_start (pair_starts i g q) _ (x (omega arith)) (sym (pairs_none i f u) ∙ e ∙ pairs_on i g q (take n qs) v))
  run_apart (suc n) i (p ∷ ps) [] u v h l x y e =
      absurd (not_start (pair_starts i f p) _ (y (omega arith)) (sym (pairs_none i g v) ∙ sym e ∙ pairs_on i f p (take n ps) u))
  run_apart (suc n) i (p ∷ ps) (q ∷ qs) u v h l x y e =
      let o = pair_apart i f g p q _ _ h.0 l.0 (sym (pairs_on i f p (take n ps) u) ∙ e ∙ pairs_on i g q (take n qs) v) in
      let r = run_apart n (suc i) ps qs u v h.1 l.1 (λ a. x (omega arith)) (λ a. y (omega arith)) o.1 in
      (ap₂ ◌∷◌ o.0 r.0, r.1)

  -- of all that are left
  pairs_apart : (i : ℕ) (ps qs : List Pair) (u v : List ℕ) → Each Fields ps → Each Fields qs → NotFrom 112 u → NotFrom 112 v
      → pair_lines f i ps ++ u ≡ pair_lines g i qs ++ v → (map (pair_means f) ps ≡ map (pair_means g) qs) × (u ≡ v)
  pairs_apart = list_apart Fields 112 pair_line pair_lines pair_means pairs_none pairs_on pair_apart pair_starts f g

-- ---- messages and pairs

each_drop : {A : Type 0} (P : A → Type 0) (n : ℕ) (xs : List A) → Each P xs → Each P (drop n xs)
each_drop P zero xs e = e
each_drop P (suc n) [] e = tt
each_drop P (suc n) (x ∷ xs) e = each_drop P n xs e.1

map_parts : {A B : Type 0} (h : A → B) (n : ℕ) (xs : List A) → map h xs ≡ map h (take n xs) ++ map h (drop n xs)
map_parts h zero xs = refl
map_parts h (suc n) [] = refl
map_parts h (suc n) (x ∷ xs) = ap (λ l. h x ∷ l) (map_parts h n xs)

short_none : {A : Type 0} (n : ℕ) (xs : List A) → length xs < n → drop n xs ≡ []
short_none n xs h = drop_of_length-le xs {i = n} (omega arith)

module _ (i k : ℕ) (h u : List ℕ) where
  items_none : (ps : List Pair) → item_lines h i k [] ps ++ u ≡ pair_lines h k ps ++ u
  unfolding item_lines
  items_none ps = refl

  items_on : (m : Message) (ms : List Message) (ps : List Pair)
      → item_lines h i k (m ∷ ms) ps ++ u
      ≡ message_line i h m ++ (pair_lines h k (take m.count ps) ++ (item_lines h (suc i) (k + m.count) ms (drop m.count ps) ++ u))
  unfolding item_lines
  items_on m ms ps =
      let pairs = pair_lines h k (take m.count ps) in
      let rest = item_lines h (suc i) (k + m.count) ms (drop m.count ps) in
      append_assoc (message_line i h m) (pairs ++ rest) u ∙ ap (λ (l : List ℕ). message_line i h m ++ l) (append_assoc pairs rest u)

  -- where no pair is left, no pair's line is
  items_no_pair : NoItem u → (ms : List Message) → NotFrom 112 (item_lines h i k ms [] ++ u)
  items_no_pair o [] = rw (items_none []) (rw (pairs_none k h u) o.1)
  items_no_pair o (m ∷ ms) = rw (items_on m ms [], (message_starts i h m).1) (λ z. omega arith)

  -- pairs' lines and what follows them do not start as a message's line
  not_message : {G : Type 0} → NoItem u → (ps : List Pair) (j : ℕ) (g : List ℕ) (m : Message) (t : List ℕ) → pair_lines h k ps ++ u ≡ message_line j g m ++ t → G
  not_message o [] j g m t e =
      let q = rw (pairs_none k h u, (message_starts j g m).1) at e in
      absurd ((rw q at o).0 refl)
  not_message o (p ∷ ps) j g m t e =
      let q = rw (pairs_on k h p ps u, (pair_starts k h p).1, (message_starts j g m).1) at e in
      absurd (omega (arith, head-eq_of_cons-eq q))

-- Law: records with the same lines mean the same, one by one and in order, and the same follows them.
items_apart : (f g : List ℕ) (i k : ℕ) (ms ns : List Message) (ps qs : List Pair) (u v : List ℕ)
    → Each Fields ps → Each Fields qs → NoItem u → NoItem v
    → item_lines f i k ms ps ++ u ≡ item_lines g i k ns qs ++ v
    → (map (message_means f) ms ≡ map (message_means g) ns) × (map (pair_means f) ps ≡ map (pair_means g) qs) × (u ≡ v)
items_apart f g i k [] [] ps qs u v h l x y e =
    let o = pairs_apart f g k ps qs u v h l x.1 y.1 (sym (items_none i k f u ps) ∙ e ∙ items_none i k g v qs) in
    (refl, o.0, o.1)
items_apart f g i k [] (n ∷ ns) ps qs u v h l x y e =
    not_message i k f u x ps i g n _ (sym (items_none i k f u ps) ∙ e ∙ items_on i k g v n ns qs)
items_apart f g i k (m ∷ ms) [] ps qs u v h l x y e =
    not_message i k g v y qs i f m _ (sym (items_none i k g v qs) ∙ sym e ∙ items_on i k f u m ms ps)
items_apart f g i k (m ∷ ms) (n ∷ ns) ps qs u v h l x y e =
    let c = m.count in
    let a = message_apart i f g m n _ _ (sym (items_on i k f u m ms ps) ∙ e ∙ items_on i k g v n ns qs) in
    let same : n.count ≡ c = sym a.1 in
    let rest = rw same at a.2 in
    let r = run_apart f g c k ps qs _ _ h l
    (λ few. rw (short_none c ps few) (items_no_pair (suc i) (k + c) f u x ms))
    (λ few. rw (short_none c qs few) (items_no_pair (suc i) (k + c) g v y ns)) rest in
    let o = items_apart f g (suc i) (k + c) ms ns (drop c ps) (drop c qs) u v (each_drop Fields c ps h) (each_drop Fields c qs l) x y r.1 in (
      ap₂ ◌∷◌ (λ j. (a.0 j, a.1 j)) o.0,
      map_parts (pair_means f) c ps ∙ ap₂ ◌++◌ r.0 o.1 ∙ sym (map_parts (pair_means g) c qs),
      o.2,
    )

-- ---- actions

actions_on : (i : ℕ) (h : List ℕ) (x : Action) (xs : List Action) (u : List ℕ) → action_lines h i (x ∷ xs) ++ u ≡ action_line i h x ++ (action_lines h (suc i) xs ++ u)
unfolding action_lines
actions_on i h x xs u = append_assoc (action_line i h x) (action_lines h (suc i) xs) u

actions_none : (i : ℕ) (h u : List ℕ) → action_lines h i [] ++ u ≡ u
unfolding action_lines
actions_none i h u = refl

actions_apart : (f g : List ℕ) (i : ℕ) (xs ys : List Action) (u v : List ℕ) → Each Lined xs → Each Lined ys → NotFrom 97 u → NotFrom 97 v
    → action_lines f i xs ++ u ≡ action_lines g i ys ++ v → (map (action_means f) xs ≡ map (action_means g) ys) × (u ≡ v)
actions_apart f g = list_apart Lined 97 action_line action_lines action_means actions_none actions_on action_apart action_starts f g

-- their lines and what follows them do not start as a message's or a pair's
actions_no_item : (f : List ℕ) (xs : List Action) (u : List ℕ) → Over u → NoItem (action_lines f 0 xs ++ u)
actions_no_item f [] u o = rw (actions_none 0 f u) o.0
actions_no_item f (x ∷ xs) u o = rw (actions_on 0 f x xs u, (action_starts 0 f x).1) (λ z. omega arith, λ z. omega arith)

-- ---- a frame

-- what two frames with the same lines have in common: their index, type, ids and length, and what their messages mean, their pairs and their actions
pub record SameFrame (i j : ℕ) (f g : List ℕ) (m n : Head) (c d : Contents) : Type 0 where
  pub index : i ≡ j
  pub type : m.frame_type ≡ n.frame_type
  pub stream : m.stream ≡ n.stream
  pub id : m.frame ≡ n.frame
  pub bytes : length f ≡ length g
  pub messages : map (message_means f) c.messages ≡ map (message_means g) d.messages
  pub pairs : map (pair_means f) c.pairs ≡ map (pair_means g) d.pairs
  pub actions : map (action_means f) c.actions ≡ map (action_means g) d.actions

fields : (n : ℕ) (ps : List Pair) → Each (Whole n) ps → Each Fields ps
fields n ps e = each_on (λ p w. w.fields) ps e

lined : (n : ℕ) (xs : List Action) → Each (Acts n) xs → Each Lined xs
lined n xs e = each_on (λ x w. (n, w)) xs e

module _ (sent from : Sender) (rooms others : Counts) (f g : List ℕ) (m n : Head) (c d : Contents) (used taken : ℕ)
    (first : framed sent rooms f ≡ done (m, c) used) (second : framed from others g ≡ done (n, d) taken) where
  -- Law: the listing loses nothing but flags. Two accepted frames whose lines start the same bytes are the same but for these and for where
  -- their records stand, and the same follows them.
  pub listing_apart_then : (index other : ℕ) (u v : List ℕ) → Over u → Over v → frame_lines index f m c ++ u ≡ frame_lines other g n d ++ v
      → SameFrame index other f g m n c d × (u ≡ v)
  unfolding frame_lines
  listing_apart_then index other u v x y e =
      let h = whole_held sent rooms f m c used first in
      let l = whole_held from others g n d taken second in
      let a = frame_apart index other m n (length f) (length g) _ _
      (sym (append_assoc (frame_line index m (length f)) _ u) ∙ e ∙ append_assoc (frame_line other n (length g)) _ v) in
      let o = items_apart f g 0 0 c.messages d.messages c.pairs d.pairs (action_lines f 0 c.actions ++ u) (action_lines g 0 d.actions ++ v)
      (fields (length f) c.pairs h.pairs) (fields (length g) d.pairs l.pairs) (actions_no_item f c.actions u x) (actions_no_item g d.actions v y)
      (sym (append_assoc (item_lines f 0 0 c.messages c.pairs) _ u) ∙ a.5 ∙ append_assoc (item_lines g 0 0 d.messages d.pairs) _ v) in
      let q = actions_apart f g 0 c.actions d.actions u v (lined (length f) c.actions h.actions) (lined (length g) d.actions l.actions) x.1 y.1 o.2 in
      (record { index = a.0; type = a.1; stream = a.2; id = a.3; bytes = a.4; messages = o.0; pairs = o.1; actions = q.0 }, q.1)

  -- Law: so two accepted frames with the same lines are.
  pub listing_apart : (index other : ℕ) → frame_lines index f m c ≡ frame_lines other g n d → SameFrame index other f g m n c d
  listing_apart index other e = (listing_apart_then index other [] [] ((tt, tt), tt) ((tt, tt), tt) (ap (λ (l : List ℕ). l ++ []) e)).0

-- ---- what follows one: another frame's line, or the last line

pub frame_over : (index : ℕ) (m : Head) (bytes : ℕ) (t : List ℕ) → Over (frame_line index m bytes ++ t)
unfolding frame_line filled
frame_over index m bytes t = ((λ z. omega arith, λ z. omega arith), λ z. omega arith)

pub end_over : (used number at : ℕ) → Over (end_line used number at)
unfolding end_line filled
end_over used number at = ((λ z. omega arith, λ z. omega arith), λ z. omega arith)
