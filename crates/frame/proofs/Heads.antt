-- Laws about a frame's head: what an accepted one says, and what says so is accepted.
use mathlib.Core.Path.{◌≡◌, refl, sym, ap, ◌∙◌}
use mathlib.Core.Bool.{Bool, true, false, ◌&&◌, ◌||◌}
use mathlib.Core.Logic.{⊎_elim}
use mathlib.Core.List.{List, [], ◌∷◌, ◌++◌}
use Prim.Native.Nat.{ℕ, ◌+◌, ◌/◌, ◌%◌, ◌≤◌, ◌<◌}
use native.Mathlib.Omega.{arith}
use lib.Dec.{ltb, leb, eqb}
use lib.ListN.{length, drop, get_or, length-append, length-drop, get_or-append}
use lib.Seq.{drop-append-le}
use borrow.Author.Tests.{lt-ltb, le-ltb, le-leb, lt-leb, leb-true, ne_eqb, eqb-true, eqb-false}
use Rattle.answer.specs.Answer.{Answer, done, refused, behind}
use Rattle.answer.specs.Order.{in_order}
use Rattle.answer.specs.Table.{some}
use Rattle.answer.proofs.Cases.{lt_or_le, bool_cases, not_both, true_false, both_true}
use Rattle.answer.proofs.Records.{some_none, some_here, some_later}
use Rattle.varint.specs.Number.{number}
use Rattle.varint.proofs.Reading.{accepted, accepted_kept}
use Rattle.frame.specs.declared.Head.{Head}
use Rattle.frame.specs.declared.Side.{Side}
use Rattle.frame.specs.declared.Side.TheVariants as side
use Rattle.frame.specs.Head.{four_number}
use Rattle.frame.specs.Read.{Sender, haproxy_types, agent_types, frame_types, fin_set, sender, still, number_from, head}
use Rattle.frame.proofs.Laws.{four_kept}
use Rattle.answer.proofs.Answers.{done_same, line_passed, next_done}

-- ---- the lines of the order, one after the other

-- the tests that stand before the two numbers hold
pub record Passed (sent : Sender) (f : List ℕ) : Type 0 where
  pub long : 9 ≤ length f
  pub known : some (eqb (get_or f 4 0)) sent.known ≡ true
  pub allowed : some (eqb (four_number (drop 5 f))) sent.flags ≡ true
  pub whole : four_number (drop 5 f) / 2 % 2 ≡ 0

module _ (sent : Sender) (f : List ℕ) where
  pub head_none : length f ≤ 4 → head sent f ≡ refused 3 4
  unfolding head in_order
  head_none h = rw (le-ltb 4 (length f) h)

  module _ (h : 4 < length f) where
    pub head_type : some (eqb (get_or f 4 0)) sent.known ≡ false → head sent f ≡ refused 4 4
    unfolding head in_order
    head_type t = rw (lt-ltb 4 (length f) h, t)

    module _ (t : some (eqb (get_or f 4 0)) sent.known ≡ true) where
      pub head_short : length f < 9 → head sent f ≡ refused 3 5
      unfolding head in_order
      head_short l = rw (lt-ltb 4 (length f) h, t, lt-leb 9 (length f) l)

      module _ (l : 9 ≤ length f) where
        pub head_flags : some (eqb (four_number (drop 5 f))) sent.flags ≡ false → head sent f ≡ refused 4 4
        unfolding head in_order
        head_flags a = rw (lt-ltb 4 (length f) h, t, le-leb 9 (length f) l, a)

        pub head_abort : some (eqb (four_number (drop 5 f))) sent.flags ≡ true → (four_number (drop 5 f) / 2 % 2 ≡ 0 → ⊥) → head sent f ≡ refused 5 4
        unfolding head in_order
        head_abort a z = rw (lt-ltb 4 (length f) h, t, le-leb 9 (length f) l, a, ne_eqb (four_number (drop 5 f) / 2 % 2) 0 z)

  module _ (p : Passed sent f) where
    pub head_first : (n place : ℕ) → number (drop 9 f) ≡ refused n place → head sent f ≡ refused n (9 + place)
    unfolding head in_order
    head_first n place e = rw (lt-ltb 4 (length f) (omega (arith, p.long)), p.known, le-leb 9 (length f) p.long, p.allowed, p.whole, e)

    module _ (stream used : ℕ) (e : number (drop 9 f) ≡ done stream used) where
      pub head_second : (n place : ℕ) → number (drop (9 + used) f) ≡ refused n place → head sent f ≡ refused n (9 + used + place)
      unfolding head in_order
      head_second n place g = rw (lt-ltb 4 (length f) (omega (arith, p.long)), p.known, le-leb 9 (length f) p.long, p.allowed, p.whole, e, g)

      module _ (id more : ℕ) (g : number (drop (9 + used) f) ≡ done id more) where
        pub head_other : some (eqb (get_or f 4 0)) sent.own ≡ false → head sent f ≡ refused 6 4
        unfolding head in_order
        head_other o = rw (lt-ltb 4 (length f) (omega (arith, p.long)), p.known, le-leb 9 (length f) p.long, p.allowed, p.whole, e, g, o)

        pub head_done : some (eqb (get_or f 4 0)) sent.own ≡ true
            → head sent f ≡ done (record { frame_type = get_or f 4 0; flags = four_number (drop 5 f); stream = stream; frame = id }) (9 + used + more)
        unfolding head in_order
        head_done o = rw (lt-ltb 4 (length f) (omega (arith, p.long)), p.known, le-leb 9 (length f) p.long, p.allowed, p.whole, e, g, o)

-- ---- an accepted head

-- What an accepted head says: where its parts stand, and that each line of the order holds.
pub record HeadSays (sent : Sender) (f : List ℕ) (h : Head) (start : ℕ) : Type 0 where
  pub long : 9 ≤ length f
  pub type : get_or f 4 0 ≡ h.frame_type
  pub known : some (eqb h.frame_type) sent.known ≡ true
  pub own : some (eqb h.frame_type) sent.own ≡ true
  pub flags : four_number (drop 5 f) ≡ h.flags
  pub allowed : some (eqb h.flags) sent.flags ≡ true
  pub whole : h.flags / 2 % 2 ≡ 0
  pub first : ℕ
  pub second : ℕ
  pub stream : number (drop 9 f) ≡ done h.stream first
  pub frame : number (drop (9 + first) f) ≡ done h.frame second
  pub ends : 9 + first + second ≡ start

-- a number that stands at a place, of which it is known that it was read
from_done : (at : ℕ) (f : List ℕ) {n end : ℕ} → number_from at f ≡ done n end → (used : ℕ) × (number (drop at f) ≡ done n used) × (at + used ≡ end)
from_done at f e = go (number (drop at f)) refl e
  where
    go : (a : Answer ℕ) → number (drop at f) ≡ a → {n end : ℕ} → behind still at a ≡ done n end → (used : ℕ) × (number (drop at f) ≡ done n used) × (at + used ≡ end)
    go (done n used) is q = let o = done_same q in (used, is ∙ ap (λ (x : ℕ). done x used) o.0, o.1)
    go (refused n place) is q = not_both q refl

module _ (sent : Sender) (f : List ℕ) (h : Head) (start : ℕ) where
  -- Law: each that is accepted says so, and what says so is accepted.
  pub head_says : head sent f ≡ done h start → HeadSays sent f h start
  unfolding head in_order
  head_says e =
      let a = line_passed (ltb 4 (length f)) _ 3 4 e in
      let b = line_passed (some (eqb (get_or f 4 0)) sent.known) _ 4 4 a.1 in
      let c = line_passed (leb 9 (length f)) _ 3 5 b.1 in
      let d = line_passed (some (eqb (four_number (drop 5 f))) sent.flags) _ 4 4 c.1 in
      let g = line_passed (eqb (four_number (drop 5 f) / 2 % 2) 0) _ 5 4 d.1 in
      let one = next_done (number_from 9 f) _ g.1 in
      let two = next_done (number_from one.1 f) _ one.3 in
      let last = line_passed (some (eqb (get_or f 4 0)) sent.own) _ 6 4 two.3 in
      let is = done_same last.1 in
      let x = from_done 9 f one.2 in
      let y = from_done one.1 f two.2 in
      let type : get_or f 4 0 ≡ h.frame_type = ap (λ (z : Head). z.frame_type) is.0 in
      let flags : four_number (drop 5 f) ≡ h.flags = ap (λ (z : Head). z.flags) is.0 in
      record {
        long = leb-true 9 (length f) c.0;
        type = type;
        known = ap (λ (n : ℕ). some (eqb n) sent.known) (sym type) ∙ b.0;
        own = ap (λ (n : ℕ). some (eqb n) sent.own) (sym type) ∙ last.0;
        flags = flags;
        allowed = ap (λ (n : ℕ). some (eqb n) sent.flags) (sym flags) ∙ d.0;
        whole = ap (λ (n : ℕ). n / 2 % 2) (sym flags) ∙ eqb-true (four_number (drop 5 f) / 2 % 2) 0 g.0;
        first = x.0;
        second = y.0;
        stream = x.1 ∙ ap (λ (z : Head). done z.stream x.0) is.0;
        frame = ap (λ (n : ℕ). number (drop n f)) x.2 ∙ y.1 ∙ ap (λ (z : Head). done z.frame y.0) is.0;
        ends = omega (arith, x.2, y.2, is.1);
      }

  pub head_so : HeadSays sent f h start → head sent f ≡ done h start
  unfolding head in_order
  head_so p =
      rw (p.type, p.flags, lt-ltb 4 (length f) (omega (arith, p.long)), p.known, le-leb 9 (length f) p.long, p.allowed, p.whole, p.stream, p.frame, p.own)
      (ap (done h) p.ends)

-- Law: the payload starts within the frame.
pub head_start : (sent : Sender) (f : List ℕ) (h : Head) (start : ℕ) → head sent f ≡ done h start → start ≤ length f
head_start sent f h start e =
    let p = head_says sent f h start e in
    omega (arith, p.ends, accepted (drop (9 + p.first) f) h.frame p.second p.frame, length-drop (9 + p.first) f, accepted (drop 9 f) h.stream p.first p.stream, length-drop 9 f, p.long)

-- Law: with bytes behind the frame a head says the same.
pub head_longer : (sent : Sender) (f t : List ℕ) (h : Head) (start : ℕ) → HeadSays sent f h start → HeadSays sent (f ++ t) h start
head_longer sent f t h start p =
    let all = length-append f t in
    let one = accepted (drop 9 f) h.stream p.first p.stream in
    let two = accepted (drop (9 + p.first) f) h.frame p.second p.frame in
    record {
      long = omega (arith, p.long);
      type = get_or-append f t 0 4 (omega (arith, p.long)) ∙ p.type;
      known = p.known;
      own = p.own;
      flags = ap four_number (drop-append-le 5 f t (omega (arith, p.long))) ∙ four_kept (drop 5 f) t (omega (arith, length-drop 5 f, p.long)) ∙ p.flags;
      allowed = p.allowed;
      whole = p.whole;
      first = p.first;
      second = p.second;
      stream = ap number (drop-append-le 9 f t p.long) ∙ accepted_kept (drop 9 f) t h.stream p.first p.stream;
      frame =
          ap number (drop-append-le (9 + p.first) f t (omega (arith, one, length-drop 9 f, p.long)))
          ∙ accepted_kept (drop (9 + p.first) f) t h.frame p.second p.frame;
      ends = p.ends;
    }

-- ---- the lists of types and flags

pub some_both : {A : Type 0} (test : A → Bool) (xs ys : List A) → some test (xs ++ ys) ≡ some test xs || some test ys
some_both test [] ys = rw (some_none test)
some_both test (x ∷ xs) ys =
    bool_cases (test x)
    (λ t. rw (some_here test x (xs ++ ys) t, some_here test x xs t))
    (λ t. rw (some_later test x (xs ++ ys) t, some_later test x xs t) (some_both test xs ys))

pub some_one : {A : Type 0} (test : A → Bool) (x : A) → some test (x ∷ []) ≡ test x
some_one test x = bool_cases (test x) (λ t. some_here test x [] t ∙ sym t) (λ t. some_later test x [] t ∙ some_none test ∙ sym t)

-- three types in a row
pub three : (n k : ℕ) → some (eqb k) (n ∷ (1 + n) ∷ (2 + n) ∷ []) ≡ leb n k && leb k (2 + n)
three n k =
    bool_cases (eqb k n) (λ a. let is = eqb-true k n a in some_here (eqb k) n _ a ∙ sym (rw (le-leb n k (omega arith), le-leb k (2 + n) (omega arith))))
    (λ a.
    bool_cases (eqb k (1 + n)) (λ b. let is = eqb-true k (1 + n) b in some_later (eqb k) n _ a ∙ some_here (eqb k) (1 + n) _ b ∙ sym (rw (le-leb n k (omega arith), le-leb k (2 + n) (omega arith))))
    (λ b.
    bool_cases (eqb k (2 + n)) (λ c. let is = eqb-true k (2 + n) c in some_later (eqb k) n _ a ∙ some_later (eqb k) (1 + n) _ b ∙ some_here (eqb k) (2 + n) _ c ∙ sym (rw (le-leb n k (omega arith), le-leb k (2 + n) (omega arith))))
    (λ c.
    some_later (eqb k) n _ a ∙ some_later (eqb k) (1 + n) _ b ∙ some_later (eqb k) (2 + n) _ c ∙ some_none (eqb k) ∙ sym (outside (eqb-false k n a) (eqb-false k (1 + n) b) (eqb-false k (2 + n) c)))))
  where
    outside : (k ≡ n → ⊥) → (k ≡ 1 + n → ⊥) → (k ≡ 2 + n → ⊥) → leb n k && leb k (2 + n) ≡ false
    outside a b c =
        ⊎_elim (λ l. rw (lt-leb n k l))
        (λ l.
        ⊎_elim (λ g. rw (le-leb n k l, lt-leb k (2 + n) g))
        (λ g. ⊎_elim (λ i. absurd (a (omega arith))) (λ i. ⊎_elim (λ j. absurd (b (omega arith))) (λ j. absurd (c (omega arith))) (lt_or_le k (2 + n))) (lt_or_le k (1 + n)))
        (lt_or_le (2 + n) k))
        (lt_or_le k n)

module _ (n k : ℕ) where
  pub three_so : n ≤ k → k ≤ 2 + n → some (eqb k) (n ∷ (1 + n) ∷ (2 + n) ∷ []) ≡ true
  three_so h l = three n k ∙ rw (le-leb n k h, le-leb k (2 + n) l)

  pub three_says : some (eqb k) (n ∷ (1 + n) ∷ (2 + n) ∷ []) ≡ true → (n ≤ k) × (k ≤ 2 + n)
  three_says e = let b = both_true (leb n k) (leb k (2 + n)) (sym (three n k) ∙ e) in (leb-true n k b.0, leb-true k (2 + n) b.1)

-- the types that a side sends are known
pub own_known : (x : Side) (k : ℕ) → some (eqb k) (sender x).own ≡ true → some (eqb k) (sender x).known ≡ true
own_known side.HAProxy k e = some_both (eqb k) haproxy_types agent_types ∙ ap (λ (b : Bool). b || some (eqb k) agent_types) e
own_known side.Agents k e =
    some_both (eqb k) haproxy_types agent_types
    ∙ ap (λ (b : Bool). some (eqb k) haproxy_types || b) e
    ∙ bool_cases (some (eqb k) haproxy_types) (λ t. rw t) (λ t. rw t)

-- each side knows the same types, and the same flags are allowed
pub sides : (x : Side) → ((sender x).known ≡ frame_types) × ((sender x).flags ≡ fin_set)
sides side.HAProxy = (refl, refl)
sides side.Agents = (refl, refl)

-- Law: of an accepted head the flags are FIN alone.
pub fin_alone_lem : (x : Side) (f : List ℕ) (h : Head) (start : ℕ) → HeadSays (sender x) f h start → h.flags ≡ 1
unfolding some
fin_alone_lem x f h start p = by_flags h.flags (ap (some (eqb h.flags)) (sym (sides x).1) ∙ p.allowed) p.whole
  where
    by_flags : (n : ℕ) → some (eqb n) fin_set ≡ true → n / 2 % 2 ≡ 0 → n ≡ 1
    by_flags n t z =
        bool_cases (eqb n 1) (λ a. eqb-true n 1 a)
        (λ a. bool_cases (eqb n 3) (λ b. let is = eqb-true n 3 b in absurd (omega arith)) (λ b. true_false t (rw (a, b))))
