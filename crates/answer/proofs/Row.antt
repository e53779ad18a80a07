-- Laws about things that stand in a row, one behind the other, whatever they are: what holds along the row, where it ends, which they are, and what
-- is kept when each of them is.
use mathlib.Core.Path.{◌≡◌, refl, sym, ap, ◌∙◌}
use mathlib.Core.Bool.{Bool, true, false, cond}
use mathlib.Core.Logic.{⊎_elim}
use mathlib.Core.List.{List, [], ◌∷◌, ◌++◌}
use Prim.Native.Nat.{ℕ, zero, suc, ◌+◌, ◌≤◌, ◌<◌}
use native.Mathlib.Omega.{arith}
use lib.Dec.{ltb}
use lib.ListN.{length}
use borrow.Author.Tests.{lt-ltb, le-ltb}
use Rattle.answer.specs.Answer.{Answer, done, refused, next}
use Rattle.answer.specs.Row.{so_many, to_end}
use Rattle.answer.specs.Inner.{InRow}
use Rattle.answer.proofs.Cases.{lt_or_le, bool_cases}
use Rattle.answer.proofs.Answers.{ends, done_same, next_done}

-- ---- rows

-- These stand in a row, from one position to another, where `Here p x q` says that x stands from p to q.
abbrev pub Row : {P X : Type 0} → (P → X → P → Type 0) → P → List X → P → Type 0
Row {P} Here p [] q = p ≡ q
Row {P} Here p (x ∷ xs) q = (mid : P) × Here p x mid × Row Here mid xs q

-- Law: what stands so stands otherwise too, at other positions, if each of them does.
pub row_as : {P Q X : Type 0} {Here : P → X → P → Type 0} (There : Q → X → Q → Type 0) (g : P → Q) → ((p : P) (x : X) (q : P) → Here p x q → There (g p) x (g q))
    → (p : P) (xs : List X) (q : P) → Row Here p xs q → Row There (g p) xs (g q)
row_as There g each p [] q r = ap g r
row_as There g each p (x ∷ xs) q r = (g r.0, each p x r.0 r.1, row_as There g each r.0 xs q r.2)

-- Law: one row behind another is a row.
pub row_both : {P X : Type 0} (Here : P → X → P → Type 0) (p : P) (xs : List X) (mid : P) (ys : List X) (q : P) → Row Here p xs mid → Row Here mid ys q → Row Here p (xs ++ ys) q
row_both Here p [] mid ys q r t = rw (sym r) at t
row_both Here p (x ∷ xs) mid ys q r t = (r.0, r.1, row_both Here r.0 xs mid ys q r.2 t)

-- Law: where each ends behind its place, the row does not end before its place.
pub row_on : {P X : Type 0} {Here : P → X → P → Type 0} (place : P → ℕ) → ((p : P) (x : X) (q : P) → Here p x q → place p < place q)
    → (p : P) (xs : List X) (q : P) → Row Here p xs q → place p + length xs ≤ place q
row_on place each p [] q r = omega (arith, ap place r)
row_on place each p (x ∷ xs) q r = omega (arith, each p x r.0 r.1, row_on place each r.0 xs q r.2)

-- what a reader finds at a place stands there
abbrev pub Found : {X : Type 0} → (ℕ → Answer X) → ℕ → X → ℕ → Type 0
Found from at x end = from at ≡ done x end

pub found_row : {X : Type 0} (from : ℕ → Answer X) (at : ℕ) (xs : List X) (end : ℕ) → Row (Found from) at xs end → InRow from at xs end
found_row from at [] end r = r
found_row from at (x ∷ xs) end r = (r.0, r.1, found_row from r.0 xs end r.2)

pub row_found : {X : Type 0} (from : ℕ → Answer X) (at : ℕ) (xs : List X) (end : ℕ) → InRow from at xs end → Row (Found from) at xs end
row_found from at [] end r = r
row_found from at (x ∷ xs) end r = (r.0, r.1, row_found from r.0 xs end r.2)

-- ---- what was read is a row

-- with these put in, one after the other
abbrev pub puts : {A X : Type 0} → (A → X → A) → A → List X → A
puts put c [] = c
puts put c (x ∷ xs) = puts put (put c x) xs

-- a test that goes on, or has ended
by_end : {A G : Type 0} (at last : ℕ) (a : Answer A) (c d : A) (end : ℕ) → cond (ltb at last) a (done c at) ≡ done d end
    → (at < last → a ≡ done d end → G) → (last ≤ at → c ≡ d → at ≡ end → G) → G
by_end at last a c d end e on stop =
    ⊎_elim (λ h. on h (rw (lt-ltb at last h) at e))
    (λ h. let o = done_same (rw (le-ltb at last h) at e) in stop h o.0 o.1)
    (lt_or_le at last)

-- Each that is read stands somewhere, and is put in.
module _ {A P X : Type 0} (one : A → ℕ → Answer A) (put : A → X → A) (Here : P → X → P → Type 0) (position : A → ℕ → P)
    (says : (c : A) (at : ℕ) (d : A) (end : ℕ) → one c at ≡ done d end → (x : X) × Here (position c at) x (position d end) × (put c x ≡ d)) where
  pub record Read (c : A) (at : ℕ) (d : A) (end : ℕ) : Type 0 where
    pub these : List X
    pub row : Row Here (position c at) these (position d end)
    pub is : puts put c these ≡ d

  none : (c : A) (at : ℕ) (d : A) (end : ℕ) → c ≡ d → at ≡ end → Read c at d end
  none c at d end e f = record { these = []; row = λ i. position (e i) (f i); is = e }

  more : (c : A) (at : ℕ) (d : A) (mid : ℕ) (f : A) (end : ℕ) → one c at ≡ done d mid → Read d mid f end → Read c at f end
  more c at d mid f end e r =
      let o = says c at d mid e in
      record { these = o.0 ∷ r.these; row = (position d mid, o.1, r.row); is = ap (λ (b : A). puts put b r.these) o.2 ∙ r.is }

  -- Laws: then so many of them are a row, of so many; and so are those to the end.
  pub many_read : (k : ℕ) (c : A) (at : ℕ) (d : A) (end : ℕ) → so_many one k c at ≡ done d end → (r : Read c at d end) × (length r.these ≡ k)
  unfolding so_many none more
  many_read zero c at d end e = let o = done_same e in (none c at d end o.0 o.1, refl)
  many_read (suc k) c at d end e =
      let o = next_done (one c at) _ e in
      let r = many_read k o.0 o.1 d end o.3 in
      (more c at o.0 o.1 d end o.2 r.0, ap suc r.1)

  pub end_read : (last k : ℕ) (c : A) (at : ℕ) (d : A) (end : ℕ) → to_end one last k c at ≡ done d end → Read c at d end
  unfolding to_end
  end_read last zero c at d end e = let o = done_same e in none c at d end o.0 o.1
  end_read last (suc k) c at d end e =
      by_end at last _ c d end e
      (λ h f. let o = next_done (one c at) _ f in more c at o.0 o.1 d end o.2 (end_read last k o.0 o.1 d end o.3))
      (λ h f g. none c at d end f g)

-- ---- what holds along a row

-- What each of them keeps, so many of them keep, and those to the end.
module _ {A : Type 0} (one : A → ℕ → Answer A) (Holds : A → ℕ → Type 0) (on : (c : A) (at : ℕ) (d : A) (end : ℕ) → one c at ≡ done d end → Holds c at → Holds d end) where
  ended : (c : A) (at : ℕ) (d : A) (end : ℕ) → c ≡ d → at ≡ end → Holds c at → Holds d end
  ended c at d end e f h = rw (sym e, sym f) h

  pub many_holds : (k : ℕ) (c : A) (at : ℕ) (d : A) (end : ℕ) → so_many one k c at ≡ done d end → Holds c at → Holds d end
  unfolding so_many
  many_holds zero c at d end e h = let o = done_same e in ended c at d end o.0 o.1 h
  many_holds (suc k) c at d end e h = let o = next_done (one c at) _ e in many_holds k o.0 o.1 d end o.3 (on c at o.0 o.1 o.2 h)

  pub end_holds : (last k : ℕ) (c : A) (at : ℕ) (d : A) (end : ℕ) → to_end one last k c at ≡ done d end → Holds c at → Holds d end
  unfolding to_end
  end_holds last zero c at d end e h = let o = done_same e in ended c at d end o.0 o.1 h
  end_holds last (suc k) c at d end e h =
      by_end at last _ c d end e
      (λ l f. let o = next_done (one c at) _ f in end_holds last k o.0 o.1 d end o.3 (on c at o.0 o.1 o.2 h))
      (λ l f g. ended c at d end f g h)

-- ---- a row is read

-- Each of these is read where the one before it ended, and is put in.
module _ {A X : Type 0} (one : A → ℕ → Answer A) (put : A → X → A) where
  abbrev pub Reads : A → ℕ → List X → ℕ → Type 0
  Reads c at [] end = at ≡ end
  Reads c at (x ∷ xs) end = (mid : ℕ) × (one c at ≡ done (put c x) mid) × (at < mid) × Reads (put c x) mid xs end

  pub reads_on : (c : A) (at : ℕ) (xs : List X) (end : ℕ) → Reads c at xs end → at ≤ end
  reads_on c at [] end r = omega (arith, r)
  reads_on c at (x ∷ xs) end r = omega (arith, r.2, reads_on (put c x) r.0 xs end r.3)

  -- Laws: then they are what so many of them come to, and what those to the end come to.
  pub many_so : (c : A) (at : ℕ) (xs : List X) (end : ℕ) → Reads c at xs end → so_many one (length xs) c at ≡ done (puts put c xs) end
  unfolding so_many
  many_so c at [] end r = ap (done c) r
  many_so c at (x ∷ xs) end r = rw r.1 (many_so (put c x) r.0 xs end r.3)

  pub end_so : (last k : ℕ) (c : A) (at : ℕ) (xs : List X) → Reads c at xs last → last ≤ at + k → to_end one last k c at ≡ done (puts put c xs) last
  unfolding to_end
  end_so last zero c at [] r h = ap (done c) r
  end_so last (suc k) c at [] r h = rw (le-ltb at last (omega (arith, r))) (ap (done c) r)
  end_so last zero c at (x ∷ xs) r h = absurd (omega (arith, r.2, reads_on (put c x) r.0 xs last r.3))
  end_so last (suc k) c at (x ∷ xs) r h =
      rw (lt-ltb at last (omega (arith, r.2, reads_on (put c x) r.0 xs last r.3)))
      (rw r.1 (end_so last k (put c x) r.0 xs r.3 (omega (arith, r.2))))

-- ---- where it ends

-- what goes on within the bytes ends within them
pub next_ends : {A B : Type 0} (last : ℕ) (a : Answer A) (g : A → ℕ → Answer B) → ends a ≤ last → ((x : A) (end : ℕ) → a ≡ done x end → ends (g x end) ≤ last) → ends (next a g) ≤ last
next_ends last (done x end) g h each = each x end refl
next_ends last (refused number place) g h each = h

pub line_ends : {A : Type 0} (last : ℕ) (p : Bool) (a : Answer A) (number place : ℕ) → place ≤ last → ends a ≤ last → ends (cond p a (refused number place)) ≤ last
line_ends last true a number place h l = l
line_ends last false a number place h l = h

module _ {A : Type 0} (one : A → ℕ → Answer A) (last : ℕ) (within : (c : A) (at : ℕ) → at ≤ last → ends (one c at) ≤ last) where
  done_within : (c : A) (at : ℕ) → at ≤ last → (d : A) (end : ℕ) → one c at ≡ done d end → end ≤ last
  done_within c at h d end e = omega (arith, ap ends (sym e), within c at h)

  -- Laws: where each ends within the bytes, so do so many of them, and those to the end.
  pub many_ends : (k : ℕ) (c : A) (at : ℕ) → at ≤ last → ends (so_many one k c at) ≤ last
  unfolding so_many
  many_ends zero c at h = h
  many_ends (suc k) c at h = next_ends last (one c at) _ (within c at h) (λ d end e. many_ends k d end (done_within c at h d end e))

  pub end_ends : (k : ℕ) (c : A) (at : ℕ) → at ≤ last → ends (to_end one last k c at) ≤ last
  unfolding to_end
  end_ends zero c at h = h
  end_ends (suc k) c at h =
      bool_cases (ltb at last)
      (λ t. rw t (next_ends last (one c at) _ (within c at h) (λ d end e. end_ends k d end (done_within c at h d end e))))
      (λ t. rw t h)

  -- Law: and where each takes a byte, those to the end take all bytes.
  module _ (on : (c : A) (at : ℕ) (d : A) (end : ℕ) → one c at ≡ done d end → at < end) where
    pub end_all : (k : ℕ) (c : A) (at : ℕ) (d : A) (end : ℕ) → to_end one last k c at ≡ done d end → at ≤ last → last ≤ at + k → end ≡ last
    unfolding to_end
    end_all zero c at d end e h l = omega (arith, (done_same e).1)
    end_all (suc k) c at d end e h l =
        by_end at last _ c d end e
        (λ g f.
        let o = next_done (one c at) _ f in
        end_all k o.0 o.1 d end o.3 (done_within c at h o.0 o.1 o.2) (omega (arith, on c at o.0 o.1 o.2)))
        (λ g f q. omega arith)

-- ---- what is kept

-- An answer that goes by some y, of which x is one. Where x is accepted, so are all those y that are large enough, alike; where it is refused, there is a t that
-- says of which y it is kept.
module _ {X T : Type 0} (x : X) (Large : X → Type 0) (Stays : T → ℕ → X → Type 0) where
  abbrev pub KeptAs : {A : Type 0} → (X → Answer A) → Answer A → Type 0
  KeptAs f (done d end) = (y : X) → Large y → f y ≡ done d end
  KeptAs f (refused number place) = (t : T) × ((y : X) → Stays t number y → f y ≡ refused number place)

  abbrev pub Kept : {A : Type 0} → (X → Answer A) → Type 0
  Kept f = KeptAs f (f x)

  pub kept_done : {A : Type 0} (f : X → Answer A) → Kept f → (d : A) (end : ℕ) → f x ≡ done d end → (y : X) → Large y → f y ≡ done d end
  kept_done f k d end e = rw e at k

  pub kept_refused : {A : Type 0} (f : X → Answer A) → Kept f → (number place : ℕ) → f x ≡ refused number place → (t : T) × ((y : X) → Stays t number y → f y ≡ refused number place)
  kept_refused f k number place e = rw e at k

  module _ (large : (t : T) (number : ℕ) (y : X) → Stays t number y → Large y) where
    -- Law: what does not go by it is kept.
    pub kept_same : {A : Type 0} (t : T) (a : Answer A) → Kept (λ y. a)
    kept_same t (done d end) = λ y l. refl
    kept_same t (refused number place) = (t, λ y l. refl)

    -- Law: what goes on behind what is kept, and is kept itself, is kept.
    pub kept_next : {A B : Type 0} (f : X → Answer A) (g : X → A → ℕ → Answer B) → Kept f → ((d : A) (end : ℕ) → f x ≡ done d end → Kept (λ y. g y d end)) → Kept (λ y. next (f y) (g y))
    kept_next {A} {B} f g k each = by_first (f x) refl k
      where
        by_second : (d : A) (end : ℕ) → ((y : X) → Large y → f y ≡ done d end) → (b : Answer B) → KeptAs (λ y. g y d end) b → KeptAs (λ y. next (f y) (g y)) b
        by_second d end same (done e n) j = λ y l. rw (same y l) (j y l)
        by_second d end same (refused number place) j = (j.0, λ y l. rw (same y (large j.0 number y l)) (j.1 y l))

        by_first : (a : Answer A) → f x ≡ a → KeptAs f a → Kept (λ y. next (f y) (g y))
        by_first (done d end) e j = rw e (by_second d end j (g x d end) (each d end e))
        by_first (refused number place) e j = rw e (j.0, λ y l. rw (j.1 y l))

    -- Law: and so are so many, and those to the end, where each is.
    module _ {A : Type 0} (t : T) (one : X → A → ℕ → Answer A) (each : (c : A) (at : ℕ) → Kept (λ y. one y c at)) where
      pub many_kept : (k : ℕ) (c : A) (at : ℕ) → Kept (λ y. so_many (one y) k c at)
      unfolding so_many
      many_kept zero c at = kept_same t (done c at)
      many_kept (suc k) c at = kept_next (λ y. one y c at) (λ y d end. so_many (one y) k d end) (each c at) (λ d end e. many_kept k d end)

      pub end_kept : (last k : ℕ) (c : A) (at : ℕ) → Kept (λ y. to_end (one y) last k c at)
      unfolding to_end
      end_kept last zero c at = kept_same t (done c at)
      end_kept last (suc k) c at =
          bool_cases (ltb at last)
          (λ b. rw b (kept_next (λ y. one y c at) (λ y d end. to_end (one y) last k d end) (each c at) (λ d end e. end_kept last k d end)))
          (λ b. rw b (kept_same t (done c at)))
