-- Laws about orders: of one record's checks, as a number and as lines at a place, and of all records of a table.
use mathlib.Core.Path.{◌≡◌, refl, sym, ap, ap₂, ◌∙◌}
use mathlib.Core.Bool.{Bool, true, false}
use mathlib.Core.Logic.{◌⊎◌, inl, inr, ⊎_elim}
use mathlib.Core.List.{List, [], ◌∷◌, ◌++◌}
use Prim.Native.Nat.{ℕ, zero, suc, ◌+◌, ◌-◌, ◌<◌}
use native.Mathlib.Numerals.{add-one}
use native.Mathlib.Omega.{arith}
use Rattle.answer.specs.Answer.{Answer, done, refused}
use Rattle.answer.specs.Order.{Check, in_order, lines_at, each_in_order}
use Rattle.answer.specs.Inner.{Passes, Sound}
use Rattle.answer.proofs.Cases.{lt_or_le, bool_cases, not_both}

-- ---- one line after the other

pub order_none : {A : Type 0} (last : A) → in_order [] last ≡ last
unfolding in_order
order_none last = refl

module _ {A : Type 0} (answer : A) (test : Bool) (lines : List (A × Bool)) (last : A) where
  pub order_fails : test ≡ false → in_order ((answer, test) ∷ lines) last ≡ answer
  unfolding in_order
  order_fails e = rw e

  pub order_holds : test ≡ true → in_order ((answer, test) ∷ lines) last ≡ in_order lines last
  unfolding in_order
  order_holds e = rw e

-- ---- checks that pass

pub passes_both : (xs ys : List Check) → Passes xs → Passes ys → Passes (xs ++ ys)
passes_both [] ys p q = q
passes_both ((n, test) ∷ xs) ys p q = (p.0, passes_both xs ys p.1 q)

pub passes_parts : (xs ys : List Check) → Passes (xs ++ ys) → Passes xs × Passes ys
passes_parts [] ys p = (tt, p)
passes_parts ((n, test) ∷ xs) ys p = let o = passes_parts xs ys p.1 in ((p.0, o.0), o.1)

-- ---- as a number, where 0 stands for none

-- no line has the number 0
abbrev pub Numbered : List Check → Type 0
Numbered [] = Unit
Numbered ((zero, test) ∷ checks) = ⊥
Numbered ((suc n, test) ∷ checks) = Numbered checks

-- Law: so with 0 all pass.
pub passes_zero : (checks : List Check) → Numbered checks → in_order checks 0 ≡ 0 → Passes checks
unfolding in_order
passes_zero [] some e = tt
passes_zero ((zero, test) ∷ checks) some e = absurd some
passes_zero ((suc n, test) ∷ checks) some e =
    bool_cases test (λ t. (t, passes_zero checks some (rw t at e))) (λ t. let z = (rw t at e) in absurd (omega arith))

-- of two orders the first one's number, and past it the second one's
pub order_front : (xs ys : List Check) (n : ℕ) → n ≡ in_order xs 0 → (n ≡ 0 → ⊥) → n ≡ in_order (xs ++ ys) 0
unfolding in_order
order_front [] ys n e ne = absurd (ne e)
order_front ((k, test) ∷ xs) ys n e ne = bool_cases test (λ t. rw t (order_front xs ys n (rw t at e) ne)) (λ t. rw t (rw t at e))

pub order_past : (xs ys : List Check) → Passes xs → in_order (xs ++ ys) 0 ≡ in_order ys 0
unfolding in_order
order_past [] ys p = refl
order_past ((k, test) ∷ xs) ys p = rw p.0 (order_past xs ys p.1)

-- ---- as lines at a place

-- Checks that refuse with n, whatever the last answer is.
abbrev pub Refuses : List Check → ℕ → Type 0
Refuses checks n = (place : ℕ) (a : Answer (List ℕ)) → in_order (lines_at place checks) a ≡ refused n place

pub lines_refuse : (checks : List Check) (n : ℕ) → n ≡ in_order checks 0 → (n ≡ 0 → ⊥) → Refuses checks n
unfolding in_order
lines_refuse [] n e ne place a = absurd (ne e)
lines_refuse ((k, test) ∷ checks) n e ne place a =
    bool_cases test (λ t. rw t (lines_refuse checks n (rw t at e) ne place a)) (λ t. rw t (ap (λ (m : ℕ). refused m place) (sym (rw t at e))))

pub lines_pass : (checks : List Check) → Passes checks → (place : ℕ) (a : Answer (List ℕ)) → in_order (lines_at place checks) a ≡ a
unfolding in_order
lines_pass [] p place a = refl
lines_pass ((k, test) ∷ checks) p place a = rw p.0 (lines_pass checks p.1 place a)

lines_cases : (checks : List Check) → Passes checks ⊎ ((n : ℕ) × Refuses checks n)
unfolding in_order
lines_cases [] = inl tt
lines_cases ((k, test) ∷ checks) =
    bool_cases test
    (λ t. ⊎_elim (λ p. inl (t, p)) (λ r. inr (r.0, λ place a. rw t (r.1 place a))) (lines_cases checks))
    (λ t. inr (k, λ place a. rw t))

-- Law: what an accepted answer has passed.
pub lines_done : (checks : List Check) (place : ℕ) (a : Answer (List ℕ)) {x : List ℕ} {n : ℕ} → in_order (lines_at place checks) a ≡ done x n → Passes checks × (a ≡ done x n)
lines_done checks place a is =
    ⊎_elim (λ p. (p, sym (lines_pass checks p place a) ∙ is)) (λ r. not_both is (r.1 place a)) (lines_cases checks)

-- ---- all records of a table

pub sound_none : {checks : ℕ → List Check} → Sound checks 0
sound_none = record { each = λ i h. absurd (omega arith) }

pub sound_on : {checks : ℕ → List Check} {n : ℕ} → Sound checks n → Passes (checks n) → Sound checks (n + 1)
sound_on {checks} {n} s p =
    record { each = λ i h. ⊎_elim (λ l. s.each i l) (λ l. let same : i ≡ n = omega arith in rw same p) (lt_or_le i n) }

module _ (checks : ℕ → List Check) (a : Answer (List ℕ)) where
  none_left : (first : ℕ) → each_in_order checks first 0 a ≡ a
  unfolding each_in_order
  none_left first = refl

  one_more : (first n : ℕ) → each_in_order checks first (suc n) a ≡ in_order (lines_at first (checks first)) (each_in_order checks (suc first) n a)
  unfolding each_in_order
  one_more first n = refl

  -- k records that pass are passed over: what is left is the order of the n from there on
  past : (k n from to m : ℕ) → to ≡ from + k → m ≡ k + n → ((i : ℕ) → i < to → Passes (checks i)) → each_in_order checks from m a ≡ each_in_order checks to n a
  past zero n from to m e f p =
      let here : from ≡ to = omega arith in
      let all : m ≡ n = omega arith in
      ap₂ (λ (i l : ℕ). each_in_order checks i l a) here all
  past (suc k) n from to m e f p =
      let more : m ≡ suc (k + n) = omega arith in
      ap (λ (l : ℕ). each_in_order checks from l a) more
      ∙ one_more from (k + n)
      ∙ lines_pass (checks from) (p from (omega arith)) from (each_in_order checks (suc from) (k + n) a)
      ∙ past k n (suc from) to (k + n) (omega arith) refl p

  -- Law: where all records pass it is the last answer.
  pub each_pass : (count : ℕ) → Sound checks count → each_in_order checks 0 count a ≡ a
  each_pass count s = past count 0 0 count count (omega arith) (omega arith) s.each ∙ none_left count

  -- Law: where record i is refused, and those before it pass, it is that refusal at i.
  pub each_refuse : (count i n : ℕ) → i < count → Sound checks i → Refuses (checks i) n → each_in_order checks 0 count a ≡ refused n i
  each_refuse count i n h s r =
      let k = count - suc i in
      past i (suc k) 0 i count (omega arith) (omega arith) s.each ∙ one_more i k ∙ r i (each_in_order checks (suc i) k a)

  -- all records pass, or there is the first that does not
  each_cases : (count : ℕ) → Sound checks count ⊎ ((i : ℕ) × (n : ℕ) × (i < count) × Sound checks i × Refuses (checks i) n)
  each_cases zero = inl sound_none
  each_cases (suc k) =
      ⊎_elim
      (λ s. ⊎_elim (λ p. inl (rw (add-one k) at (sound_on {checks = checks} {n = k} s p))) (λ r. inr (k, r.0, omega arith, s, r.1)) (lines_cases (checks k)))
      (λ r. inr (r.0, r.1, omega arith, r.3, r.4))
      (each_cases k)

  -- Law: what is accepted had no record refused.
  pub each_done : (count : ℕ) {x : List ℕ} {n : ℕ} → each_in_order checks 0 count a ≡ done x n → Sound checks count × (a ≡ done x n)
  each_done count is =
      ⊎_elim (λ s. (s, sym (each_pass count s) ∙ is)) (λ r. not_both is (each_refuse count r.0 r.1 r.2 r.3 r.4)) (each_cases count)

  -- Law: a refusal is the last answer's, or its place is the index of the first record that is refused, with that number.
  pub each_first : (count : ℕ) {n place : ℕ} → each_in_order checks 0 count a ≡ refused n place
      → (Sound checks count × (a ≡ refused n place)) ⊎ ((place < count) × Sound checks place × Refuses (checks place) n)
  each_first count {n} {place} is =
      ⊎_elim
      (λ s. inl (s, sym (each_pass count s) ∙ is))
      (λ r.
      let same = sym (each_refuse count r.0 r.1 r.2 r.3 r.4) ∙ is in
      let number : r.1 ≡ n = cc same in
      let here : r.0 ≡ place = cc same in
      inr (rw (sym number, sym here) (r.2, r.3, r.4)))
      (each_cases count)
