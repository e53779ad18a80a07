-- Laws about well-formed text and lossy text: how they unroll step by step, and what each says of the other.
use mathlib.Core.Path.{◌≡◌, refl, sym, ap, ◌∙◌}
use mathlib.Core.Logic.{◌↔◌}
use mathlib.Core.Bool.{true, false, ◌&&◌}
use mathlib.Core.List.{List, [], ◌∷◌, ◌++◌, append_assoc}
use Prim.Native.Nat.{ℕ, zero, suc, ◌-◌, ◌*◌, ◌≤◌, zero-le}
use native.Mathlib.Omega.{arith}
use lib.ListN.{length, take, drop, length-append, length-drop, take-append-drop}
use lib.Seq.{drop_at, length-take-le, take-append-le, drop-append-le}
use Rattle.answer.proofs.Cases.{true_false}
use Rattle.utf8.specs.Text.{Step, ends, char, mark, step, step_size, well_formed, replacement, becomes, by_steps, is_utf8, lossy}
use Rattle.utf8.proofs.Stepping.{Bounded, step_bounds, step_kept, step_none, step_replacement}

-- ---- one step

-- a step leaves fewer bytes, or there were none
rest_length : (s : List ℕ) (left : ℕ) → length s ≤ suc left → length (drop (step_size (step s)) s) ≤ left
rest_length s left h = simp length-drop (go (step s) (step_bounds s))
  where
    go : (x : Step) → Bounded x (length s) → length s - step_size x ≤ left
    go ends b = omega arith
    go (char n) b = omega arith
    go (mark n) b = omega arith

-- no bytes
pub empty : (s : List ℕ) → length s ≤ 0 → s ≡ []
empty [] h = refl
empty (b ∷ s) h = absurd (omega arith)

-- Of a turn that leaves the end as it is where there are no bytes: where the count down starts does not matter, as long as it
-- is enough, so that steps unroll without it. By recursion on both counts.
module _ {A : Type 0} (turn : Step → List ℕ → A → A) (end : A) (over : turn ends [] end ≡ end) where
  none : (left : ℕ) → by_steps turn end left [] ≡ end
  unfolding by_steps
  none zero = refl
  none (suc left) = simp (step_none, none left) over

  enough : (j k : ℕ) (s : List ℕ) → length s ≤ j → length s ≤ k → by_steps turn end j s ≡ by_steps turn end k s
  unfolding by_steps
  enough zero k s h g = rw (empty s h) (sym (none k))
  enough (suc j) zero s h g = rw (empty s g) (none (suc j))
  enough (suc j) (suc k) s h g =
      ap (turn (step s) s) (enough j k (drop (step_size (step s)) s) (rest_length s j h) (rest_length s k g))

  pub by_steps_on : (s : List ℕ)
      → let t = drop (step_size (step s)) s in
      by_steps turn end (length s) s ≡ turn (step s) s (by_steps turn end (length t) t)
  unfolding by_steps
  by_steps_on s =
      let t = drop (step_size (step s)) s in
      enough (length s) (suc (length s)) s (omega arith) (omega arith)
      ∙ ap (turn (step s) s) (enough (length s) (length t) t (rest_length s (length s) (omega arith)) (omega arith))

-- So both unroll.
pub lossy_on : (s : List ℕ) → lossy s ≡ becomes (step s) s ++ lossy (drop (step_size (step s)) s)
unfolding lossy
lossy_on s = by_steps_on (λ x t others. becomes x t ++ others) [] refl s

pub is_utf8_on : (s : List ℕ) → is_utf8 s ≡ well_formed (step s) && is_utf8 (drop (step_size (step s)) s)
unfolding is_utf8
is_utf8_on s = by_steps_on (λ x t others. well_formed x && others) true refl s

pub lossy_none : lossy [] ≡ []
unfolding lossy by_steps
lossy_none = refl

pub is_utf8_none : is_utf8 [] ≡ true
unfolding is_utf8 by_steps
is_utf8_none = refl

module _ (s : List ℕ) (n : ℕ) where
  pub lossy_char : step s ≡ char n → lossy s ≡ take n s ++ lossy (drop n s)
  lossy_char is = rw is at (lossy_on s)

  pub lossy_mark : step s ≡ mark n → lossy s ≡ replacement ++ lossy (drop n s)
  lossy_mark is = rw is at (lossy_on s)

  pub is_utf8_char : step s ≡ char n → is_utf8 s ≡ is_utf8 (drop n s)
  is_utf8_char is = rw is at (is_utf8_on s)

  pub is_utf8_mark : step s ≡ mark n → is_utf8 s ≡ false
  is_utf8_mark is = rw is at (is_utf8_on s)

  pub char_bounds : step s ≡ char n → (1 ≤ n) × (n ≤ length s) × (n ≤ 4)
  char_bounds is = rw is at (step_bounds s)

  pub mark_bounds : step s ≡ mark n → (1 ≤ n) × (n ≤ length s) × (n ≤ 3)
  mark_bounds is = rw is at (step_bounds s)

-- A law about a text goes step by step: it holds of no bytes, and of some where it holds behind their first step.
module _ (P : List ℕ → Type 0) (none : P [])
    (one : (s : List ℕ) (n : ℕ) → step s ≡ char n → P (drop n s) → P s)
    (bad : (s : List ℕ) (n : ℕ) → step s ≡ mark n → P (drop n s) → P s) where
  next : (s : List ℕ) (x : Step) → step s ≡ x → P (drop (step_size x) s) → P s
  next s ends is p = p
  next s (char n) is p = one s n is p
  next s (mark n) is p = bad s n is p

  within_steps : (left : ℕ) (s : List ℕ) → length s ≤ left → P s
  within_steps zero s h = rw (empty s h) none
  within_steps (suc left) s h = next s (step s) refl (within_steps left (drop (step_size (step s)) s) (rest_length s left h))

  pub by_steps_lem : (s : List ℕ) → P s
  by_steps_lem s = within_steps (length s) s (omega arith)

-- ---- law: lossy text is well-formed, of a well-formed text it is that text, and so on

-- the first step of a lossy text
module _ (s : List ℕ) (n : ℕ) where
  pub lossy_step_char : step s ≡ char n → step (lossy s) ≡ char n
  lossy_step_char is = rw (lossy_char s n is) (step_kept s (lossy (drop n s)) n is)

  pub lossy_step_mark : step s ≡ mark n → step (lossy s) ≡ char 3
  lossy_step_mark is = rw (lossy_mark s n is) (step_replacement (lossy (drop n s)))

  lossy_rest_char : step s ≡ char n → drop n (lossy s) ≡ lossy (drop n s)
  lossy_rest_char is = rw (lossy_char s n is) (drop_at (take n s) (lossy (drop n s)) n (length-take-le n s (char_bounds s n is).1))

  lossy_rest_mark : step s ≡ mark n → drop 3 (lossy s) ≡ lossy (drop n s)
  lossy_rest_mark is = rw (lossy_mark s n is)

-- Each step becomes a well-formed sequence, which is the lossy text's first step.
pub lossy_well : (s : List ℕ) → is_utf8 (lossy s) ≡ true
lossy_well =
    by_steps_lem (λ (s : List ℕ). is_utf8 (lossy s) ≡ true)
    (ap is_utf8 lossy_none ∙ is_utf8_none)
    (λ s n is p. is_utf8_char (lossy s) n (lossy_step_char s n is) ∙ ap is_utf8 (lossy_rest_char s n is) ∙ p)
    (λ s n is p. is_utf8_char (lossy s) 3 (lossy_step_mark s n is) ∙ ap is_utf8 (lossy_rest_mark s n is) ∙ p)

-- A well-formed text has no mark, and every other step becomes itself.
pub lossy_same : (s : List ℕ) → is_utf8 s ≡ true → lossy s ≡ s
lossy_same =
    by_steps_lem (λ (s : List ℕ). is_utf8 s ≡ true → lossy s ≡ s)
    (λ e. lossy_none)
    (λ s n is p e.
    lossy_char s n is
    ∙ ap (λ (l : List ℕ). take n s ++ l) (p (sym (is_utf8_char s n is) ∙ e))
    ∙ take-append-drop n s)
    (λ s n is p e. true_false e (is_utf8_mark s n is))

pub well_iff : (s : List ℕ) → (is_utf8 s ≡ true) ↔ (lossy s ≡ s)
well_iff s = (lossy_same s, λ e. sym (ap is_utf8 e) ∙ lossy_well s)

pub lossy_again : (s : List ℕ) → lossy (lossy s) ≡ lossy s
lossy_again s = lossy_same (lossy s) (lossy_well s)

-- ---- law: it is at most three times as long, since a step of one byte becomes at most three

pub lossy_length : (s : List ℕ) → length (lossy s) ≤ 3 * length s
lossy_length =
    by_steps_lem (λ (s : List ℕ). length (lossy s) ≤ 3 * length s)
    (rw lossy_none zero-le)
    (λ s n is p.
    let b = char_bounds s n is in
    let q = rw (length-drop n s) at p in
    rw (lossy_char s n is) (rw (length-append (take n s) (lossy (drop n s)), length-take-le n s b.1) (omega arith)))
    (λ s n is p.
    let b = mark_bounds s n is in
    let q = rw (length-drop n s) at p in
    rw (lossy_mark s n is) (omega arith))

-- ---- law: a well-formed text in front stays in front, since each of its steps does

module _ (b : List ℕ) where
  step_front : (a : List ℕ) (n : ℕ) → step a ≡ char n → step (a ++ b) ≡ char n
  step_front a n is = rw (sym (take-append-drop n a)) (rw (append_assoc (take n a) (drop n a) b) (step_kept a (drop n a ++ b) n is))

  pub lossy_front : (a : List ℕ) → is_utf8 a ≡ true → lossy (a ++ b) ≡ a ++ lossy b
  lossy_front =
      by_steps_lem (λ (a : List ℕ). is_utf8 a ≡ true → lossy (a ++ b) ≡ a ++ lossy b)
      (λ e. refl)
      (λ a n is p e.
      let le = (char_bounds a n is).1 in
      lossy_char (a ++ b) n (step_front a n is)
      ∙ rw (take-append-le n a b le, drop-append-le n a b le)
      (ap (λ (l : List ℕ). take n a ++ l) (p (sym (is_utf8_char a n is) ∙ e))
      ∙ sym (append_assoc (take n a) (drop n a) (lossy b))
      ∙ ap (λ (l : List ℕ). l ++ lossy b) (take-append-drop n a)))
      (λ a n is p e. true_false e (is_utf8_mark a n is))

  pub is_utf8_front : (a : List ℕ) → is_utf8 a ≡ true → is_utf8 (a ++ b) ≡ is_utf8 b
  is_utf8_front =
      by_steps_lem (λ (a : List ℕ). is_utf8 a ≡ true → is_utf8 (a ++ b) ≡ is_utf8 b)
      (λ e. refl)
      (λ a n is p e.
      is_utf8_char (a ++ b) n (step_front a n is)
      ∙ ap is_utf8 (drop-append-le n a b (char_bounds a n is).1)
      ∙ p (sym (is_utf8_char a n is) ∙ e))
      (λ a n is p e. true_false e (is_utf8_mark a n is))
