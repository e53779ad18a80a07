-- Bytes of which each fits the three before it are well-formed text, so a text can be tested without its steps.
use mathlib.Core.Path.{◌≡◌, refl, ap, subst, ◌∙◌}
use mathlib.Core.Bool.{Bool, true, false, not, ◌&&◌, ◌||◌, and-false}
use mathlib.Core.List.{List, [], ◌∷◌}
use mathlib.Core.Logic.{◌⊎◌, inl, inr, ⊎_elim}
use Prim.Native.Nat.{ℕ, zero, suc, ◌+◌, ◌-◌, ◌≤◌, ◌<◌, zero-le}
use native.Mathlib.Omega.{arith}
use lib.Dec.{ltb, leb, eqb}
use lib.ListN.{length, drop, get_or}
use lib.Seq.{get_or-drop}
use borrow.Author.Tests.{ltb-true, leb-true, le-ltb, le-leb, lt-leb, eq-eqb}
use Rattle.answer.proofs.Cases.{lt_or_le, bool_cases, true_false, both_true}
use Rattle.utf8.specs.Text.{Range, ◌to◌, row, rows, follow, in_range, matching, led, row_for, char, step, is_utf8}
use Rattle.utf8.specs.Inner.{Fits, FitsAt, FitTo, FirstFit, EndsWhole}
use Rattle.utf8.proofs.Stepping.{in_range_in, step_for_lem, step_ascii}
use Rattle.utf8.proofs.Lossy.{empty, is_utf8_none, is_utf8_char}

-- ---- the test of one byte

-- the second of two tests decides where the first does not hold
either : (p q : Bool) → p || q ≡ true → p ≡ false → q ≡ true
either true q e f = true_false e f
either false q e f = e

either_not : (p q : Bool) → not p || q ≡ true → p ≡ true → q ≡ true
either_not true q e f = e
either_not false q e f = true_false f refl

module _ (a b c d : ℕ) where
  abbrev leads : Bool
  leads = leb 0xC0 c || leb 0xE0 b || leb 0xF0 a || ltb d 0x80 || (leb 0xC2 d && leb d 0xF4)

  abbrev unwanted : Bool
  unwanted = ltb c 0xC0 && ltb b 0xE0 && ltb a 0xF0

  abbrev follows : Bool
  follows = unwanted || (leb 0x80 d && leb d 0xBF)

  abbrev narrow_e0 : Bool
  narrow_e0 = not (eqb c 0xE0) || leb 0xA0 d

  abbrev narrow_ed : Bool
  narrow_ed = not (eqb c 0xED) || leb d 0x9F

  abbrev narrow_f0 : Bool
  narrow_f0 = not (eqb c 0xF0) || leb 0x90 d

  abbrev narrow_f4 : Bool
  narrow_f4 = not (eqb c 0xF4) || leb d 0x8F

  -- the tests of `fits`, one by one
  pub fits_by : leads && follows && narrow_e0 && narrow_ed && narrow_f0 && narrow_f4 ≡ true → Fits a b c d
  fits_by t =
      let f4 = both_true (leads && follows && narrow_e0 && narrow_ed && narrow_f0) narrow_f4 t in
      let f0 = both_true (leads && follows && narrow_e0 && narrow_ed) narrow_f0 f4.0 in
      let ed = both_true (leads && follows && narrow_e0) narrow_ed f0.0 in
      let e0 = both_true (leads && follows) narrow_e0 ed.0 in
      let is = both_true leads follows e0.0 in
      record {
        lead = λ h g k. alone (simp (lt-leb 0xC0 c k, lt-leb 0xE0 b g, lt-leb 0xF0 a h) at is.0);
        second = λ h. wanted is.1 (simp (le-ltb c 0xC0 h));
        third = λ h. wanted is.1 (simp (le-ltb b 0xE0 h, and-false));
        fourth = λ h. wanted is.1 (simp (le-ltb a 0xF0 h, and-false));
        after_e0 = λ q. leb-true 0xA0 d (either_not (eqb c 0xE0) (leb 0xA0 d) e0.1 (eq-eqb c 0xE0 q));
        after_ed = λ q. leb-true d 0x9F (either_not (eqb c 0xED) (leb d 0x9F) ed.1 (eq-eqb c 0xED q));
        after_f0 = λ q. leb-true 0x90 d (either_not (eqb c 0xF0) (leb 0x90 d) f0.1 (eq-eqb c 0xF0 q));
        after_f4 = λ q. leb-true d 0x8F (either_not (eqb c 0xF4) (leb d 0x8F) f4.1 (eq-eqb c 0xF4 q));
      }
    where
      alone : ltb d 0x80 || (leb 0xC2 d && leb d 0xF4) ≡ true → (d < 0x80) ⊎ ((0xC2 ≤ d) × (d ≤ 0xF4))
      alone e =
          bool_cases (ltb d 0x80)
          (λ p. inl (ltb-true d 0x80 p))
          (λ p.
          let q = both_true (leb 0xC2 d) (leb d 0xF4) (either (ltb d 0x80) (leb 0xC2 d && leb d 0xF4) e p) in
          inr (leb-true 0xC2 d q.0, leb-true d 0xF4 q.1))

      wanted : follows ≡ true → unwanted ≡ false → (0x80 ≤ d) × (d ≤ 0xBF)
      wanted e p =
          let q = both_true (leb 0x80 d) (leb d 0xBF) (either unwanted (leb 0x80 d && leb d 0xBF) e p) in
          (leb-true 0x80 d q.0, leb-true d 0xBF q.1)

-- ---- the row of a first byte

-- the row of d has n bytes, and its second can be e
record Begun (d e n : ℕ) : Type 0 where
  lead : Range
  second : Range
  is : row_for rows d ≡ led (row lead second n)
  can : in_range second e ≡ true

-- from E0 on it is none of the first two rows, and from F0 on none of the first six
past_two : (d : ℕ) → 0xE0 ≤ d → row_for rows d ≡ row_for (drop 2 rows) d
unfolding row_for rows in_range
past_two d h = simp (le-leb 0 d zero-le, lt-leb d 0x7F (omega arith), le-leb 0xC2 d (omega arith), lt-leb d 0xDF (omega arith))

past_six : (d : ℕ) → 0xF0 ≤ d → row_for rows d ≡ row_for (drop 6 rows) d
unfolding row_for rows in_range
past_six d h =
    past_two d (omega arith)
    ∙ simp (le-leb 0xE0 d (omega arith), lt-leb d 0xE0 (omega arith), le-leb 0xE1 d (omega arith), lt-leb d 0xEC (omega arith), le-leb 0xED d (omega arith), lt-leb d 0xED (omega arith), le-leb 0xEE d (omega arith), lt-leb d 0xEF (omega arith))

begun_two : {a b : ℕ} (d e : ℕ) → 0xC2 ≤ d → d ≤ 0xDF → Fits a b d e → Begun d e 2
unfolding row_for rows in_range
begun_two d e h g f =
    let q = f.second (omega arith) in
    record {
      lead = 0xC2 to 0xDF;
      second = 0x80 to 0xBF;
      is = simp (le-leb 0 d zero-le, lt-leb d 0x7F (omega arith), le-leb 0xC2 d h, le-leb d 0xDF g);
      can = in_range_in 0x80 0xBF e q.0 q.1;
    }

-- by whether it is one of the two with a narrower range
begun_three : {a b : ℕ} (d e : ℕ) → 0xE0 ≤ d → d ≤ 0xEF → Fits a b d e → Begun d e 3
unfolding row_for rows in_range
begun_three d e h g f =
    let q = f.second (omega arith) in
    ⊎_elim
    (λ l.
    let k : d ≡ 0xE0 = omega arith in
    record { lead = 0xE0 to 0xE0; second = 0xA0 to 0xBF; is = rw k refl; can = in_range_in 0xA0 0xBF e (f.after_e0 k) q.1 })
    (λ l. ⊎_elim
    (λ m. record {
      lead = 0xE1 to 0xEC;
      second = 0x80 to 0xBF;
      is = past_two d h ∙ simp (le-leb 0xE0 d h, lt-leb d 0xE0 (omega arith), le-leb 0xE1 d l, le-leb d 0xEC (omega arith));
      can = in_range_in 0x80 0xBF e q.0 q.1;
    })
    (λ m. ⊎_elim
    (λ o.
    let k : d ≡ 0xED = omega arith in
    record { lead = 0xED to 0xED; second = 0x80 to 0x9F; is = rw k refl; can = in_range_in 0x80 0x9F e q.0 (f.after_ed k) })
    (λ o. record {
      lead = 0xEE to 0xEF;
      second = 0x80 to 0xBF;
      is = past_two d h ∙ simp (le-leb 0xE0 d h, lt-leb d 0xE0 (omega arith), le-leb 0xE1 d l, lt-leb d 0xEC (omega arith), le-leb 0xED d m, lt-leb d 0xED (omega arith), le-leb 0xEE d o, le-leb d 0xEF g);
      can = in_range_in 0x80 0xBF e q.0 q.1;
    })
    (lt_or_le d 0xEE))
    (lt_or_le d 0xED))
    (lt_or_le d 0xE1)

begun_four : {a b : ℕ} (d e : ℕ) → 0xF0 ≤ d → d ≤ 0xF4 → Fits a b d e → Begun d e 4
unfolding row_for rows in_range
begun_four d e h g f =
    let q = f.second (omega arith) in
    ⊎_elim
    (λ l.
    let k : d ≡ 0xF0 = omega arith in
    record { lead = 0xF0 to 0xF0; second = 0x90 to 0xBF; is = rw k refl; can = in_range_in 0x90 0xBF e (f.after_f0 k) q.1 })
    (λ l. ⊎_elim
    (λ m. record {
      lead = 0xF1 to 0xF3;
      second = 0x80 to 0xBF;
      is = past_six d h ∙ simp (le-leb 0xF0 d h, lt-leb d 0xF0 (omega arith), le-leb 0xF1 d l, le-leb d 0xF3 (omega arith));
      can = in_range_in 0x80 0xBF e q.0 q.1;
    })
    (λ m.
    let k : d ≡ 0xF4 = omega arith in
    record { lead = 0xF4 to 0xF4; second = 0x80 to 0x8F; is = rw k refl; can = in_range_in 0x80 0x8F e q.0 (f.after_f4 k) })
    (lt_or_le d 0xF4))
    (lt_or_le d 0xF1)

-- ---- a step from there

abbrev Later : ℕ → Type 0
Later b = (0x80 ≤ b) × (b ≤ 0xBF)

step_two : (d e : ℕ) (s : List ℕ) → Begun d e 2 → step (d ∷ e ∷ s) ≡ char 2
unfolding follow matching
step_two d e s r = step_for_lem (d ∷ e ∷ s) d (omega arith) refl ∙ rw r.is (simp r.can)

step_three : (d e f : ℕ) (s : List ℕ) → Begun d e 3 → Later f → step (d ∷ e ∷ f ∷ s) ≡ char 3
unfolding follow matching
step_three d e f s r p = step_for_lem (d ∷ e ∷ f ∷ s) d (omega arith) refl ∙ rw r.is (simp (r.can, in_range_in 0x80 0xBF f p.0 p.1))

step_four : (d e f g : ℕ) (s : List ℕ) → Begun d e 4 → Later f → Later g → step (d ∷ e ∷ f ∷ g ∷ s) ≡ char 4
unfolding follow matching
step_four d e f g s r p q =
    step_for_lem (d ∷ e ∷ f ∷ g ∷ s) d (omega arith) refl ∙ rw r.is (simp (r.can, in_range_in 0x80 0xBF f p.0 p.1, in_range_in 0x80 0xBF g q.0 q.1))

-- ---- the bytes of a text one by one

-- Each byte fits the three before it, of which a, b and c stand before the first, and the last three want none behind them.
data Run : ℕ → ℕ → ℕ → List ℕ → Type 0 where
  over : {a b c : ℕ} → a < 0xF0 → b < 0xE0 → c < 0xC0 → Run a b c []
  on : {a b c d : ℕ} {s : List ℕ} → Fits a b c d → Run b c d s → Run a b c (d ∷ s)

-- where none of the three wants more, the bytes are well-formed
abbrev Well : ℕ → Type 0
Well left = (a b c : ℕ) (s : List ℕ) → length s ≤ left → a < 0xF0 → b < 0xE0 → c < 0xC0 → Run a b c s → is_utf8 s ≡ true

-- By its first byte: as many as it wants follow it, and behind them nothing is wanted again.
module _ (left : ℕ) (well : Well left) where
  two : (b c d : ℕ) (s : List ℕ) → length s ≤ left → c < 0xC0 → 0xC2 ≤ d → d ≤ 0xDF → Run b c d s → is_utf8 (d ∷ s) ≡ true
  two b c d [] h k l g (over x y z) = absurd (omega arith)
  two b c d (e ∷ s) h k l g (on p r) =
      let q = p.second (omega arith) in
      is_utf8_char (d ∷ e ∷ s) 2 (step_two d e s (begun_two d e l g p))
      ∙ well c d e s (omega arith) (omega arith) (omega arith) (omega (arith, q.1)) r

  three : (b c d : ℕ) (s : List ℕ) → length s ≤ left → 0xE0 ≤ d → d ≤ 0xEF → Run b c d s → is_utf8 (d ∷ s) ≡ true
  three b c d [] h l g (over x y z) = absurd (omega arith)
  three b c d (e ∷ []) h l g (on p (over x y z)) = absurd (omega arith)
  three b c d (e ∷ f ∷ s) h l g (on p (on o r)) =
      let q = p.second (omega arith) in
      let t = o.third l in
      is_utf8_char (d ∷ e ∷ f ∷ s) 3 (step_three d e f s (begun_three d e l g p) t)
      ∙ well d e f s (omega arith) (omega arith) (omega (arith, q.1)) (omega (arith, t.1)) r

  four : (b c d : ℕ) (s : List ℕ) → length s ≤ left → 0xF0 ≤ d → d ≤ 0xF4 → Run b c d s → is_utf8 (d ∷ s) ≡ true
  four b c d [] h l g (over x y z) = absurd (omega arith)
  four b c d (e ∷ []) h l g (on p (over x y z)) = absurd (omega arith)
  four b c d (e ∷ f ∷ []) h l g (on p (on o (over x y z))) = absurd (omega arith)
  four b c d (e ∷ f ∷ i ∷ s) h l g (on p (on o (on n r))) =
      let q = p.second (omega arith) in
      let t = o.third (omega arith) in
      let u = n.fourth l in
      is_utf8_char (d ∷ e ∷ f ∷ i ∷ s) 4 (step_four d e f i s (begun_four d e l g p) t u)
      ∙ well e f i s (omega arith) (omega (arith, q.1)) (omega (arith, t.1)) (omega (arith, u.1)) r

  first : (a b c d : ℕ) (s : List ℕ) → length s ≤ left → a < 0xF0 → b < 0xE0 → c < 0xC0 → Fits a b c d → Run b c d s → is_utf8 (d ∷ s) ≡ true
  first a b c d s h x y z p r =
      ⊎_elim
      (λ l. is_utf8_char (d ∷ s) 1 (step_ascii d s l) ∙ well b c d s h (omega arith) (omega arith) (omega arith) r)
      (λ l. ⊎_elim
      (λ k. two b c d s h z l.0 (omega arith) r)
      (λ k. ⊎_elim (λ m. three b c d s h k (omega arith) r) (λ m. four b c d s h m l.1 r) (lt_or_le d 0xF0))
      (lt_or_le d 0xE0))
      (p.lead x y z)

  any : Well (suc left)
  any a b c [] h x y z r = is_utf8_none
  any a b c (d ∷ s) h x y z (on p r) = first a b c d s (omega arith) x y z p r

well_run : (left : ℕ) → Well left
well_run zero a b c s h x y z r = rw (empty s h) is_utf8_none
well_run (suc left) a b c s h x y z r = any left (λ e f g t i u v w q. well_run left e f g t i u v w q) a b c s h x y z r

-- ---- from places to bytes

module _ (s : List ℕ) (at j : ℕ) where
  behind : FitsAt s (at + j) → FitsAt (drop at s) j
  behind f =
      let p : at + j + 1 ≡ at + (j + 1) = omega arith in
      let q : at + j + 2 ≡ at + (j + 2) = omega arith in
      let o : at + j + 3 ≡ at + (j + 3) = omega arith in
      rw (get_or-drop at s j 0, get_or-drop at s (j + 1) 0, get_or-drop at s (j + 2) 0, get_or-drop at s (j + 3) 0) (rw (p, q, o) at f)

  ahead : FitsAt (drop at s) j → FitsAt s (at + j)
  ahead f =
      let p : at + j + 1 ≡ at + (j + 1) = omega arith in
      let q : at + j + 2 ≡ at + (j + 2) = omega arith in
      let o : at + j + 3 ≡ at + (j + 3) = omega arith in
      rw (p, q, o) (rw (get_or-drop at s j 0, get_or-drop at s (j + 1) 0, get_or-drop at s (j + 2) 0, get_or-drop at s (j + 3) 0) at f)

-- a block more
pub fit_on : (s : List ℕ) (at k : ℕ) → FitTo s at → FitTo (drop at s) k → FitTo s (at + k)
fit_on s at k before more i h =
    ⊎_elim
    (λ l. before i l)
    (λ l. let e : at + (i - at) ≡ i = omega arith in subst (λ (m : ℕ). FitsAt s m) e (ahead s at (i - at) (more (i - at) (omega arith))))
    (lt_or_le i at)

ends_behind : (a : ℕ) (s : List ℕ) → 3 ≤ length s → EndsWhole (a ∷ s) → EndsWhole s
ends_behind a s h e = record { one = rw (same 1 (omega arith)) e.one; two = rw (same 2 (omega arith)) e.two; three = rw (same 3 h) e.three }
  where
    same : (j : ℕ) → j ≤ length s → get_or s (length s - j) 0 ≡ get_or (a ∷ s) (suc (length s) - j) 0
    same j g =
        let e : 1 + (length s - j) ≡ suc (length s) - j = omega arith in
        get_or-drop 1 (a ∷ s) (length s - j) 0 ∙ ap (λ (k : ℕ). get_or (a ∷ s) k 0) e

run_of : (a b c : ℕ) (s : List ℕ) → FitTo (a ∷ b ∷ c ∷ s) (length s) → EndsWhole (a ∷ b ∷ c ∷ s) → Run a b c s
run_of a b c [] f e = over e.three e.two e.one
run_of a b c (d ∷ s) f e =
    on (f 0 (omega arith))
    (run_of b c d s (λ i h. behind (a ∷ b ∷ c ∷ d ∷ s) 1 i (f (1 + i) (omega arith))) (ends_behind a (b ∷ c ∷ d ∷ s) (omega arith) e))

-- all bytes fit
pub fit_well : (s : List ℕ) → 3 ≤ length s → FirstFit s → EndsWhole s → FitTo s (length s - 3) → is_utf8 s ≡ true
fit_well [] h i e f = absurd (omega arith)
fit_well (a ∷ []) h i e f = absurd (omega arith)
fit_well (a ∷ b ∷ []) h i e f = absurd (omega arith)
fit_well (a ∷ b ∷ c ∷ s) h i e f =
    well_run (length (a ∷ b ∷ c ∷ s)) 0 0 0 (a ∷ b ∷ c ∷ s) (omega arith) (omega arith) (omega arith) (omega arith)
    (on i.one (on i.two (on i.three (run_of a b c s (λ j g. f j (omega arith)) e))))
