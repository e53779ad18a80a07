-- Laws about the same bytes, and about texts with the same lossy text.
use mathlib.Core.Path.{◌≡◌, refl, sym, ap, ap₂, ◌∙◌}
use mathlib.Core.Logic.{◌↔◌}
use mathlib.Core.Bool.{Bool, true, false, ◌&&◌, and_assoc, and-true}
use mathlib.Core.List.{List, [], ◌∷◌, ◌++◌}
use Prim.Native.Nat.{ℕ, ◌+◌, ◌<◌}
use native.Mathlib.Omega.{arith}
use lib.Dec.{eqb, eqb-suc-zero}
use lib.ListN.{length, take, drop, get_or}
use native.Mathlib.Numerals.{add-one}
use lib.Seq.{drop-cons, take_at, take-suc, length-take-le}
use borrow.Author.Tests.{eq-eqb, ne_eqb, eqb-true}
use Rattle.utf8.specs.Text.{Step, ends, char, mark, step, step_size, becomes, is_utf8, lossy, same_bytes, same_text}
use Rattle.answer.proofs.Cases.{bool_cases, true_false, both_true}
use Rattle.utf8.proofs.Stepping.{step_bounds}
use Rattle.utf8.proofs.Lossy.{empty, lossy_on, lossy_none, lossy_char, lossy_mark, lossy_same, lossy_step_char, lossy_step_mark, char_bounds}

-- ---- the same bytes

pub same_refl : (s : List ℕ) → same_bytes s s ≡ true
unfolding same_bytes
same_refl [] = refl
same_refl (b ∷ s) = simp (eq-eqb b b refl, same_refl s)

pub same_true : (s t : List ℕ) → same_bytes s t ≡ true → s ≡ t
unfolding same_bytes
same_true [] [] e = refl
same_true [] (b ∷ t) e = true_false e refl
same_true (a ∷ s) [] e = true_false e refl
same_true (a ∷ s) (b ∷ t) e = let q = both_true (eqb a b) (same_bytes s t) e in ap₂ ◌∷◌ (eqb-true a b q.0) (same_true s t q.1)

pub same_iff : (s t : List ℕ) → (same_bytes s t ≡ true) ↔ (s ≡ t)
same_iff s t = (same_true s t, λ e. rw e (same_refl t))

pub same_apart : (s t : List ℕ) → (s ≡ t → ⊥) → same_bytes s t ≡ false
same_apart s t ne = bool_cases (same_bytes s t) (λ e. absurd (ne (same_true s t e))) (λ e. e)

-- one byte of each
module _ (s t : List ℕ) (i : ℕ) (h : i < length s) (g : i < length t) where
  pub same_next : get_or s i 0 ≡ get_or t i 0 → same_bytes (drop i s) (drop i t) ≡ same_bytes (drop (i + 1) s) (drop (i + 1) t)
  unfolding same_bytes
  same_next e = rw (add-one, drop-cons s i 0 h, drop-cons t i 0 g) (simp (eq-eqb (get_or s i 0) (get_or t i 0) e))

  pub same_stop : (get_or s i 0 ≡ get_or t i 0 → ⊥) → same_bytes (drop i s) (drop i t) ≡ false
  unfolding same_bytes
  same_stop ne = rw (drop-cons s i 0 h, drop-cons t i 0 g) (simp (ne_eqb (get_or s i 0) (get_or t i 0) ne))

-- a test of one byte more
same_last : (s t : List ℕ) (a b : ℕ) → length s ≡ length t → same_bytes (s ++ (a ∷ [])) (t ++ (b ∷ [])) ≡ same_bytes s t && eqb a b
unfolding same_bytes
same_last [] [] a b e = and-true (eqb a b)
same_last [] (y ∷ t) a b e = absurd (omega arith)
same_last (x ∷ s) [] a b e = absurd (omega arith)
same_last (x ∷ s) (y ∷ t) a b e = ap (λ (p : Bool). eqb x y && p) (same_last s t a b (omega arith)) ∙ sym (and_assoc (eqb x y) (same_bytes s t) (eqb a b))

pub same_test : (s t : List ℕ) (i : ℕ) → i < length s → i < length t
    → same_bytes (take i s) (take i t) && eqb (get_or s i 0) (get_or t i 0) ≡ same_bytes (take (i + 1) s) (take (i + 1) t)
same_test s t i h g =
    sym (rw (add-one, take-suc s i 0 h, take-suc t i 0 g)
    (same_last (take i s) (take i t) (get_or s i 0) (get_or t i 0) (length-take-le i s (omega arith) ∙ sym (length-take-le i t (omega arith)))))

pub same_front : (p s t : List ℕ) → same_bytes (p ++ s) (p ++ t) ≡ same_bytes s t
unfolding same_bytes
same_front [] s t = refl
same_front (b ∷ p) s t = simp (eq-eqb b b refl, same_front p s t)

-- ---- law: the same text is equality of the lossy texts

pub same_text_iff : (s t : List ℕ) → (same_text s t ≡ true) ↔ (lossy s ≡ lossy t)
unfolding same_text
same_text_iff s t = same_iff (lossy s) (lossy t)

pub same_text_refl : (s : List ℕ) → same_text s s ≡ true
same_text_refl s = (same_text_iff s s).1 refl

pub same_text_sym : (s t : List ℕ) → same_text s t ≡ true → same_text t s ≡ true
same_text_sym s t e = (same_text_iff t s).1 (sym ((same_text_iff s t).0 e))

pub same_text_trans : (s t u : List ℕ) → same_text s t ≡ true → same_text t u ≡ true → same_text s u ≡ true
same_text_trans s t u e f = (same_text_iff s u).1 ((same_text_iff s t).0 e ∙ (same_text_iff t u).0 f)

-- of well-formed texts it is equality of bytes
pub same_text_well : (s t : List ℕ) → is_utf8 s ≡ true → is_utf8 t ≡ true → (same_text s t ≡ true) ↔ (s ≡ t)
same_text_well s t p q = (
  λ e. sym (lossy_same s p) ∙ (same_text_iff s t).0 e ∙ lossy_same t q,
  λ e. rw e (same_text_refl t),
)

-- ---- walking both at once

-- what a step becomes is what the lossy text starts with, and can be told from it
abbrev pub piece : List ℕ → List ℕ
piece s = becomes (step s) s

abbrev pub rest : List ℕ → List ℕ
rest s = drop (step_size (step s)) s

piece_lossy : (s : List ℕ) → piece (lossy s) ≡ piece s
piece_lossy s = go (step s) refl
  where
    none : step s ≡ ends → s ≡ []
    none is = let h = rw is at (step_bounds s) in empty s (omega arith)

    go : (x : Step) → step s ≡ x → piece (lossy s) ≡ piece s
    go ends is = ap piece (ap lossy (none is) ∙ lossy_none) ∙ ap piece (sym (none is))
    go (char n) is =
        rw (lossy_step_char s n is, is)
        (ap (take n) (lossy_char s n is) ∙ take_at (take n s) (lossy (drop n s)) n (length-take-le n s (char_bounds s n is).1))
    go (mark n) is = rw (lossy_step_mark s n is, is) (ap (take 3) (lossy_mark s n is))

-- Where the first pieces are the same, the rests decide; where not, the lossy texts differ in their first piece.
pub same_text_on : (s t : List ℕ) → same_bytes (piece s) (piece t) ≡ true → same_text s t ≡ same_text (rest s) (rest t)
unfolding same_text
same_text_on s t e =
    ap₂ same_bytes (lossy_on s) (lossy_on t)
    ∙ ap (λ (p : List ℕ). same_bytes (p ++ lossy (rest s)) (piece t ++ lossy (rest t))) (same_true (piece s) (piece t) e)
    ∙ same_front (piece t) (lossy (rest s)) (lossy (rest t))

pub same_text_off : (s t : List ℕ) → same_bytes (piece s) (piece t) ≡ false → same_text s t ≡ false
unfolding same_text
same_text_off s t e =
    same_apart (lossy s) (lossy t)
    (λ q. true_false ((same_iff (piece s) (piece t)).1 (sym (piece_lossy s) ∙ ap piece q ∙ piece_lossy t)) e)

-- ---- at the end

pub same_length : (s t : List ℕ) → (length s ≡ length t → ⊥) → same_bytes s t ≡ false
same_length s t ne = same_apart s t (λ e. ne (ap length e))

pub same_none : (t : List ℕ) → same_bytes [] t ≡ eqb (length t) 0
unfolding same_bytes
same_none [] = refl
same_none (b ∷ t) = sym (eqb-suc-zero (length t))
