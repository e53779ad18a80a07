-- How laws take a test or an answer apart.
use mathlib.Core.Path.{◌≡◌, refl, sym, ap, ◌∙◌}
use mathlib.Core.Bool.{Bool, true, false, ◌&&◌}
use mathlib.Core.Logic.{◌⊎◌, inl, inr, ⊎_elim}
use Prim.Native.Nat.{ℕ, zero, suc, ◌≤◌, ◌<◌, zero-le, suc-le-suc}
use native.Mathlib.Omega.{arith}
use mathlib.Core.List.{List, ◌∷◌}
use lib.ListN.{length, drop, get_or}
use lib.Seq.{drop-cons}
use Rattle.answer.specs.Answer.{Answer, done, refused}

-- one of two numbers is below the other, or not
pub lt_or_le : (a b : ℕ) → (a < b) ⊎ (b ≤ a)
lt_or_le a zero = inr zero-le
lt_or_le zero (suc b) = inl (suc-le-suc zero-le)
lt_or_le (suc a) (suc b) = ⊎_elim (λ h. inl (suc-le-suc h)) (λ h. inr (suc-le-suc h)) (lt_or_le a b)

-- a test is true or false
pub bool_cases : {G : Type 0} (p : Bool) → (p ≡ true → G) → (p ≡ false → G) → G
bool_cases true f g = f refl
bool_cases false f g = g refl

-- and not both
pub true_false : {G : Type 0} {p : Bool} → p ≡ true → p ≡ false → G
true_false e f = let z : ◌≡◌ {A = ℕ} 0 1 = cc in absurd (omega arith)

-- where both tests hold, each does
pub both_true : (p q : Bool) → p && q ≡ true → (p ≡ true) × (q ≡ true)
both_true true q e = (refl, e)
both_true false q e = true_false e refl

-- an answer is a success or a refusal
pub answer_cases : {A G : Type 0} (x : Answer A) → ((a : A) (used : ℕ) → x ≡ done a used → G) → ((number place : ℕ) → x ≡ refused number place → G) → G
answer_cases (done a used) f g = f a used refl
answer_cases (refused number place) f g = g number place refl

-- and not both
pub not_both : {A G : Type 0} {x : Answer A} {a : A} {used number place : ℕ} → x ≡ done a used → x ≡ refused number place → G
not_both e f = let z : ◌≡◌ {A = ℕ} 0 1 = cc in absurd (omega arith)

-- What stands at a place.
pub record Stands {A : Type 0} (s : List A) (k : ℕ) (x : A) : Type 0 where
  pub here : k < length s
  pub is : (d : A) → x ≡ get_or s k d

-- `get` found it there
pub found : {A : Type 0} (s : List A) (k : ℕ) {x y : A} → (k < length s) × ((d : A) → x ≡ get_or s k d) → x ≡ y → Stands s k y
found s k p e = record { here = p.0; is = λ d. sym e ∙ p.1 d }

-- and then the rest begins with it
pub stands_first : {A : Type 0} {s : List A} {k : ℕ} {x : A} → Stands s k x → drop k s ≡ x ∷ drop (suc k) s
stands_first {s = s} {k = k} {x = x} p = drop-cons s k x p.here ∙ ap (λ y. y ∷ drop (suc k) s) (sym (p.is x))
