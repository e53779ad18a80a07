-- How readings are taken apart.
use mathlib.Core.Path.{◌≡◌, refl, sym, ap}
use mathlib.Core.Logic.{◌⊎◌, inl, inr}
use Prim.Native.Nat.{ℕ}
use native.Mathlib.Omega.{arith}
use Rattle.answer.specs.Answer.{Answer, done, refused}
use Rattle.answer.proofs.Answers.{refused_as, next_done}
use Rattle.frame.specs.Read.{Reading, wait, answered, onward}

pub wait_same : {A : Type 0} {n m : ℕ} → ◌≡◌ {A = Reading A} (wait n) (wait m) → n ≡ m
wait_same e = cc

pub wait_answered : {A G : Type 0} {n : ℕ} {a : Answer A} → ◌≡◌ {A = Reading A} (wait n) (answered a) → G
wait_answered e = let z : ◌≡◌ {A = ℕ} 0 1 = cc in absurd (omega arith)

pub answered_same : {A : Type 0} {a b : Answer A} → answered a ≡ answered b → a ≡ b
answered_same e = cc

pub reading_cases : {A G : Type 0} (r : Reading A) → ((n : ℕ) → r ≡ wait n → G) → ((number place : ℕ) → r ≡ answered (refused number place) → G)
    → ((x : A) (end : ℕ) → r ≡ answered (done x end) → G) → G
reading_cases (wait n) f g h = f n refl
reading_cases (answered (done x end)) f g h = h x end refl
reading_cases (answered (refused number place)) f g h = g number place refl

-- What is then read of a frame that was cut out: a wait is one of the cut; what is accepted is so of the frame; a refusal is the cut's or the frame's.
module _ {A B : Type 0} (g : A → Answer B) where
  pub onward_waits : (r : Reading A) (n : ℕ) → onward r g ≡ wait n → r ≡ wait n
  onward_waits (wait m) n e = ap wait (wait_same e)
  onward_waits (answered a) n e = wait_answered (sym e)

  pub onward_done : (r : Reading A) {y : B} {used : ℕ} → onward r g ≡ answered (done y used) → (x : A) × (end : ℕ) × (r ≡ answered (done x end)) × (g x ≡ done y used)
  onward_done (wait n) e = wait_answered e
  onward_done (answered a) e = let o = next_done a (λ (x : A) (end : ℕ). g x) (answered_same e) in (o.0, o.1, ap answered o.2, o.3)

  pub onward_refused : (r : Reading A) {number place : ℕ} → onward r g ≡ answered (refused number place)
      → (r ≡ answered (refused number place)) ⊎ ((x : A) × (end : ℕ) × (r ≡ answered (done x end)) × (g x ≡ refused number place))
  onward_refused (wait n) e = wait_answered e
  onward_refused (answered (done x end)) e = inr (x, end, refl, answered_same e)
  onward_refused (answered (refused number place)) e = inl (ap answered (refused_as (answered_same e)))
