-- Laws about lengths as far as they matter.
use mathlib.Core.Path.{◌≡◌, sym, ap, ◌∙◌}
use mathlib.Core.Logic.{⊎_elim}
use Prim.Native.Nat.{ℕ, ◌+◌, ◌≤◌, ◌<◌}
use native.Mathlib.Omega.{arith}
use borrow.Author.Tests.{le-leb, lt-leb}
use Rattle.answer.proofs.Cases.{lt_or_le}
use Rattle.writer.specs.Inner.{capped}

pub capped_in : (most n : ℕ) → n ≤ most → capped most n ≡ n
unfolding capped
capped_in most n h = simp (le-leb n most h)

pub capped_over : (most n : ℕ) → most < n → capped most n ≡ most + 1
unfolding capped
capped_over most n h = simp (lt-leb n most h)

pub capped_most : (most n : ℕ) → capped most n ≤ most + 1
capped_most most n =
    ⊎_elim (λ h. omega (arith, capped_over most n h)) (λ h. omega (arith, capped_in most n h)) (lt_or_le most n)

-- what a capped length says of the length
pub capped_below : (most n : ℕ) → capped most n ≤ most → capped most n ≡ n
capped_below most n h = ⊎_elim (λ l. absurd (omega (arith, capped_over most n l))) (λ l. capped_in most n l) (lt_or_le most n)

-- a sum may be capped in its parts
pub capped_left : (most a b : ℕ) → capped most (capped most a + b) ≡ capped most (a + b)
capped_left most a b =
    ⊎_elim
    (λ h. let e = capped_over most a h in capped_over most (capped most a + b) (omega arith) ∙ sym (capped_over most (a + b) (omega arith)))
    (λ h. ap (λ (n : ℕ). capped most (n + b)) (capped_in most a h))
    (lt_or_le most a)

pub capped_right : (most a b : ℕ) → capped most (a + capped most b) ≡ capped most (a + b)
capped_right most a b = ap (capped most) (omega arith) ∙ capped_left most b a ∙ ap (capped most) (omega arith)
