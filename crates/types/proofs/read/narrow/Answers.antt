-- `types::read::narrow` meets its contract: the kind says which bits are kept.
use Prim.Native.Nat.{ℕ, ◌≤◌, ◌<◌}
use mathlib.Core.Path.{◌≡◌, sym, ap, ◌∙◌}
use mathlib.Core.Logic.{⊎_elim}
use native.Mathlib.Omega.{arith}
use Rattle.answer.proofs.Cases.{lt_or_le}
use Rattle.types.specs.Value.{Width, signed32, unsigned32, whole64, integer, shape, narrowed}
use Rattle.types.proofs.Shapes.{shape_is, row}
use Rattle.types.proofs.read.narrow.Goals as goal

-- where the table has one width for a kind, it is what the contract speaks of
bits : (k kind : ℕ) (v : Width) (n : ℕ) → kind ≡ k → shape k ≡ integer v → (w : Width) → shape kind ≡ integer w → narrowed v n ≡ narrowed w n
bits k kind v n is line w e =
    let one : integer v ≡ integer w = sym (row k is line) ∙ e in
    let p : v ≡ w = cc in
    ap (λ (x : Width). narrowed x n) p

rest : (kind n : ℕ) → 2 ≤ kind → kind < 6 → (kind ≡ 2 → ⊥) → (kind ≡ 3 → ⊥) → (w : Width) → shape kind ≡ integer w → n ≡ narrowed w n
rest kind n low high no2 no3 w e =
    ⊎_elim
    (λ h. bits 4 kind whole64 n (omega (arith, four)) shape_is.4 w e)
    (λ h. bits 5 kind whole64 n (omega arith) shape_is.5 w e)
    (lt_or_le kind 5)
  where
    four : 4 ≤ kind
    four = ⊎_elim (λ h. ⊎_elim (λ l. absurd (no2 (omega arith))) (λ l. absurd (no3 (omega arith))) (lt_or_le kind 3)) (λ h. h) (lt_or_le kind 4)

pub returns-in-2 : goal.returns-in-2
returns-in-2 c = λ w e. c.sign_extend.ensures ∙ bits 2 _ signed32 _ c.in-2.is shape_is.2 w e

pub returns-in-3 : goal.returns-in-3
returns-in-3 c = λ w e. bits 3 _ unsigned32 _ c.in-3.is shape_is.3 w e

pub returns-in_default : goal.returns-in_default
returns-in_default c = λ w e. rest _ _ c.requires.0 c.requires.1 (λ e. omega arith) (λ e. omega arith) w e
