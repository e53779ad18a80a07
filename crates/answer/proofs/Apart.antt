-- Laws about lists that are told apart by what is written of them, one record after the other, where no form is the start of another.
use mathlib.Core.Path.{◌≡◌, refl, sym, ap, ap₂, ◌∙◌}
use mathlib.Core.List.{List, [], ◌∷◌, ◌++◌, append_assoc}
use Prim.Native.Nat.{ℕ, ◌≤◌}
use native.Mathlib.Omega.{arith}
use lib.ListN.{length, length-append}
use Rattle.answer.specs.Table.{joined}
use Rattle.answer.proofs.Each.{Each}

-- Forms of which none is empty and none is the start of another.
module _ {A : Type 0} (bytes : A → List ℕ) (P : A → Type 0)
    (some : (x : A) → P x → 1 ≤ length (bytes x))
    (front : (x y : A) (t u : List ℕ) → P x → P y → bytes x ++ t ≡ bytes y ++ u → (x ≡ y) × (t ≡ u)) where
  -- Law: two lists that are written the same are the same. They go record by record, and where one ends so does the other.
  pub joined_apart : (xs ys : List A) → Each P xs → Each P ys → joined bytes xs ≡ joined bytes ys → xs ≡ ys
  unfolding joined
  joined_apart [] [] p q e = refl
  joined_apart [] (y ∷ ys) p q e = absurd (omega (arith, some y q.0, length-append (bytes y) (joined bytes ys), ap length e))
  joined_apart (x ∷ xs) [] p q e = absurd (omega (arith, some x p.0, length-append (bytes x) (joined bytes xs), ap length e))
  joined_apart (x ∷ xs) (y ∷ ys) p q e =
      let o = front x y (joined bytes xs) (joined bytes ys) p.0 q.0 e in
      ap₂ ◌∷◌ o.0 (joined_apart xs ys p.1 q.1 o.1)

  -- Law: and so are as many records of each, whatever follows them.
  pub joined_front : (xs ys : List A) (t u : List ℕ) → Each P xs → Each P ys → length xs ≡ length ys → joined bytes xs ++ t ≡ joined bytes ys ++ u
      → (xs ≡ ys) × (t ≡ u)
  unfolding joined
  joined_front [] [] t u p q l e = (refl, e)
  joined_front [] (y ∷ ys) t u p q l e = absurd (omega arith)
  joined_front (x ∷ xs) [] t u p q l e = absurd (omega arith)
  joined_front (x ∷ xs) (y ∷ ys) t u p q l e =
      let o = front x y (joined bytes xs ++ t) (joined bytes ys ++ u) p.0 q.0
      (sym (append_assoc (bytes x) (joined bytes xs) t) ∙ e ∙ append_assoc (bytes y) (joined bytes ys) u) in
      let r = joined_front xs ys t u p.1 q.1 (omega arith) o.1 in
      (ap₂ ◌∷◌ o.0 r.0, r.1)
