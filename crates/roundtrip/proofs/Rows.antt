-- Laws about things that stand in a row in a frame: where each took exactly the bytes that it is written as, all of them did, and only then.
use mathlib.Core.Path.{◌≡◌, refl, sym, ap, ◌∙◌}
use mathlib.Core.List.{List, [], ◌∷◌, ◌++◌, append_assoc}
use Prim.Native.Nat.{ℕ}
use lib.ListN.{length, drop}
use lib.Seq.{drop_at}
use Rattle.answer.specs.Table.{joined}
use Rattle.answer.proofs.Records.{joined_none, joined_on}
use Rattle.answer.proofs.Each.{Each}
use Rattle.answer.proofs.Row.{Row}

-- what stands behind the same form is the same
pub cancel : (form t r : List ℕ) → form ++ t ≡ form ++ r → t ≡ r
cancel form t r e = sym (drop_at form t (length form) refl) ∙ ap (drop (length form)) e ∙ drop_at form r (length form) refl

module _ {P X : Type 0} {Here : P → X → P → Type 0} (place : P → ℕ) (f : List ℕ) (bytes : X → List ℕ) (Plain : X → Type 0)
    (form : (p : P) (x : X) (q : P) → Here p x q → Plain x → drop (place p) f ≡ bytes x ++ drop (place q) f) where
  -- Law: from the place of plain ones on stand the bytes that they are written as, and then what comes next.
  pub row_form : (p : P) (xs : List X) (q : P) → Row Here p xs q → Each Plain xs → drop (place p) f ≡ joined bytes xs ++ drop (place q) f
  row_form p [] q r h = ap (λ (a : P). drop (place a) f) r ∙ ap (λ (l : List ℕ). l ++ drop (place q) f) (sym (joined_none bytes))
  row_form p (x ∷ xs) q r h =
      form p x r.0 r.1 h.0
      ∙ ap (λ (l : List ℕ). bytes x ++ l) (row_form r.0 xs q r.2 h.1)
      ∙ sym (append_assoc (bytes x) (joined bytes xs) (drop (place q) f))
      ∙ ap (λ (l : List ℕ). l ++ drop (place q) f) (sym (joined_on bytes x xs))

  -- Law: and only of plain ones.
  pub row_only : ((p : P) (x : X) (q : P) → Here p x q → (t : List ℕ) → bytes x ++ t ≡ drop (place p) f → Plain x)
      → (p : P) (xs : List X) (q : P) → Row Here p xs q → (t : List ℕ) → joined bytes xs ++ t ≡ drop (place p) f → Each Plain xs × (t ≡ drop (place q) f)
  row_only only p [] q r t is = (tt, ap (λ (l : List ℕ). l ++ t) (sym (joined_none bytes)) ∙ is ∙ ap (λ (a : P). drop (place a) f) r)
  row_only only p (x ∷ xs) q r t is =
      let rest = joined bytes xs ++ t in
      let first : bytes x ++ rest ≡ drop (place p) f = sym (append_assoc (bytes x) (joined bytes xs) t) ∙ ap (λ (l : List ℕ). l ++ t) (sym (joined_on bytes x xs)) ∙ is in
      let plain = only p x r.0 r.1 rest first in
      let more = row_only only r.0 xs q r.2 t (cancel (bytes x) rest (drop (place r.0) f) (first ∙ form p x r.0 r.1 plain)) in
      ((plain, more.0), more.1)
