-- Laws about what holds of each of some things: of those that it follows for, of more, of their images, of parts, and of records by their index.
use mathlib.Core.Path.{◌≡◌}
use mathlib.Core.List.{List, [], ◌∷◌, ◌++◌, map}
use Prim.Native.Nat.{ℕ, zero, suc, ◌+◌, ◌≤◌, ◌<◌}
use native.Mathlib.Omega.{arith}
use Rattle.answer.specs.Table.{records}

-- Each of some things is so.
abbrev pub Each : {A : Type 0} → (A → Type 0) → List A → Type 0
Each P [] = Unit
Each P (x ∷ xs) = P x × Each P xs

pub each_on : {A : Type 0} {P Q : A → Type 0} → ((x : A) → P x → Q x) → (xs : List A) → Each P xs → Each Q xs
each_on f [] e = tt
each_on f (x ∷ xs) e = (f x e.0, each_on f xs e.1)

pub each_map : {A B : Type 0} {P : A → Type 0} (Q : B → Type 0) (g : A → B) → ((x : A) → P x → Q (g x)) → (xs : List A) → Each P xs → Each Q (map g xs)
each_map Q g f [] e = tt
each_map Q g f (x ∷ xs) e = (f x e.0, each_map Q g f xs e.1)

-- of two lists, and of both in one
pub each_both : {A : Type 0} (P : A → Type 0) (xs ys : List A) → Each P xs → Each P ys → Each P (xs ++ ys)
each_both P [] ys e g = g
each_both P (x ∷ xs) ys e g = (e.0, each_both P xs ys e.1 g)

pub each_parts : {A : Type 0} (P : A → Type 0) (xs ys : List A) → Each P (xs ++ ys) → Each P xs × Each P ys
each_parts P [] ys e = (tt, e)
each_parts P (x ∷ xs) ys e = let o = each_parts P xs ys e.1 in ((e.0, o.0), o.1)

pub each_more : {A : Type 0} (P : A → Type 0) (xs : List A) (x : A) → Each P xs → P x → Each P (xs ++ (x ∷ []))
each_more P xs x e h = each_both P xs (x ∷ []) e (h, tt)

-- of so many records from the first on, and of one of them
pub each_record : {A : Type 0} (P : A → Type 0) (at : ℕ → A) (n first : ℕ) → ((i : ℕ) → first ≤ i → i < first + n → P (at i)) → Each P (records at first n)
unfolding records
each_record P at zero first h = tt
each_record P at (suc n) first h = (h first (omega arith) (omega arith), each_record P at n (suc first) (λ i l m. h i (omega arith) (omega arith)))

pub each_at : {A : Type 0} (P : A → Type 0) (at : ℕ → A) (n first : ℕ) → Each P (records at first n) → (i : ℕ) → i < n → P (at (first + i))
unfolding records
each_at P at zero first e i h = absurd (omega arith)
each_at P at (suc n) first e zero h = let here : first + 0 ≡ first = omega arith in rw here e.0
each_at P at (suc n) first e (suc i) h = let here : first + suc i ≡ suc first + i = omega arith in rw here (each_at P at n (suc first) e.1 i (omega arith))
