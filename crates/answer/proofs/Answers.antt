-- How answers are taken apart: what two that are the same say of each other, and what an accepted one has passed.
use mathlib.Core.Path.{◌≡◌, refl, sym, ap, ◌∙◌}
use mathlib.Core.Bool.{Bool, true, false, cond}
use mathlib.Core.List.{List}
use Prim.Native.Nat.{ℕ, ◌-◌}
use lib.ListN.{length, take, drop, length-drop}
use native.Mathlib.Omega.{arith}
use Rattle.std.specs.Prelude.{◌+◌, ◌^◌, ◌<◌, ◌≤◌, min, Result, Ok, Err, MatchResult}
use Rattle.answer.specs.declared.Read.{Read}
use Rattle.answer.specs.declared.Refusal.{Refusal}
use Rattle.answer.specs.Reason.{number_of}
use Rattle.answer.specs.Writes.{read_said, read_behind}
use Rattle.answer.specs.Answer.{Answer, done, refused, next}
use Rattle.answer.proofs.Cases.{not_both}
use Rattle.answer.proofs.Output.{lent_tail_lem}

-- what a reader says of `&s[at..]`, which it was lent
pub lent : {A : Type 0} (reader : List ℕ → Answer A) (s : List ℕ) (at : ℕ) {a b : Answer A} → a ≡ reader (take (length s - at) (drop at s)) → a ≡ b → reader (drop at s) ≡ b
lent reader s at e is = ap reader (sym (lent_tail_lem at s)) ∙ sym e ∙ is

pub done_same : {A : Type 0} {x y : A} {m k : ℕ} → ◌≡◌ {A = Answer A} (done x m) (done y k) → (x ≡ y) × (m ≡ k)
done_same e = ((cc), (cc))

pub refused_same : {A : Type 0} {n place m p : ℕ} → ◌≡◌ {A = Answer A} (refused n place) (refused m p) → (n ≡ m) × (place ≡ p)
refused_same e = ((cc), (cc))

-- a refusal of something is one of anything else
pub refused_as : {A B : Type 0} {n place m p : ℕ} → ◌≡◌ {A = Answer A} (refused n place) (refused m p) → ◌≡◌ {A = Answer B} (refused n place) (refused m p)
refused_as {n = n} {place = place} {m = m} {p = p} e = let q : n ≡ m = cc in let o : place ≡ p = cc in cc

-- what an accepted answer has passed: a line of an order, and what was read before it
pub line_passed : {A : Type 0} {x : A} {k : ℕ} (p : Bool) (a : Answer A) (number place : ℕ) → cond p a (refused number place) ≡ done x k → (p ≡ true) × (a ≡ done x k)
line_passed true a number place e = (refl, e)
line_passed false a number place e = not_both e refl

pub next_done : {A B : Type 0} {y : B} {k : ℕ} (a : Answer A) (g : A → ℕ → Answer B) → next a g ≡ done y k → (x : A) × (n : ℕ) × (a ≡ done x n) × (g x n ≡ done y k)
next_done (done x n) g e = (x, n, refl, e)
next_done (refused number place) g e = not_both e refl

-- ---- behind other bytes

-- how many bytes it took, or where it is refused
abbrev pub ends : {A : Type 0} → Answer A → ℕ
ends (done a used) = used
ends (refused number place) = place

-- What a reader that ends within its bytes says of those that it was lent, from a place on, ends within all of them.
pub lent_ends : {A : Type 0} (reader : List ℕ → Answer A) → ((t : List ℕ) → ends (reader t) ≤ length t)
    → (s : List ℕ) (at : ℕ) {a : Answer A} → a ≡ reader (take (length s - at) (drop at s)) → at ≤ length s → at + ends a ≤ length s
lent_ends reader within s at e h = rw (e, lent_tail_lem at s) (omega (arith, within (drop at s), length-drop at s))

-- What was read behind n other bytes was read, so many bytes sooner.
pub behind_done : {A : Type 0} (n : ℕ) (r : Result (Read A) Refusal) {x : Read A} → Ok x ≡ read_behind n r → n + ends (read_said r) < 2 ^ 64
    → (used : ℕ) × (read_said r ≡ done x.value used) × (x.used ≡ n + used)
behind_done n (Ok y) {x} e h =
    let v : x.value ≡ y.value = cc in
    let u : x.used ≡ min (n + y.used) (2 ^ 64 - 1) = cc in
    (y.used, ap (λ a. done a y.used) (sym v), omega (arith, u))
behind_done n (Err q) e h = absurd (cc e)

pub behind_refused : {A : Type 0} (n : ℕ) (r : Result (Read A) Refusal) {y : Refusal} → Err y ≡ read_behind n r → n + ends (read_said r) < 2 ^ 64
    → (place : ℕ) × (read_said r ≡ refused (number_of y.reason) place) × (y.place ≡ n + place)
behind_refused n (Ok x) e h = absurd (cc e)
behind_refused n (Err q) {y} e h =
    let v : y.reason ≡ q.reason = cc in
    let u : y.place ≡ min (n + q.place) (2 ^ 64 - 1) = cc in
    (q.place, ap (λ k. refused (number_of k) q.place) (sym v), omega (arith, u))

-- So no count of 64 bits is passed where what was read is told from the front of the whole.
pub sum_fits : {A : Type 0} (n : ℕ) (r : Result (Read A) Refusal) → n + ends (read_said r) < 2 ^ 64 → MatchResult r (λ x. n + x.used < 2 ^ 64) (λ y. n + y.place < 2 ^ 64)
sum_fits n (Ok x) h = h
sum_fits n (Err y) h = h

-- The same of a reader that was lent the bytes from a place on, whatever is made of what it read.
module _ {A B : Type 0} (told : Result (Read A) Refusal → Answer B) (f : A → B) (same : (r : Result (Read A) Refusal) → told r ≡ next (read_said r) (λ x used. done (f x) used))
    (reader : List ℕ → Answer B) (within : (t : List ℕ) → ends (reader t) ≤ length t)
    (s : List ℕ) (at : ℕ) (here : at ≤ length s) (long : length s < 2 ^ 63)
    (r : Result (Read A) Refusal) (says : told r ≡ reader (take (length s - at) (drop at s))) where
  same_ends : (q : Result (Read A) Refusal) → ends (told q) ≡ ends (read_said q)
  same_ends (Ok x) = ap ends (same (Ok x))
  same_ends (Err y) = ap ends (same (Err y))

  bound : at + ends (read_said r) < 2 ^ 64
  bound = omega (arith, lent_ends reader within s at says here, same_ends r)

  pub at_fits : MatchResult r (λ x. at + x.used < 2 ^ 64) (λ y. at + y.place < 2 ^ 64)
  at_fits = sum_fits at r bound

  pub at_done : {x : Read A} → Ok x ≡ read_behind at r → (used : ℕ) × (reader (drop at s) ≡ done (f x.value) used) × (x.used ≡ at + used) × (x.used ≤ length s)
  at_done {x} e =
      let o = behind_done at r e bound in
      let is : told r ≡ done (f x.value) o.0 = same r ∙ rw o.1 refl in
      (o.0, lent reader s at says is, o.2, omega (arith, lent_ends reader within s at says here, ap ends is, o.2))

  pub at_refused : {y : Refusal} → Err y ≡ read_behind at r → (place : ℕ) × (reader (drop at s) ≡ refused (number_of y.reason) place) × (y.place ≡ at + place)
  at_refused {y} e =
      let o = behind_refused at r e bound in
      let is : told r ≡ refused (number_of y.reason) o.0 = same r ∙ rw o.1 refl in
      (o.0, lent reader s at says is, o.2)

pub itself : {A : Type 0} (r : Result (Read A) Refusal) → read_said r ≡ next (read_said r) (λ x used. done x used)
itself (Ok x) = refl
itself (Err y) = refl
