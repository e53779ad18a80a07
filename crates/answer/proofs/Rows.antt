-- Laws about a table whose numbers start with those of whole records: these are its first records, and the others follow.
use mathlib.Core.Path.{◌≡◌, refl, sym, ap, ap₂, ◌∙◌}
use mathlib.Core.Bool.{Bool, cond}
use mathlib.Core.List.{List, [], ◌∷◌, ◌++◌, append_assoc}
use mathlib.Core.Logic.{⊎_elim}
use Prim.Native.Nat.{ℕ, zero, suc, ◌+◌, ◌*◌, ◌≤◌, ◌<◌}
use native.Mathlib.Nat.{add-mul, one-mul, add_assoc, mul-le-mul_right}
use native.Mathlib.Omega.{arith}
use lib.ListN.{length, take, get_or, length-append, get_or-append}
use lib.Seq.{length-take-le, get_or-append-add, get_or-take}
use borrow.Author.Tests.{le-leb, lt-leb}
use Rattle.answer.specs.Table.{holds, number_at, records, joined}
use Rattle.answer.proofs.Cases.{lt_or_le}
use Rattle.answer.proofs.Records.{records_none, records_both, records_run, records_same, joined_on}

-- number k of record i stands among those of so many records
in_records : (width count i k : ℕ) → i < count → k < width → i * width + k < count * width
in_records width count i k h l = omega (arith, mul-le-mul_right {m = i + 1} {n = count} width (omega arith), add-mul i 1 width, one-mul width)

-- Law: behind so many records the numbers are those of the rest, which has a record where both together have it.
module _ (width count : ℕ) (front rest : List ℕ) (long : length front ≡ count * width) (i : ℕ) where
  held_later : holds width (front ++ rest) (count + i + 1) ≡ holds width rest (i + 1)
  held_later =
      let whole : (count + i + 1) * width ≡ count * width + (i + 1) * width = ap (λ (n : ℕ). n * width) (add_assoc count i 1) ∙ add-mul count (i + 1) width in
      ⊎_elim
      (λ h. lt-leb ((count + i + 1) * width) (length (front ++ rest)) (omega (arith, whole, long, length-append front rest)) ∙ sym (lt-leb ((i + 1) * width) (length rest) h))
      (λ h. le-leb ((count + i + 1) * width) (length (front ++ rest)) (omega (arith, whole, long, length-append front rest)) ∙ sym (le-leb ((i + 1) * width) (length rest) h))
      (lt_or_le (length rest) ((i + 1) * width))

  pub number_later : (k : ℕ) → number_at width (front ++ rest) (count + i) k ≡ number_at width rest i k
  number_later k =
      ap₂ (λ (b : Bool) (n : ℕ). cond b n 0) held_later
      (ap (λ (n : ℕ). get_or (front ++ rest) (n + k) 0) (add-mul count i width ∙ ap (λ (n : ℕ). n + i * width) (sym long))
      ∙ ap (λ (n : ℕ). get_or (front ++ rest) n 0) (add_assoc (length front) (i * width) k)
      ∙ get_or-append-add front rest (i * width + k) 0)

-- Law: of a table that starts with so many records of another, the numbers are that one's, and behind them those of the rest.
module _ (width count : ℕ) (table rest : List ℕ) (held : count * width ≤ length table) where
  long : length (take (count * width) table) ≡ count * width
  long = length-take-le (count * width) table held

  pub number_front : (i k : ℕ) → i < count → k < width → number_at width (take (count * width) table ++ rest) i k ≡ number_at width table i k
  number_front i k h l =
      let inside = in_records width count i k h l in
      let whole = mul-le-mul_right {m = i + 1} {n = count} width (omega arith) in
      rw (le-leb ((i + 1) * width) (length (take (count * width) table ++ rest)) (omega (arith, long, length-append (take (count * width) table) rest)), le-leb ((i + 1) * width) (length table) (omega arith))
      (get_or-append (take (count * width) table) rest 0 (i * width + k) (omega (arith, long)) ∙ get_or-take (count * width) table (i * width + k) 0 inside)

  pub number_behind : (i k : ℕ) → number_at width (take (count * width) table ++ rest) (count + i) k ≡ number_at width rest i k
  number_behind = number_later width count (take (count * width) table) rest long

-- Law: records of one table and then of another, put in a row in a third, are its records: where a record goes by its own numbers.
module _ {A : Type 0} (width : ℕ) (at : List ℕ → ℕ → A)
    (first : (n : ℕ) (s t : List ℕ) → n * width ≤ length s → (i : ℕ) → i < n → at (take (n * width) s ++ t) i ≡ at s i)
    (second : (n : ℕ) (s t : List ℕ) → n * width ≤ length s → (i : ℕ) → at (take (n * width) s ++ t) (n + i) ≡ at t i) where
  pub tables_both : (n m : ℕ) (s t rest : List ℕ) → n * width ≤ length s → m * width ≤ length t
      → records (at (take (n * width) s ++ (take (m * width) t ++ rest))) 0 (n + m) ≡ records (at s) 0 n ++ records (at t) 0 m
  tables_both n m s t rest h l =
      let behind = take (m * width) t ++ rest in
      let all = at (take (n * width) s ++ behind) in
      let here : 0 + n ≡ n = omega arith in
      records_both all n 0 m
      ∙ ap₂ ◌++◌ (records_same all (at s) n 0 (λ i z k. first n s behind h i (omega arith)))
      (ap (λ (k : ℕ). records all k m) here
      ∙ records_run all n m
      ∙ records_same (λ (j : ℕ). all (n + j)) (at t) m 0 (λ i z k. second n s behind h i ∙ first m t rest l i (omega arith)))

-- ---- what a table holds

-- records that are the same from the next on
records_later : {A : Type 0} (at other : ℕ → A) → ((i : ℕ) → at (suc i) ≡ other i) → (n i : ℕ) → records at (suc i) n ≡ records other i n
unfolding records
records_later at other e zero i = refl
records_later at other e (suc n) i = ap₂ ◌∷◌ (e i) (records_later at other e n (suc i))

records_first : {A : Type 0} (at : ℕ → A) (n : ℕ) → records at 0 (suc n) ≡ at 0 ∷ records at 1 n
unfolding records
records_first at n = refl

-- A number of a record behind the first stands there without the first too, one record earlier.
pub number_next : (width : ℕ) (front t : List ℕ) → length front ≡ width → (i k : ℕ) → number_at width (front ++ t) (suc i) k ≡ number_at width t i k
number_next width front t long i k =
    let one : suc i ≡ 1 + i = omega arith in
    ap (λ (n : ℕ). number_at width (front ++ t) n k) one ∙ number_later width 1 front t (long ∙ sym (one-mul width)) i k

-- A table's records are read one by one, whatever their width.
module _ {A : Type 0} (numbers : A → List ℕ) (at : List ℕ → ℕ → A)
    (here : (x : A) (t : List ℕ) → at (numbers x ++ t) 0 ≡ x) (later : (x : A) (t : List ℕ) (i : ℕ) → at (numbers x ++ t) (suc i) ≡ at t i) where
  -- Law: a table with the numbers of some records at its front holds them.
  pub table_holds : (xs : List A) (t : List ℕ) → records (at (joined numbers xs ++ t)) 0 (length xs) ≡ xs
  table_holds [] t = records_none (at (joined numbers [] ++ t)) 0
  table_holds (x ∷ xs) t =
      let rest = joined numbers xs ++ t in
      ap (λ (l : List ℕ). records (at l) 0 (suc (length xs))) (ap (λ (l : List ℕ). l ++ t) (joined_on numbers x xs) ∙ append_assoc (numbers x) (joined numbers xs) t)
      ∙ records_first (at (numbers x ++ rest)) (length xs)
      ∙ ap₂ ◌∷◌ (here x rest) (records_later (at (numbers x ++ rest)) (at rest) (later x rest) (length xs) 0 ∙ table_holds xs t)
