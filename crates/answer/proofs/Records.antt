-- Laws about the records of a table: how the definitions unroll, one record at a time, as the loops go.
use mathlib.Core.Path.{◌≡◌, refl, sym, ap, ap₂, ◌∙◌}
use mathlib.Core.Bool.{Bool, true, false}
use mathlib.Core.Logic.{⊎_elim}
use mathlib.Core.List.{List, [], ◌∷◌, ◌++◌, append_assoc}
use Prim.Native.Nat.{ℕ, zero, suc, ◌+◌, ◌-◌, ◌≤◌, ◌<◌}
use native.Mathlib.Numerals.{add-one}
use native.Mathlib.Omega.{arith}
use lib.ListN.{length, get_or, length-append}
use Rattle.answer.specs.Table.{records, joined, some}
use Rattle.answer.proofs.Cases.{lt_or_le}

-- ---- records

module _ {A : Type 0} (at : ℕ → A) where
  pub records_none : (first : ℕ) → records at first 0 ≡ []
  unfolding records
  records_none first = refl

  -- so many records and so many more
  pub records_both : (n first k : ℕ) → records at first (n + k) ≡ records at first n ++ records at (first + n) k
  unfolding records
  records_both zero first k =
      let none : 0 + k ≡ k = omega arith in
      let here : first ≡ first + 0 = omega arith in
      ap (records at first) none ∙ ap (λ (m : ℕ). records at m k) here
  records_both (suc n) first k =
      let more : suc n + k ≡ suc (n + k) = omega arith in
      let on : suc first + n ≡ first + suc n = omega arith in
      ap (records at first) more
      ∙ ap (λ (l : List A). at first ∷ l) (records_both n (suc first) k ∙ ap (λ (m : ℕ). records at (suc first) n ++ records at m k) on)

  -- what is left behind the first i
  pub records_on : (count i : ℕ) → i < count → records at i (count - i) ≡ at i ∷ records at (i + 1) (count - (i + 1))
  unfolding records
  records_on count i h = let one : count - i ≡ suc (count - (i + 1)) = omega arith in rw (one, add-one i)

  pub records_end : (count i : ℕ) → count ≤ i → records at i (count - i) ≡ []
  records_end count i h = let none : count - i ≡ 0 = omega arith in ap (records at i) none ∙ records_none i

  pub records_start : (count : ℕ) → records at 0 (count - 0) ≡ records at 0 count
  records_start count = let none : count - 0 ≡ count = omega arith in ap (records at 0) none

  -- one record more
  pub records_snoc : (i : ℕ) → records at 0 (i + 1) ≡ records at 0 i ++ (at i ∷ [])
  unfolding records
  records_snoc i = let here : 0 + i ≡ i = omega arith in records_both i 0 1 ∙ ap (λ (k : ℕ). records at 0 i ++ (at k ∷ [])) here

  -- record i of them
  pub record_at : (n first i : ℕ) (d : A) → i < n → get_or (records at first n) i d ≡ at (first + i)
  unfolding records
  record_at zero first i d h = absurd (omega arith)
  record_at (suc n) first zero d h = ap at (omega arith)
  record_at (suc n) first (suc i) d h = record_at n (suc first) i d (omega arith) ∙ ap at (omega arith)

  -- records from a place on are those of the run that starts there
  run_from : (first n k : ℕ) → records at (first + k) n ≡ records (λ (j : ℕ). at (first + j)) k n
  unfolding records
  run_from first zero k = refl
  run_from first (suc n) k =
      let next : suc (first + k) ≡ first + suc k = omega arith in
      ap (λ (l : List A). at (first + k) ∷ l) (ap (λ (m : ℕ). records at m n) next ∙ run_from first n (suc k))

  pub records_run : (first n : ℕ) → records at first n ≡ records (λ (j : ℕ). at (first + j)) 0 n
  records_run first n = let here : first ≡ first + 0 = omega arith in ap (λ (m : ℕ). records at m n) here ∙ run_from first n 0

-- ---- two tables' records, one by one

-- Law: records that are the same, one by one, are the same list.
pub records_same : {A : Type 0} (at to : ℕ → A) (n first : ℕ) → ((i : ℕ) → first ≤ i → i < first + n → at i ≡ to i) → records at first n ≡ records to first n
unfolding records
records_same at to zero first same = refl
records_same at to (suc n) first same =
    ap₂ ◌∷◌ (same first (omega arith) (omega arith)) (records_same at to n (suc first) (λ i l m. same i (omega arith) (omega arith)))

-- so many records are as many
pub records_length : {A : Type 0} (at : ℕ → A) (n first : ℕ) → length (records at first n) ≡ n
unfolding records
records_length at zero first = refl
records_length at (suc n) first = ap suc (records_length at n (suc first))

-- Law: and where the lists are the same, they are as many, and the same one by one.
module _ {A : Type 0} (at to : ℕ → A) (n m : ℕ) (same : records at 0 n ≡ records to 0 m) where
  as_many : n ≡ m
  as_many = sym (records_length at n 0) ∙ ap length same ∙ records_length to m 0

  one_by_one : (i : ℕ) → i < n → at i ≡ to i
  one_by_one i h =
      let here : 0 + i ≡ i = omega arith in
      ap at (sym here)
      ∙ sym (record_at at n 0 i (at 0) h)
      ∙ ap (λ (l : List A). get_or l i (at 0)) same
      ∙ record_at to m 0 i (at 0) (omega (arith, as_many))
      ∙ ap to here

  pub records_apart : (n ≡ m) × ((i : ℕ) → i < n → at i ≡ to i)
  records_apart = (as_many, one_by_one)

-- ---- one after the other

module _ {A : Type 0} (bytes : A → List ℕ) where
  pub joined_none : joined bytes [] ≡ []
  unfolding joined
  joined_none = refl

  pub joined_on : (x : A) (xs : List A) → joined bytes (x ∷ xs) ≡ bytes x ++ joined bytes xs
  unfolding joined
  joined_on x xs = refl

  -- Law: the written form of two lists is that of the first, and then that of the second.
  pub joined_both : (xs ys : List A) → joined bytes (xs ++ ys) ≡ joined bytes xs ++ joined bytes ys
  unfolding joined
  joined_both [] ys = refl
  joined_both (x ∷ xs) ys = ap (λ (l : List ℕ). bytes x ++ l) (joined_both xs ys) ∙ sym (append_assoc (bytes x) (joined bytes xs) (joined bytes ys))

-- Law: a record's bytes stand right behind those of the records before it, in order.
pub payload_at : {A : Type 0} (bytes : A → List ℕ) (at : ℕ → A) (count i : ℕ) → i < count
    → joined bytes (records at 0 count) ≡ joined bytes (records at 0 i) ++ (bytes (at i) ++ joined bytes (records at (i + 1) (count - (i + 1))))
payload_at {A = A} bytes at count i h =
    let whole : count ≡ i + (count - i) = omega arith in
    let here : 0 + i ≡ i = omega arith in
    ap (λ (m : ℕ). joined bytes (records at 0 m)) whole
    ∙ ap (joined bytes) (records_both at i 0 (count - i))
    ∙ joined_both bytes (records at 0 i) (records at (0 + i) (count - i))
    ∙ ap (λ (m : ℕ). joined bytes (records at 0 i) ++ joined bytes (records at m (count - i))) here
    ∙ ap (λ (l : List A). joined bytes (records at 0 i) ++ joined bytes l) (records_on at count i h)
    ∙ ap (λ (l : List ℕ). joined bytes (records at 0 i) ++ l) (joined_on bytes (at i) (records at (i + 1) (count - (i + 1))))

-- Law: records that are written the same, one by one, are written the same one after the other.
pub joined_same : {A B : Type 0} (f : A → List ℕ) (g : B → List ℕ) (at : ℕ → A) (to : ℕ → B) → ((i : ℕ) → f (at i) ≡ g (to i))
    → (n first : ℕ) → joined f (records at first n) ≡ joined g (records to first n)
unfolding joined records
joined_same f g at to same zero first = refl
joined_same f g at to same (suc n) first = ap₂ ◌++◌ (same first) (joined_same f g at to same n (suc first))

-- no record is longer than all of them
pub one_of_all : {A : Type 0} (bytes : A → List ℕ) (at : ℕ → A) (n first i : ℕ) → first ≤ i → i < first + n → length (bytes (at i)) ≤ length (joined bytes (records at first n))
unfolding joined records
one_of_all bytes at zero first i l h = absurd (omega arith)
one_of_all bytes at (suc n) first i l h =
    let both = length-append (bytes (at first)) (joined bytes (records at (suc first) n)) in
    ⊎_elim
    (λ m. omega (arith, one_of_all bytes at n (suc first) i m (omega arith)))
    (λ m. let here : i ≡ first = omega arith in omega (arith, ap (λ (k : ℕ). length (bytes (at k))) here))
    (lt_or_le first i)

-- ---- some

module _ {A : Type 0} (test : A → Bool) where
  pub some_none : some test [] ≡ false
  unfolding some
  some_none = refl

  pub some_here : (x : A) (xs : List A) → test x ≡ true → some test (x ∷ xs) ≡ true
  unfolding some
  some_here x xs e = rw e

  pub some_later : (x : A) (xs : List A) → test x ≡ false → some test (x ∷ xs) ≡ some test xs
  unfolding some
  some_later x xs e = rw e
