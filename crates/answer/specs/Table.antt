-- A table's records: so many numbers each, one record after the other.
use Rattle.std.specs.Prelude.{Bool, true, false, cond, List, [], ◌∷◌, ◌++◌, ℕ, zero, suc, ◌+◌, ◌*◌, leb, length, get_or}

-- whether the table has so many records, of `width` numbers each
abbrev pub holds : ℕ → List ℕ → ℕ → Bool
holds width table count = leb (count * width) (length table)

-- number k of record i: 0 where the table does not have the record
abbrev pub number_at : ℕ → List ℕ → ℕ → ℕ → ℕ
number_at width table i k = cond (holds width table (i + 1)) (get_or table (i * width + k) 0) 0

-- so many records from the first on, each by its index
unfoldable pub records : {A : Type 0} → (ℕ → A) → ℕ → ℕ → List A
records at first zero = []
records at first (suc n) = at first ∷ records at (suc first) n

-- the written forms of some records, one after the other, in order
unfoldable pub joined : {A : Type 0} → (A → List ℕ) → List A → List ℕ
joined bytes [] = []
joined bytes (x ∷ xs) = bytes x ++ joined bytes xs

-- whether one of them is so
unfoldable pub some : {A : Type 0} → (A → Bool) → List A → Bool
some test [] = false
some test (x ∷ xs) = cond (test x) true (some test xs)
