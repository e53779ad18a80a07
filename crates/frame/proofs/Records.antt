-- What `as_chunks` and `get` give of a table: the chunk at an index.
use Rattle.std.specs.Prelude.{◌≡◌, List, ℕ, zero, suc, ◌+◌, ◌*◌, ◌/◌, ◌≤◌, ◌<◌, length, take, drop}
use Rattle.std.specs.Simd.{first_chunks}
use Rattle.std.proofs.lemmas.List.{drop-drop}
use Rattle.std.proofs.Common.{ap, sym, ◌∙◌, arith}
use Rattle.std.proofs.Math.Nat.{div-mul-le_self, mul-le-mul_right}
use lib.ListN.{get_or}

none : (n : ℕ) → 0 * n ≡ 0
none n = omega arith

one_more : (n i : ℕ) → n + i * n ≡ suc i * n
one_more n i = omega arith

chunk_at : {X : Type 0} (n k : ℕ) (xs : List X) (i : ℕ) (d : List X) → i < k → get_or (first_chunks n k xs) i d ≡ take n (drop (i * n) xs)
chunk_at n zero xs i d h = absurd (omega (arith, h))
chunk_at n (suc k) xs zero d h = sym (ap (λ (m : ℕ). take n (drop m xs)) (none n))
chunk_at n (suc k) xs (suc i) d h = chunk_at n k (drop n xs) i d (omega (arith, h)) ∙ ap (take n) (drop-drop (i * n) n xs ∙ ap (λ (m : ℕ). drop m xs) (one_more n i))

pub chunk_there : (n : ℕ) (table : List ℕ) {chunks : List (List ℕ)} {numbers : List ℕ} {i : ℕ} → chunks ≡ first_chunks n (length table / n) table
    → length chunks ≡ length table / n → i < length chunks → numbers ≡ get_or chunks i numbers
    → ((i + 1) * n ≤ length table) × (numbers ≡ take n (drop (i * n) table))
chunk_there n table {chunks} {numbers} {i} is long h e =
    let below : i < length table / n = omega (arith, long, h) in (
      omega (arith, div-mul-le_self (length table) n, mul-le-mul_right n below),
      e ∙ ap (λ (l : List (List ℕ)). get_or l i numbers) is ∙ chunk_at n (length table / n) table i numbers below,
    )
