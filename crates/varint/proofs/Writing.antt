-- Laws about the written form of a number: how it unrolls, and how long it is.
use mathlib.Core.Path.{◌≡◌, refl, sym, ap, ◌∙◌}
use mathlib.Core.Logic.{⊎_elim, ◌↔◌}
use mathlib.Core.List.{List, [], ◌∷◌}
use Prim.Native.Nat.{ℕ, zero, suc, ◌+◌, ◌-◌, ◌*◌, ◌/◌, ◌%◌, ◌^◌, ◌≤◌, ◌<◌, zero-le, suc-le-suc}
use native.Mathlib.Numerals.{add-one}
use native.Mathlib.Omega.{arith}
use lib.Pow.{pow-add, pow_mono}
use lib.ListN.{length}
use borrow.Author.Tests.{lt-ltb, le-ltb}
use Rattle.answer.proofs.Cases.{lt_or_le}
use Rattle.varint.specs.Number.{groups, number_bytes}

-- ---- one byte at a time

pub groups_last : (left v : ℕ) → v < 128 → groups (suc left) v ≡ v ∷ []
unfolding groups
groups_last left v h = simp (lt-ltb v 128 h)

pub groups_on : (left v : ℕ) → 128 ≤ v → groups (suc left) v ≡ (128 + v % 128) ∷ groups left ((v - 128) / 128)
unfolding groups
groups_on left v h = simp (le-ltb v 128 h)

-- The first v that takes more than k bytes after the first: each byte more starts where the one before ends.
unfoldable pub reach : ℕ → ℕ
reach zero = 0
reach (suc k) = 128 + 128 * reach k

pub reach_down : (k v : ℕ) → 128 ≤ v → v < reach (suc k) → (v - 128) / 128 < reach k
unfolding reach
reach_down k v l h = omega arith

-- Where the count down starts does not matter, as long as it is enough.
pub groups_enough : (j k v : ℕ) → v < reach j → v < reach k → groups j v ≡ groups k v
unfolding reach
groups_enough zero k v h g = absurd (omega arith)
groups_enough (suc j) zero v h g = absurd (omega arith)
groups_enough (suc j) (suc k) v h g =
    ⊎_elim (λ l. groups_last j v l ∙ sym (groups_last k v l))
    (λ l. groups_on j v l ∙ ap (λ (s : List ℕ). (128 + v % 128) ∷ s) (groups_enough j k ((v - 128) / 128) (reach_down j v l h) (reach_down k v l g)) ∙ sym (groups_on k v l))
    (lt_or_le v 128)

-- So the nine of the written form unroll without end.
pub nine_on : (v : ℕ) → 128 ≤ v → v < 2 ^ 60 → groups 9 v ≡ (128 + v % 128) ∷ groups 9 ((v - 128) / 128)
unfolding reach
nine_on v l h =
    groups_on 8 v l
    ∙ ap (λ (s : List ℕ). (128 + v % 128) ∷ s) (groups_enough 8 9 ((v - 128) / 128) (omega arith) (omega arith))

pub bytes_one : (n : ℕ) → n < 240 → number_bytes n ≡ n ∷ []
unfolding number_bytes
bytes_one n h = simp (lt-ltb n 240 h)

pub bytes_more : (n : ℕ) → 240 ≤ n → number_bytes n ≡ (240 + n % 16) ∷ groups 9 ((n - 240) / 16)
unfolding number_bytes
bytes_more n h = simp (le-ltb n 240 h)

-- Nine are enough for 64 bits.
pub steps_reach : (n : ℕ) → n < 2 ^ 64 → (n - 240) / 16 < reach 9
unfolding reach
steps_reach n h = omega arith

-- ---- how long

-- As many as k bytes are enough exactly below what k bytes reach.
pub groups_length : (left k v : ℕ) → v < reach left → (length (groups left v) ≤ k) ↔ (v < reach k)
unfolding reach
groups_length zero k v h = absurd (omega arith)
groups_length (suc left) zero v h =
    ⊎_elim (λ l. rw (groups_last left v l) (λ e. absurd (omega arith), λ e. absurd (omega arith)))
    (λ l. rw (groups_on left v l) (λ e. absurd (omega arith), λ e. absurd (omega arith)))
    (lt_or_le v 128)
groups_length (suc left) (suc k) v h =
    ⊎_elim (λ l. rw (groups_last left v l) (λ e. omega arith, λ e. omega arith))
    (λ l.
    let ih = groups_length left k ((v - 128) / 128) (reach_down left v l h) in
    rw (groups_on left v l) (λ e. (let g = ih.0 (omega arith) in omega arith), λ e. (let g = ih.1 (omega arith) in omega arith)))
    (lt_or_le v 128)

-- SPOE.txt's table: the first number that takes more than k bytes.
unfoldable pub row : ℕ → ℕ
row zero = 0
row (suc k) = 240 + 16 * reach k

pub table : (row 1 ≡ 240) × (row 2 ≡ 2288) × (row 3 ≡ 264432) × (row 4 ≡ 33818864) × (row 5 ≡ 4328786160)
unfolding row reach
table = (refl, refl, refl, refl, refl)

pub length_row : (k n : ℕ) → n < 2 ^ 64 → (length (number_bytes n) ≤ k) ↔ (n < row k)
unfolding row reach
length_row zero n h =
    ⊎_elim (λ l. rw (bytes_one n l) (λ e. absurd (omega arith), λ e. absurd (omega arith)))
    (λ l. rw (bytes_more n l) (λ e. absurd (omega arith), λ e. absurd (omega arith)))
    (lt_or_le n 240)
length_row (suc k) n h =
    ⊎_elim (λ l. rw (bytes_one n l) (λ e. omega arith, λ e. omega arith))
    (λ l.
    let g = groups_length 9 k ((n - 240) / 16) (steps_reach n h) in
    rw (bytes_more n l) (λ e. (let i = g.0 (omega arith) in omega arith), λ e. (let i = g.1 (omega arith) in omega arith)))
    (lt_or_le n 240)

pub length_bounds : (n : ℕ) → n < 2 ^ 64 → (1 ≤ length (number_bytes n)) × (length (number_bytes n) ≤ 10)
unfolding row reach
length_bounds n h = (
  ⊎_elim (λ l. rw (bytes_one n l) (omega arith)) (λ l. rw (bytes_more n l) (omega arith)) (lt_or_le n 240),
  (length_row 10 n h).1 (omega arith),
)

-- Of any number at all there are no more, since the count down starts at nine.
groups_most : (left v : ℕ) → length (groups left v) ≤ left
unfolding groups
groups_most zero v = zero-le
groups_most (suc left) v =
    ⊎_elim (λ l. rw (groups_last left v l) (omega arith))
    (λ l. rw (groups_on left v l) (suc-le-suc (groups_most left ((v - 128) / 128))))
    (lt_or_le v 128)

pub length_most : (n : ℕ) → length (number_bytes n) ≤ 10
length_most n =
    ⊎_elim (λ l. rw (bytes_one n l) (omega arith))
    (λ l. rw (bytes_more n l) (suc-le-suc (groups_most 9 ((n - 240) / 16))))
    (lt_or_le n 240)

-- ---- by its bits

-- Seven bits to a byte: what k bytes reach and their bits.
seven_more : (k : ℕ) → 2 ^ (7 * suc k) ≡ 2 ^ (7 * k) * 2 ^ 7
seven_more k = let sum : 7 * suc k ≡ 7 * k + 7 = omega arith in ap (λ (n : ℕ). 2 ^ n) sum ∙ pow-add 2 (7 * k) 7

reach_bits : (k : ℕ) → 127 * reach k + 128 ≡ 128 * 2 ^ (7 * k)
unfolding reach
reach_bits zero = omega arith
reach_bits (suc k) = omega (arith, seven_more k, reach_bits k)

-- So v is as far exactly where v + 1 less a 128th of v, rounded up, has more than these bits.
pub reached : (k v : ℕ) → (v < reach k) ↔ (v - (v + 127) / 128 + 1 < 2 ^ (7 * k))
reached k v = (λ h. omega (arith, reach_bits k), λ h. omega (arith, reach_bits k))

-- So a v of m bits has m / 7 bytes after the first, or one more.
module _ (v m : ℕ) (below : v < 2 ^ m) (above : 2 ^ m ≤ 2 * v + 1) where
  bits_below : v < reach (m / 7 + 1)
  unfolding reach
  bits_below =
      let up = pow_mono {i = m} {j = 7 * suc (m / 7)} (omega arith) in
      rw (add-one (m / 7)) (omega (arith, below, up, seven_more (m / 7), reach_bits (m / 7)))

  bits_above : (k : ℕ) → m / 7 ≡ suc k → reach k ≤ v
  bits_above k e =
      let up = pow_mono {i = 7 * suc k} {j = m} (omega arith) in
      omega (arith, above, up, seven_more k, reach_bits k)

-- Law: of a number from 240 on whose steps of 16 have m bits, what m / 7 bytes reach tells its length.
module _ (n m : ℕ) (some : 240 ≤ n) (fits : n < 2 ^ 64) (below : (n - 240) / 16 < 2 ^ m) (above : 2 ^ m ≤ 2 * ((n - 240) / 16) + 1) where
  abbrev steps : ℕ
  steps = (n - 240) / 16

  long : (k : ℕ) → (length (groups 9 steps) ≤ k) ↔ (steps < reach k)
  long k = groups_length 9 k steps (steps_reach n fits)

  none_reached : reach 0 ≡ 0
  unfolding reach
  none_reached = refl

  pub length_before : steps < reach (m / 7) → length (number_bytes n) ≡ m / 7 + 1
  length_before h = rw (bytes_more n some) (go (m / 7) refl h)
    where
      go : (k : ℕ) → m / 7 ≡ k → steps < reach (m / 7) → suc (length (groups 9 steps)) ≡ m / 7 + 1
      go zero e l = absurd (omega (arith, ap reach e, none_reached))
      go (suc k) e l =
          let most = (long (m / 7)).1 l in
          let least = bits_above steps m below above k e in
          ⊎_elim (λ g. omega arith) (λ g. absurd (omega (arith, (long k).0 g))) (lt_or_le k (length (groups 9 steps)))

  pub length_from : reach (m / 7) ≤ steps → length (number_bytes n) ≡ m / 7 + 2
  length_from h =
      let most = (long (m / 7 + 1)).1 (bits_below steps m below above) in
      rw (bytes_more n some)
      (⊎_elim (λ g. omega arith) (λ g. absurd (omega (arith, (long (m / 7)).0 g))) (lt_or_le (m / 7) (length (groups 9 steps))))
