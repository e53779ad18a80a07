-- How a number begins and goes on, in the code's terms.
use Rattle.std.proofs.Common.{◌≡◌, ap, ◌∙◌, ℕ, suc, ◌+◌, ◌-◌, ◌*◌, ◌%◌, ◌≤◌, ◌<◌, ◌^◌, List, length, drop, add-one, arith}
use native.Mathlib.Nat.{mul-le-mul_right, mod-eq_of_lt}
use lib.ListN.{get_or, drop_of_length-le}
use lib.Pow.{pow-add, pow_mono}
use Rattle.answer.specs.Answer.{done, refused}
use Rattle.answer.proofs.Cases.{Stands, stands_first}
use Rattle.varint.specs.Number.{number, more, worth}
use Rattle.varint.proofs.Reading.{number_none, number_one, number_more, more_none, more_tenth, more_over, more_last, more_on}

-- the three ways to begin
pub begins_none : (s : List ℕ) → length s ≤ 0 → number s ≡ refused 3 0
begins_none s h = ap number (drop_of_length-le s {i = 0} h) ∙ number_none

module _ (s : List ℕ) (b : ℕ) (here : Stands s 0 b) where
  pub begins_one : b < 240 → number s ≡ done b 1
  begins_one l = ap number (stands_first here) ∙ number_one b (drop 1 s) l

  pub begins_on : 240 ≤ b → number s ≡ more b 1 (drop 1 s)
  begins_on l = ap number (stands_first here) ∙ number_more b (drop 1 s) l

-- the bytes end here
pub ends_here : (s : List ℕ) (sum k : ℕ) → length s ≤ k → more sum k (drop k s) ≡ refused 3 k
ends_here s sum k h = ap (more sum k) (drop_of_length-le s h) ∙ more_none sum k

-- What the next byte does to the sum.
module _ (s : List ℕ) (sum k b : ℕ) (here : Stands s k b) where
  -- a tenth byte
  module _ (tenth : k ≡ 9) where
    pub high : 15 < b → more sum k (drop k s) ≡ refused 19 (suc k)
    high h = ap (more sum k) (stands_first here) ∙ more_tenth sum k b tenth h (drop (suc k) s)

  module _ (low : k ≡ 9 → b ≤ 15) (fits : b * 2 ^ (7 * k - 3) < 2 ^ 64) where
    abbrev pub addend : ℕ
    addend = (b * 2 ^ (7 * k - 3)) % 2 ^ 64

    whole : addend ≡ worth k b
    whole = mod-eq_of_lt {m = 2 ^ 64} fits

    pub over : 2 ^ 64 ≤ sum + addend → more sum k (drop k s) ≡ refused 7 (suc k)
    over o = ap (more sum k) (stands_first here) ∙ more_over sum k b low (rw whole at o) (drop (suc k) s)

    pub last : sum + addend < 2 ^ 64 → b < 128 → more sum k (drop k s) ≡ done (sum + addend) (k + 1)
    last o l = rw (add-one, whole) (ap (more sum k) (stands_first here) ∙ more_last sum k b low (rw whole at o) l (drop (suc k) s))

    pub on : sum + addend < 2 ^ 64 → 128 ≤ b → more sum k (drop k s) ≡ more (sum + addend) (k + 1) (drop (k + 1) s)
    on o l = rw (add-one, whole) (ap (more sum k) (stands_first here) ∙ more_on sum k b low (rw whole at o) l (drop (suc k) s))

-- Before the tenth byte nothing is lost, and the sum stays below sixteen times what the next byte counts in.
module _ (sum k b : ℕ) (early : k < 9) (from : 1 ≤ k) (small : b < 256) (below : sum < 16 * 2 ^ (7 * k - 3)) where
  pub byte_below : b * 2 ^ (7 * k - 3) ≤ 255 * 2 ^ (7 * k - 3)
  byte_below = mul-le-mul_right (2 ^ (7 * k - 3)) (omega arith)

  pub byte_fits : b * 2 ^ (7 * k - 3) < 2 ^ 64
  byte_fits = omega (arith, byte_below, pow_mono {i = 7 * k - 3} {j = 53} (omega arith))

  addend_whole : (b * 2 ^ (7 * k - 3)) % 2 ^ 64 ≡ b * 2 ^ (7 * k - 3)
  addend_whole = mod-eq_of_lt {m = 2 ^ 64} byte_fits

  pub sum_fits : sum + (b * 2 ^ (7 * k - 3)) % 2 ^ 64 < 2 ^ 64
  sum_fits = omega (arith, addend_whole, byte_below, pow_mono {i = 7 * k - 3} {j = 53} (omega arith))

  pub next_below : sum + (b * 2 ^ (7 * k - 3)) % 2 ^ 64 < 16 * 2 ^ (7 * (k + 1) - 3)
  next_below =
      let up : 7 * (k + 1) - 3 ≡ 7 * k - 3 + 7 = omega arith in
      let e : 2 ^ (7 * (k + 1) - 3) ≡ 2 ^ (7 * k - 3) * 2 ^ 7 = ap (λ (n : ℕ). 2 ^ n) up ∙ pow-add 2 (7 * k - 3) 7 in
      omega (arith, addend_whole, byte_below)

-- The same of the byte at its place, with its shift.
module _ (s : List ℕ) (sum used shift : ℕ) (here : used < length s) (e : shift + 3 ≡ 7 * used) (early : used < 9) (small : get_or s used 0 < 256) (below : sum < 16 * 2 ^ shift) where
  abbrev pub byte : ℕ
  byte = get_or s used 0

  pub fits : sum + (byte * 2 ^ shift) % 2 ^ 64 < 2 ^ 64
  fits = let k : shift ≡ 7 * used - 3 = omega arith in rw k (sum_fits sum used byte early (omega arith) small (rw k at below))
