-- `varint::varint_len` meets its contract. The bits of the steps are what their leading zeros leave of 64, so the law by bits (`length_before`,
-- `length_from`) tells the length, by what so many bytes reach, which the code asks as `reached` says.
use mathlib.Core.Path.{◌≡◌, sym, subst, ◌∙◌}
use mathlib.Core.Logic.{⊎_elim}
use Prim.Native.Nat.{ℕ, ◌+◌, ◌-◌, ◌*◌, ◌/◌, ◌%◌, ◌^◌, ◌≤◌, ◌<◌}
use native.Mathlib.Nat.{one-mul}
use native.Mathlib.Omega.{arith}
use lib.Count.{count_leading_zeros, leading_le, leading_length}
use lib.Dec.{lit<}
use lib.ListN.{length}
use lib.Pow.{pow_mono, shl_exact}
use Rattle.answer.proofs.Cases.{lt_or_le}
use Rattle.varint.specs.Number.{number_bytes}
use Rattle.varint.proofs.Writing.{bytes_one, reach, reached, length_before, length_from}
use Rattle.varint.proofs.varint_len.Goals as goal

-- The steps of a number of 64 bits have fewer than 63, which are what is left of their leading zeros.
record Bits (v bits : ℕ) : Type 0 where
  below : v < 2 ^ bits
  above : 2 ^ bits ≤ 2 * v + 1
  few : bits / 7 < 9

bits_of : (i : ℕ) → i < 2 ^ 64 → Bits ((i - 240) / 16) (64 - count_leading_zeros 64 ((i - 240) / 16))
bits_of i h =
    let o = leading_length 64 ((i - 240) / 16) (omega arith) in
    let is : o.0 ≡ 64 - count_leading_zeros 64 ((i - 240) / 16) = omega arith in
    rw (sym is)
    (record {
      below = o.2;
      above = o.3;
      few = ⊎_elim (λ l. omega arith) (λ l. absurd (omega (arith, o.3, pow_mono {i = 63} {j = o.0} l))) (lt_or_le o.0 63);
    })

-- `1 << 7k` keeps its one bit
one_bit : (k : ℕ) → k < 9 → (1 * 2 ^ (7 * k)) % 2 ^ 64 ≡ 2 ^ (7 * k)
one_bit k h = shl_exact {a = 1} 1 (7 * k) 64 (lit< tt) (omega arith) ∙ one-mul (2 ^ (7 * k))

module _ (i : ℕ) where
  abbrev steps : ℕ
  steps = (i - 240) / 16

  abbrev row : ℕ
  row = (64 - count_leading_zeros 64 steps) * 37 / 256

  -- which is a seventh of the bits
  a_seventh : row ≡ (64 - count_leading_zeros 64 steps) / 7
  a_seventh = omega arith

  abbrev threshold : ℕ
  threshold = (1 * 2 ^ (7 * row)) % 2 ^ 64

  module _ (some : 240 ≤ i) (fits : i < 2 ^ 64) where
    few_rows : row < 9
    few_rows = omega (arith, (bits_of i fits).few, a_seventh)

    shorter : steps - (steps + 127) / 128 + 1 < threshold → row + 1 ≡ length (number_bytes i)
    shorter t =
        let b = bits_of i fits in
        let less : steps < reach ((64 - count_leading_zeros 64 steps) / 7) = subst (λ (k : ℕ). steps < reach k) a_seventh ((reached row steps).1 (omega (arith, t, one_bit row few_rows))) in
        omega (arith, a_seventh, length_before i _ some fits b.below b.above less)

    longer : threshold ≤ steps - (steps + 127) / 128 + 1 → row + 2 ≡ length (number_bytes i)
    longer t =
        let b = bits_of i fits in
        let more : reach row ≤ steps = ⊎_elim (λ l. absurd (omega (arith, t, one_bit row few_rows, (reached row steps).0 l))) (λ l. l) (lt_or_le steps (reach row)) in
        omega (arith, a_seventh, length_from i _ some fits b.below b.above (subst (λ (k : ℕ). reach k ≤ steps) a_seventh more))

pub returns-then-i-lt240 : goal.returns-then-i-lt240
returns-then-i-lt240 c = rw (bytes_one _ c.if-i-lt240.true)

pub overflow_sub-k : goal.overflow_sub-k
overflow_sub-k c = leading_le 64 _

pub returns-then-steps-k : goal.returns-then-steps-k
returns-then-steps-k c = shorter c.args.i c.if-i-lt240.false c.ranges.i.fits c.if-steps-k.true

pub returns-else-steps-k : goal.returns-else-steps-k
returns-else-steps-k c = longer c.args.i c.if-i-lt240.false c.ranges.i.fits c.if-steps-k.false
