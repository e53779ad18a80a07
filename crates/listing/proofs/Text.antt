-- Laws about the other texts: numbers with a sign, and bytes; and about what is written in parts.
use mathlib.Core.Path.{◌≡◌, refl, ap, ◌∙◌}
use mathlib.Core.List.{List, [], ◌∷◌, ◌++◌}
use mathlib.Core.Logic.{⊎_elim}
use Prim.Native.Nat.{ℕ, suc, ◌+◌, ◌-◌, ◌*◌, ◌/◌, ◌%◌, ◌^◌, ◌≤◌, ◌<◌}
use native.Mathlib.Numerals.{add-one}
use native.Mathlib.Omega.{arith}
use lib.ListN.{length, take, drop, get_or, drop_of_length-le}
use lib.Seq.{drop-cons}
use borrow.Author.Tests.{lt-ltb, le-ltb}
use borrow.Rule.Slice.PartMut.{put_mid}
use Rattle.answer.specs.Answer.{written}
use Rattle.answer.specs.Table.{joined}
use Rattle.answer.proofs.Cases.{lt_or_le}
use Rattle.answer.proofs.Records.{joined_none, joined_on}
use Rattle.answer.proofs.Output.{Partly, partly_count, partly_all}
use Rattle.answer.proofs.Parts.{part_start, part_room, partly_part}
use Rattle.types.specs.Inner.{Puts}
use Rattle.listing.specs.Digits.{dash, glyph, decimal, signed, hex_pair, shown}
use Rattle.listing.proofs.Decimal.{decimal_most}

-- ---- a sign

pub signed_plus : (n : ℕ) → n < 2 ^ 63 → signed n ≡ decimal n
unfolding signed
signed_plus n h = simp (lt-ltb n (2 ^ 63) h)

pub signed_minus : (n : ℕ) → 2 ^ 63 ≤ n → signed n ≡ dash ∷ decimal (2 ^ 64 - n)
unfolding signed
signed_minus n h = simp (le-ltb n (2 ^ 63) h)

pub signed_most : (n : ℕ) → n < 2 ^ 64 → length (signed n) ≤ 21
signed_most n h =
    ⊎_elim (λ l. rw (signed_plus n l) (omega (arith, decimal_most n h)))
    (λ l. rw (signed_minus n l) (omega (arith, decimal_most (2 ^ 64 - n) (omega arith))))
    (lt_or_le n (2 ^ 63))

-- ---- bytes

pub hex_on : (bytes : List ℕ) (i : ℕ) → i < length bytes
    → joined hex_pair (drop i bytes) ≡ glyph (get_or bytes i 0 / 16) ∷ glyph (get_or bytes i 0 % 16) ∷ joined hex_pair (drop (i + 1) bytes)
hex_on bytes i h = rw (add-one i, drop-cons bytes i 0 h) (joined_on hex_pair (get_or bytes i 0) (drop (suc i) bytes))

pub hex_end : (bytes : List ℕ) (i : ℕ) → length bytes ≤ i → joined hex_pair (drop i bytes) ≡ []
hex_end bytes i h = rw (drop_of_length-le bytes h) (joined_none hex_pair)

pub hex_length : (bytes : List ℕ) → length (joined hex_pair bytes) ≡ 2 * length bytes
hex_length [] = ap length (joined_none hex_pair)
hex_length (b ∷ s) = ap length (joined_on hex_pair b s) ∙ omega (arith, hex_length s)

pub shown_none : (bytes : List ℕ) → length bytes ≡ 0 → shown bytes ≡ dash ∷ []
unfolding shown
shown_none [] h = refl
shown_none (b ∷ s) h = absurd (omega arith)

pub shown_some : (bytes : List ℕ) → (length bytes ≡ 0 → ⊥) → shown bytes ≡ joined hex_pair bytes
unfolding shown
shown_some [] h = absurd (h refl)
shown_some (b ∷ s) h = refl

-- ---- forms

-- `#`, for which a text is put
abbrev pub gap : ℕ
gap = 35

-- ---- parts

-- Of what is left to write the next part is `front`. It goes into the tail behind those before it, `&mut out[at..]`.
pub record Next (bytes old : List ℕ) (at : ℕ) (front rest out : List ℕ) : Type 0 where
  pub left : Partly bytes old at (front ++ rest) out

module _ {bytes old front rest out : List ℕ} {at : ℕ} (p : Next bytes old at front rest out) where
  pub next_start : at ≤ length out
  next_start = part_start front rest p.left

  pub next_room : length front ≤ length (take (length out - at) (drop at out))
  next_room = part_room front rest p.left

  module _ {k : ℕ} {tail : List ℕ} (q : Puts (written front) k (take (length out - at) (drop at out)) tail) where
    pub next_on : Partly bytes old (at + k) rest (put_mid at (length out - at) out tail)
    next_on = rw q.counts (partly_part front rest p.left tail q.holds)

-- all are
pub all_put : {bytes old out : List ℕ} {at : ℕ} → Partly bytes old at [] out → Puts (written bytes) at old out
all_put p = record { counts = partly_count p; holds = partly_all p }
