-- Laws about the value behind its type byte, in the terms of the reader of each kind: what it is to answer for what it found there,
-- and that the place or the count that it answers lies in the bytes.
use mathlib.Core.Path.{◌≡◌, refl, sym, ap, ◌∙◌}
use mathlib.Core.Bool.{true, cond, true≢false}
use mathlib.Core.Logic.{⊎_elim}
use mathlib.Core.List.{List}
use Prim.Native.Nat.{ℕ, ◌+◌, ◌-◌, ◌^◌, ◌≤◌, ◌<◌}
use native.Mathlib.Omega.{arith}
use lib.Dec.{leb}
use lib.ListN.{length, take, drop, length-drop}
use borrow.Author.Tests.{le-leb, lt-leb}
use Rattle.answer.specs.Answer.{Answer, done, refused}
use Rattle.answer.proofs.Answers.{ends, lent_ends}
use Rattle.answer.proofs.Cases.{lt_or_le}
use Rattle.answer.proofs.Output.{lent_tail_lem}
use Rattle.varint.specs.Number.{number}
use Rattle.varint.proofs.Reading.{accepted, number_place, number_ends}
use Rattle.types.specs.Value.{Width, Shape, nothing, flag, integer, address, text, reserved, shape, value, narrowed}
use Rattle.types.specs.Inner.{ReadsKind, numbered}
use Rattle.types.proofs.Reading.{string_refused, string_whole, string_short, integer_refused, integer_whole, address_short, address_whole, text_refused, text_whole, behind_refused, behind_plain, behind_start}

-- a place or a count behind the type byte
one_more : (s : List ℕ) (n : ℕ) → 0 < length s → n ≤ length (drop 1 s) → 1 + n ≤ length s
one_more s n h l = omega (arith, length-drop 1 s)

-- what a reader that was lent the bytes behind it, `&s[1..]`, says of them
tail : {A : Type 0} (reader : List ℕ → Answer A) (s : List ℕ) {a b : Answer A} → a ≡ reader (take (length s - 1) (drop 1 s)) → a ≡ b → reader (drop 1 s) ≡ b
tail reader s e is = ap reader (sym (lent_tail_lem 1 s)) ∙ sym e ∙ is

-- by the number that was read there
module _ (s : List ℕ) (some : 0 < length s) {a : Answer ℕ} (read : a ≡ number (take (length s - 1) (drop 1 s))) where
  -- its place or its count lies in the bytes
  pub none_bound : (n place : ℕ) → a ≡ refused n place → 1 + place ≤ length s
  none_bound n place is = one_more s place some (number_place (drop 1 s) n place (tail number s read is))

  pub some_bound : (n used : ℕ) → a ≡ done n used → 1 + used ≤ length s
  some_bound n used is = one_more s used some (accepted (drop 1 s) n used (tail number s read is)).2

  -- as far as a count of 64 bits goes
  pub bound : length s < 2 ^ 63 → 1 + ends a < 2 ^ 64
  bound long = omega (arith, lent_ends number number_ends s 1 read some)

  module _ (kind flags : ℕ) where
    pub number_none : numbered (shape kind) ≡ true → (n place : ℕ) → a ≡ refused n place → ReadsKind kind flags s (refused n (1 + place))
    number_none is-numbered n place is = by_shape (shape kind) refl is-numbered
      where
        e : number (drop 1 s) ≡ refused n place
        e = tail number s read is

        by_shape : (sh : Shape) → shape kind ≡ sh → numbered sh ≡ true → ReadsKind kind flags s (refused n (1 + place))
        by_shape nothing row y = absurd (true≢false (sym y))
        by_shape flag row y = absurd (true≢false (sym y))
        by_shape (integer w) row y = sym (behind_refused kind flags (drop 1 s) (integer w) row n place (integer_refused kind flags (drop 1 s) w n place e))
        by_shape (address m) row y = absurd (true≢false (sym y))
        by_shape text row y = sym (behind_refused kind flags (drop 1 s) text row n place (text_refused kind flags (drop 1 s) n place (string_refused (drop 1 s) n place e)))
        by_shape reserved row y = absurd (true≢false (sym y))

    pub integer_some : (w : Width) → shape kind ≡ integer w → (n used : ℕ) → a ≡ done n used
        → ReadsKind kind flags s (done (value kind (narrowed w n) 0 flags) (1 + used))
    integer_some w row n used is =
        sym (behind_plain kind flags (drop 1 s) (integer w) row (narrowed w n) 0 flags used refl (integer_whole kind flags (drop 1 s) w n used (tail number s read is)))

    -- a string or a binary, whose bytes have to be there
    pub text_some : shape kind ≡ text → (n used : ℕ) → a ≡ done n used
        → ReadsKind kind flags s (cond (leb (1 + used + n) (length s)) (done (value kind (1 + used) n flags) (1 + used + n)) (refused 3 (1 + used)))
    text_some row n used is =
        ⊎_elim
        (λ h. simp (lt-leb (1 + used + n) (length s) h)
        (sym (behind_refused kind flags (drop 1 s) text row 3 used (text_refused kind flags (drop 1 s) 3 used (string_short (drop 1 s) n used e (simp length-drop (omega arith)))))))
        (λ h. simp (le-leb (1 + used + n) (length s) h)
        (ap (done (value kind (1 + used) n flags)) {x = 1 + used + n} {y = 1 + (used + n)} (omega arith)
        ∙ sym (behind_start kind flags (drop 1 s) text row used n flags (used + n) refl (text_whole kind flags (drop 1 s) used n (used + n) (string_whole (drop 1 s) n used e (simp length-drop (omega arith)))))))
        (lt_or_le (length s) (1 + used + n))
      where
        e : number (drop 1 s) ≡ done n used
        e = tail number s read is

module _ (kind flags : ℕ) (s : List ℕ) where
  -- by the test of an address's length
  module _ (n : ℕ) (row : shape kind ≡ address n) where
    pub address_none : length s - 1 < n → ReadsKind kind flags s (refused 3 1)
    address_none h = sym (behind_refused kind flags (drop 1 s) (address n) row 3 0 (address_short kind flags (drop 1 s) n (simp length-drop h)))

    pub address_some : n ≤ length s - 1 → ReadsKind kind flags s (done (value kind 1 n flags) (1 + n))
    address_some h = sym (behind_start kind flags (drop 1 s) (address n) row 0 n flags n refl (address_whole kind flags (drop 1 s) n (simp length-drop h)))
