-- Laws about decimal digits: how they unroll, how many they are, and how they are written from the last to the first.
use mathlib.Core.Path.{◌≡◌, refl, sym, ap, ◌∙◌}
use mathlib.Core.Logic.{⊎_elim}
use mathlib.Core.List.{List, [], ◌∷◌, ◌++◌}
use Prim.Native.Nat.{ℕ, zero, suc, ◌+◌, ◌-◌, ◌*◌, ◌/◌, ◌%◌, ◌^◌, ◌≤◌, ◌<◌}
use native.Mathlib.Omega.{arith}
use lib.ListN.{length, take, drop, set, get_or, length-append, length-take, take-append-drop, drop_of_length-le}
use lib.Seq.{take-suc, set_at, append_snoc, length-take-le, take_all, take_at, drop_at}
use borrow.Author.Tests.{lt-ltb, le-ltb}
use Rattle.answer.specs.Answer.{written}
use Rattle.answer.proofs.Cases.{lt_or_le}
use Rattle.types.specs.Inner.{Puts}
use Rattle.listing.specs.Digits.{glyph, digits, decimal}

-- ---- one digit at a time

digits_last : (left n : ℕ) → n < 10 → digits (suc left) n ≡ glyph n ∷ []
unfolding digits
digits_last left n h = simp (lt-ltb n 10 h)

digits_on : (left n : ℕ) → 10 ≤ n → digits (suc left) n ≡ digits left (n / 10) ++ (glyph (n % 10) ∷ [])
unfolding digits
digits_on left n h = simp (le-ltb n 10 h)

-- Where the count down starts does not matter, as long as it is enough.
digits_enough : (j k n : ℕ) → n < j → n < k → digits j n ≡ digits k n
digits_enough zero k n h g = absurd (omega arith)
digits_enough (suc j) zero n h g = absurd (omega arith)
digits_enough (suc j) (suc k) n h g =
    ⊎_elim (λ l. digits_last j n l ∙ sym (digits_last k n l))
    (λ l.
    digits_on j n l
    ∙ ap (λ (s : List ℕ). s ++ (glyph (n % 10) ∷ [])) (digits_enough j k (n / 10) (omega arith) (omega arith))
    ∙ sym (digits_on k n l))
    (lt_or_le n 10)

pub decimal_last : (n : ℕ) → n < 10 → decimal n ≡ glyph n ∷ []
unfolding decimal
decimal_last n h = digits_last n n h

pub decimal_on : (n : ℕ) → 10 ≤ n → decimal n ≡ decimal (n / 10) ++ (glyph (n % 10) ∷ [])
unfolding decimal
decimal_on n h =
    digits_on n n h
    ∙ ap (λ (s : List ℕ). s ++ (glyph (n % 10) ∷ [])) (digits_enough n (suc (n / 10)) (n / 10) (omega arith) (omega arith))

-- ---- how many

pub length_last : (n : ℕ) → n < 10 → length (decimal n) ≡ 1
length_last n h = ap length (decimal_last n h)

pub length_on : (n : ℕ) → 10 ≤ n → length (decimal n) ≡ length (decimal (n / 10)) + 1
length_on n h = ap length (decimal_on n h) ∙ length-append (decimal (n / 10)) (glyph (n % 10) ∷ [])

-- the first number that has more than k digits
unfoldable tens : ℕ → ℕ
tens zero = 1
tens (suc k) = 10 * tens k

length_tens : (k n : ℕ) → n < tens (suc k) → length (decimal n) ≤ suc k
unfolding tens
length_tens zero n h = omega (arith, length_last n (omega arith))
length_tens (suc k) n h =
    ⊎_elim (λ l. omega (arith, length_last n l))
    (λ l. omega (arith, length_on n l, length_tens k (n / 10) (omega arith)))
    (lt_or_le n 10)

-- Law: a number of 64 bits has at most 20 digits, and each has one at least.
pub decimal_most : (n : ℕ) → n < 2 ^ 64 → length (decimal n) ≤ 20
unfolding tens
decimal_most n h = length_tens 19 n (omega arith)

pub decimal_some : (n : ℕ) → 1 ≤ length (decimal n)
decimal_some n = ⊎_elim (λ l. omega (arith, length_last n l)) (λ l. omega (arith, length_on n l)) (lt_or_le n 10)

-- ---- from the last to the first

-- the last digit, and those before it
ends : (n : ℕ) → (front : List ℕ) × (decimal n ≡ front ++ (glyph (n % 10) ∷ [])) × (0 < length front → decimal (n / 10) ≡ front)
ends n =
    ⊎_elim (λ l. let e : n ≡ n % 10 = omega arith in ([], decimal_last n l ∙ ap (λ (d : ℕ). glyph d ∷ []) e, λ z. absurd (omega arith)))
    (λ l. (decimal (n / 10), decimal_on n l, λ z. refl))
    (lt_or_le n 10)

-- Of the digits of n, which old has room for, those behind the first `at` are written; the first are the digits of rest.
pub record Backwards (n : ℕ) (old : List ℕ) (at rest : ℕ) (out : List ℕ) : Type 0 where
  pub room : length (decimal n) ≤ length old
  pub place : at ≤ length (decimal n)
  pub so_far : out ≡ take at old ++ (drop at (decimal n) ++ drop (length (decimal n)) old)
  pub left : 0 < at → decimal rest ≡ take at (decimal n)

pub backwards_none : (n at : ℕ) (old : List ℕ) → length (decimal n) ≤ length old → at ≡ length (decimal n) → Backwards n old at n old
backwards_none n at old room e =
    record {
      room = room;
      place = omega arith;
      so_far = rw (e, drop_of_length-le (decimal n) {i = length (decimal n)} (omega arith)) (sym (take-append-drop (length (decimal n)) old));
      left = λ h. sym (take_all at (decimal n) (omega arith));
    }

-- one byte more, in front of those that are written
stored : (old behind : List ℕ) (at b : ℕ) → at < length old → set (take (suc at) old ++ behind) at b ≡ take at old ++ (b ∷ behind)
stored old behind at b h =
    ap (λ (l : List ℕ). set (l ++ behind) at b) (take-suc old at 0 h)
    ∙ ap (λ (l : List ℕ). set l at b) (append_snoc (take at old) (get_or old at 0) behind)
    ∙ set_at (take at old) (get_or old at 0) behind b at (length-take-le at old (omega arith))

module _ {n : ℕ} {old : List ℕ} {rest : ℕ} {out : List ℕ} where
  -- one digit more
  stored_on : (k : ℕ) → Backwards n old (suc k) rest out → Backwards n old k (rest / 10) (set out k (glyph (rest % 10)))
  stored_on k p =
      let last = glyph (rest % 10) in
      let e = ends rest in
      let behind = drop (suc k) (decimal n) in
      let these : decimal rest ≡ take (suc k) (decimal n) = p.left (omega arith) in
      let long : length e.0 ≡ k = omega (arith, ap length e.1, length-append e.0 (last ∷ []), ap length these, length-take (suc k) (decimal n), p.place) in
      let split : decimal n ≡ e.0 ++ (last ∷ behind) =
      sym (take-append-drop (suc k) (decimal n)) ∙ ap (λ (l : List ℕ). l ++ behind) (sym these ∙ e.1) ∙ append_snoc e.0 last behind in
      let front : take k (decimal n) ≡ e.0 = ap (take k) split ∙ take_at e.0 (last ∷ behind) k long in
      let next : drop k (decimal n) ≡ last ∷ behind = ap (drop k) split ∙ drop_at e.0 (last ∷ behind) k long in
      record {
        room = p.room;
        place = omega (arith, p.place);
        so_far =
            ap (λ (l : List ℕ). set l k last) p.so_far
            ∙ stored old (behind ++ drop (length (decimal n)) old) k last (omega (arith, p.room, p.place))
            ∙ ap (λ (l : List ℕ). take k old ++ (l ++ drop (length (decimal n)) old)) (sym next);
        left = λ h. e.2 (omega (arith, long)) ∙ sym front;
      }

  pub backwards_on : (at : ℕ) → Backwards n old at rest out → 0 < at → Backwards n old (at - 1) (rest / 10) (set out (at - 1) (glyph (rest % 10)))
  backwards_on zero p h = absurd (omega arith)
  backwards_on (suc k) p h = let e : suc k - 1 ≡ k = omega arith in rw e (stored_on k p)

  -- all are written
  pub backwards_all : (at len : ℕ) → Backwards n old at rest out → len ≡ length (decimal n) → at ≤ 0 → Puts (written (decimal n)) len old out
  backwards_all zero len p e h = record { counts = e; holds = p.so_far }
  backwards_all (suc k) len p e h = absurd (omega arith)
