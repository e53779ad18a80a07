-- Bytes below 128 are text, each a character of its own.
use mathlib.Core.Path.{◌≡◌, refl, sym, ap, ◌∙◌}
use mathlib.Core.Bool.{Bool, true, ◌&&◌, and_assoc, and-true}
use mathlib.Core.List.{List, [], ◌∷◌, ◌++◌}
use Prim.Native.Nat.{ℕ, ◌+◌, ◌-◌, ◌<◌, ◌≤◌, zero-le}
use native.Mathlib.Numerals.{add-one}
use native.Mathlib.Omega.{arith}
use lib.Dec.{ltb}
use lib.ListN.{length, take, drop, get_or, take-append-drop, drop_of_length-le}
use lib.Seq.{take-add, take-suc}
use borrow.Author.Tests.{ltb-true, lt-ltb}
use Rattle.utf8.specs.Text.{is_utf8}
use Rattle.utf8.specs.Inner.{ascii, AsciiTo}
use Rattle.answer.proofs.Cases.{both_true}
use Rattle.utf8.proofs.Stepping.{step_ascii}
use Rattle.utf8.proofs.Lossy.{is_utf8_none, is_utf8_char, is_utf8_front}

pub ascii_well : (s : List ℕ) → ascii s ≡ true → is_utf8 s ≡ true
unfolding ascii
ascii_well [] e = is_utf8_none
ascii_well (b ∷ s) e =
    let q = both_true (ltb b 128) (ascii s) e in
    is_utf8_char (b ∷ s) 1 (step_ascii b s (ltb-true b 128 q.0)) ∙ ascii_well s q.1

pub ascii_none : ascii [] ≡ true
unfolding ascii
ascii_none = refl

-- ---- as far as it goes

ascii_both : (s t : List ℕ) → ascii s ≡ true → ascii t ≡ true → ascii (s ++ t) ≡ true
unfolding ascii
ascii_both [] t p q = q
ascii_both (b ∷ s) t p q = let e = both_true (ltb b 128) (ascii s) p in simp e.0 (ascii_both s t e.1 q)

pub ascii_to_none : (s : List ℕ) → AsciiTo s 0
ascii_to_none s = record { there = zero-le; are = ascii_none }

-- k more of them, in a block
pub ascii_to_block : (s : List ℕ) (n k : ℕ) → AsciiTo s n → k ≤ length s - n → ascii (take k (drop n s)) ≡ true → AsciiTo s (n + k)
ascii_to_block s n k a h e = record { there = omega (arith, a.there); are = rw (take-add n k s) (ascii_both (take n s) (take k (drop n s)) a.are e) }

-- a test of one byte more
ascii_last : (s : List ℕ) (b : ℕ) → ascii (s ++ (b ∷ [])) ≡ ascii s && ltb b 128
unfolding ascii
ascii_last [] b = and-true (ltb b 128)
ascii_last (x ∷ s) b = ap (λ (p : Bool). ltb x 128 && p) (ascii_last s b) ∙ sym (and_assoc (ltb x 128) (ascii s) (ltb b 128))

pub ascii_test : (s : List ℕ) (i : ℕ) → i < length s → ascii (take i s) && ltb (get_or s i 0) 128 ≡ ascii (take (i + 1) s)
ascii_test s i h = sym (rw (add-one, take-suc s i 0 h) (ascii_last (take i s) (get_or s i 0)))

pub ascii_to_one : (s : List ℕ) (n : ℕ) → AsciiTo s n → n < length s → get_or s n 0 < 128 → AsciiTo s (n + 1)
unfolding ascii
ascii_to_one s n a h e = record {
  there = omega arith;
  are = rw (add-one, take-suc s n 0 h) (ascii_both (take n s) (get_or s n 0 ∷ []) a.are (simp (lt-ltb (get_or s n 0) 128 e)));
}

-- ---- to the end

-- a front of ASCII is ASCII
ascii_front : (s t : List ℕ) → ascii (s ++ t) ≡ true → ascii s ≡ true
unfolding ascii
ascii_front [] t p = refl
ascii_front (b ∷ s) t p = let e = both_true (ltb b 128) (ascii (s ++ t)) p in simp e.0 (ascii_front s t e.1)

ascii_less : (s : List ℕ) (n from : ℕ) → AsciiTo s n → from ≤ n → ascii (take from s) ≡ true
ascii_less s n from a h =
    let all : from + (n - from) ≡ n = omega arith in
    ascii_front (take from s) (take (n - from) (drop from s))
    (ap ascii (sym (take-add from (n - from) s) ∙ ap (λ (k : ℕ). take k s) all) ∙ a.are)

-- the rest from `from` on is ASCII, and so is more than all before it
pub ascii_to_end : (s : List ℕ) (n from k : ℕ) → AsciiTo s n → from ≤ n → from + k ≡ length s → ascii (take k (drop from s)) ≡ true → AsciiTo s (length s)
ascii_to_end s n from k a h e are =
    record {
      there = omega arith;
      are =
          ap (λ (m : ℕ). ascii (take m s)) (sym e)
          ∙ ap ascii (take-add from k s)
          ∙ ascii_both (take from s) (take k (drop from s)) (ascii_less s n from a h) are;
    }

-- so are few bytes whose first four and last four are
pub ascii_few : (s : List ℕ) (from : ℕ) → from ≤ 4 → from + 4 ≡ length s → ascii (take 4 s) ≡ true → ascii (take 4 (drop from s)) ≡ true → AsciiTo s (length s)
ascii_few s from h e first last = ascii_to_end s 4 from 4 (record { there = omega arith; are = first }) h e last

-- ---- behind it

-- what stands behind ASCII decides, and nothing is well-formed
pub ascii_behind : (s : List ℕ) (n : ℕ) → AsciiTo s n → is_utf8 s ≡ is_utf8 (drop n s)
ascii_behind s n a = ap is_utf8 (sym (take-append-drop n s)) ∙ is_utf8_front (drop n s) (take n s) (ascii_well (take n s) a.are)

pub ascii_all : (s : List ℕ) (n : ℕ) → AsciiTo s n → n ≡ length s → is_utf8 s ≡ true
ascii_all s n a e = ascii_behind s n a ∙ ap is_utf8 (drop_of_length-le s {i = n} (omega arith)) ∙ is_utf8_none
