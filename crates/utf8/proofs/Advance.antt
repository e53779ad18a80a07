-- Going on over several bytes at once: what every walk over a text needs of it.
use mathlib.Core.Path.{◌≡◌, refl, sym, ap, ◌∙◌}
use mathlib.Core.Bool.{true, false}
use mathlib.Core.List.{List, [], ◌∷◌}
use Prim.Native.Nat.{ℕ, ◌+◌, ◌-◌, ◌≤◌, ◌<◌, zero-le}
use native.Mathlib.Omega.{arith}
use mathlib.Core.Logic.{⊎_elim}
use lib.Dec.{leb}
use borrow.Author.Tests.{le-leb, lt-leb}
use Rattle.answer.proofs.Cases.{lt_or_le}
use lib.ListN.{length, take, drop, length-append, length-drop, take-append-drop}
use lib.Seq.{length-take-le}
use Rattle.utf8.specs.Text.{Step, ends, char, mark, step, step_size, becomes, is_utf8, lossy}
use Rattle.utf8.specs.Inner.{Advances}
use Rattle.utf8.proofs.Stepping.{Bounded, step_bounds}
use Rattle.utf8.proofs.Lossy.{lossy_none, lossy_on, is_utf8_on, lossy_front, is_utf8_front}

-- a step does
pub step_advances : (s : List ℕ) → Advances s (step s)
step_advances s = record { text = lossy_on s; well = is_utf8_on s; there = (go (step s) (step_bounds s)).0; moves = (go (step s) (step_bounds s)).1 }
  where
    go : (x : Step) → Bounded x (length s) → (step_size x ≤ length s) × (1 ≤ length s → 1 ≤ step_size x)
    go ends b = (omega arith, λ h. absurd (omega arith))
    go (char n) b = (b.1, λ h. b.0)
    go (mark n) b = (b.1, λ h. b.0)

-- and so does a well-formed text at the front
pub text_advances : (s : List ℕ) (n : ℕ) → 1 ≤ n → n ≤ length s → is_utf8 (take n s) ≡ true → Advances s (char n)
text_advances s n some there e = record {
  text = ap lossy (sym (take-append-drop n s)) ∙ lossy_front (drop n s) (take n s) e;
  well = ap is_utf8 (sym (take-append-drop n s)) ∙ is_utf8_front (drop n s) (take n s) e;
  there = there;
  moves = λ h. some;
}

-- how many bytes a step becomes
abbrev pub text_size : Step → ℕ
text_size ends = 0
text_size (char n) = n
text_size (mark n) = 3

pub becomes_length : (s : List ℕ) (x : Step) → step_size x ≤ length s → length (becomes x s) ≡ text_size x
becomes_length s ends h = refl
becomes_length s (char n) h = length-take-le n s h
becomes_length s (mark n) h = refl

pub advances_length : (s : List ℕ) (x : Step) → Advances s x → length (lossy s) ≡ length (becomes x s) + length (lossy (drop (step_size x) s))
advances_length s x a = ap length a.text ∙ length-append (becomes x s) (lossy (drop (step_size x) s))

-- bytes become bytes
pub lossy_some : (s : List ℕ) → 1 ≤ length s → 1 ≤ length (lossy s)
lossy_some s h = let e = advances_length s (step s) (step_advances s) in omega (arith, go (step s) (step_bounds s))
  where
    go : (x : Step) → Bounded x (length s) → 1 ≤ length (becomes x s)
    go ends b = absurd (omega arith)
    go (char n) b = rw (length-take-le n s b.1) b.0
    go (mark n) b = omega arith

-- room for a text, less what it becomes, is room for the rest
pub room_on : (s : List ℕ) (x : Step) (room : ℕ) → Advances s x → length (becomes x s) ≤ room
    → leb (length (lossy s)) room ≡ leb (length (lossy (drop (step_size x) s))) (room - length (becomes x s))
room_on s x room a h =
    let e = advances_length s x a in
    let m = length (lossy (drop (step_size x) s)) in
    ⊎_elim
    (λ g. lt-leb (length (lossy s)) room (omega arith) ∙ sym (lt-leb m (room - length (becomes x s)) g))
    (λ g. le-leb (length (lossy s)) room (omega arith) ∙ sym (le-leb m (room - length (becomes x s)) g))
    (lt_or_le (room - length (becomes x s)) m)

pub room_off : (s : List ℕ) (x : Step) (room : ℕ) → Advances s x → room < length (becomes x s) → leb (length (lossy s)) room ≡ false
room_off s x room a h = lt-leb (length (lossy s)) room (omega (arith, advances_length s x a))

pub room_none : (room : ℕ) → leb (length (lossy [])) room ≡ true
room_none room = rw lossy_none (le-leb 0 room zero-le)

-- one that takes no byte is at the end
pub advances_end : (s : List ℕ) → Advances s ends → length s ≡ 0
advances_end [] a = refl
advances_end (b ∷ s) a = absurd (omega (arith, a.moves (omega arith)))

-- What a walk learns that has come to `at` and goes on over n of the bytes that are left. The walks of today cut their slice, and need neither.
module _ (bytes : List ℕ) (at : ℕ) where
  pub rest_there : (n : ℕ) → n ≤ length (drop at bytes) → at ≤ length bytes → at + n ≤ length bytes
  rest_there n h g = omega (arith, length-drop at bytes)

  pub rest_some : at < length bytes → 1 ≤ length (drop at bytes)
  rest_some h = omega (arith, length-drop at bytes)
