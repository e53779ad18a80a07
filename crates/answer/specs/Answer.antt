-- The shape that every layer's answers have (docs/RULES.md, "Numbers of refusal"), and what a writer leaves in the bytes that
-- were lent to it.
use Rattle.std.specs.Prelude.{cond, List, ◌++◌, ℕ, ◌+◌, leb, length, drop}

-- what was read or is to be written, and how many bytes it takes; or a refusal's number and its place
pub data Answer (A : Type 0) : Type 0 where
  done : A → ℕ → Answer A
  refused : ℕ → ℕ → Answer A

-- What is read goes on behind what was read first: a refusal of the first is the whole's.
abbrev pub next : {A B : Type 0} → Answer A → (A → ℕ → Answer B) → Answer B
next (done a used) f = f a used
next (refused number place) f = refused number place

-- A part that was read behind n other bytes: its places count from the front of the whole, and so do the starts in what was
-- read, as `moved n` says.
abbrev pub behind : {A : Type 0} → (ℕ → A → A) → ℕ → Answer A → Answer A
behind moved n (done a used) = done (moved n a) (n + used)
behind moved n (refused number place) = refused number (n + place)

-- these bytes are to be written
abbrev pub written : List ℕ → Answer (List ℕ)
written bytes = done bytes (length bytes)

-- 11 at place 0 where the lent bytes are too few
abbrev pub within : ℕ → Answer (List ℕ) → Answer (List ℕ)
within room (done bytes n) = cond (leb n room) (done bytes n) (refused 11 0)
within room (refused number place) = refused number place

-- a success changes the written bytes alone, at the front of the lent ones; a refusal changes none
abbrev pub leaves : Answer (List ℕ) → List ℕ → List ℕ
leaves (done bytes n) old = bytes ++ drop n old
leaves (refused number place) old = old

-- what a writer tells of it: the count, or the refusal
abbrev pub tells : Answer (List ℕ) → Answer Unit
tells (done bytes n) = done tt n
tells (refused number place) = refused number place
