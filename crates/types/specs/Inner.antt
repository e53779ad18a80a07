-- What only private contracts cite. No public promise rests on anything in this file.
use Rattle.types.specs.declared.Value.{Value}
use Rattle.std.specs.Prelude.{◌≡◌, Bool, true, false, List, ◌++◌, ℕ, ◌+◌, length, take, drop}
use Rattle.answer.specs.Answer.{Answer, refused, behind, within, leaves, tells}
use Rattle.types.specs.Value.{Shape, nothing, flag, integer, address, text, reserved, shape, Record, moved, content}
use Rattle.types.specs.Form.{value_answer, length_of}
use Rattle.types.specs.Promise.{record_of}

-- What the reader of one kind is to answer: it is lent the type byte too, of which the kind and the flags are known.
abbrev pub ReadsKind : ℕ → ℕ → List ℕ → Answer Record → Type 0
ReadsKind kind flags input a = a ≡ behind moved 1 (content (shape kind) kind flags (drop 1 input))

-- the kinds whose DATA begins with a number
abbrev pub numbered : Shape → Bool
numbered nothing = false
numbered flag = false
numbered (integer w) = true
numbered (address n) = false
numbered text = true
numbered reserved = false

-- A writer inside, of what is to give the answer a: it counts the bytes, 0 where it refuses, and those lent to it, old before, are
-- new afterwards.
pub record Puts (a : Answer (List ℕ)) (n : ℕ) (old new : List ℕ) : Type 0 where
  pub counts : n ≡ length_of a
  pub holds : new ≡ leaves a old

-- the n bytes at a place, put at the same place of what is lent
abbrev pub block : List ℕ → ℕ → ℕ → List ℕ → List ℕ
block bytes at n old = take at old ++ (take n (drop at bytes) ++ drop (at + n) old)

-- such a writer of a value
abbrev pub PutsValue : Value → List ℕ → ℕ → List ℕ → List ℕ → Type 0
PutsValue v buffer n old new = Puts (within (length old) (value_answer buffer (record_of v))) n old new

-- the number of a value that was not written, whatever room there was
abbrev pub WhyNot : Value → List ℕ → ℕ → Type 0
WhyNot v buffer r =
    (room : ℕ)
    → length_of (within room (value_answer buffer (record_of v))) ≡ 0
    → tells (within room (value_answer buffer (record_of v))) ≡ refused r 0
