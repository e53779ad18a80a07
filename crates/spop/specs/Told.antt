-- What a call under a C name hands over of an answer: the refusal's number as its result, 0 for done; through `at` what goes with
-- it, the bytes used or written, those missing, or the place; and through what else is lent the value, which stays where there is none.
use Rattle.std.specs.Prelude.{◌≡◌, List, [], ◌∷◌, ℕ, length, Option, Some, None}
use Rattle.answer.specs.Answer.{Answer, done, refused, within, leaves}
use Rattle.hello.specs.declared.Version.{Version}

module _ {A : Type 0} where
  abbrev pub result_of : Answer A → ℕ
  result_of (done value n) = 0
  result_of (refused number place) = number

  abbrev pub at_of : Answer A → ℕ
  at_of (done value n) = n
  at_of (refused number place) = place

  -- what was read, in the form in which it is handed over, takes the place of what was there before
  abbrev pub value_or : {B : Type 0} → (A → B) → Answer A → B → B
  value_or form (done value n) before = form value
  value_or form (refused number place) before = before

  pub record Told (a : Answer A) (r at : ℕ) : Type 0 where
    pub says : r ≡ result_of a
    pub where_at : at ≡ at_of a

-- the three numbers of a version, in the place of what was there before
abbrev pub chosen_of : Option Version → List ℕ → List ℕ
chosen_of (Some v) before = v.major ∷ v.minor ∷ v.patch ∷ []
chosen_of None before = before

-- A writer that is to give the answer a, where the lent bytes are old before and new afterwards.
abbrev pub Left : Answer (List ℕ) → ℕ → ℕ → List ℕ → List ℕ → Type 0
Left a r at old new = Told (within (length old) a) r at × (new ≡ leaves (within (length old) a) old)
