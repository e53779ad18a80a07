-- What only private contracts cite. No public promise rests on anything in this file.
use Rattle.std.specs.Prelude.{◌≡◌, true, List, [], ◌∷◌, ℕ, ◌<◌}
use Rattle.answer.specs.Answer.{Answer, done}
use Rattle.answer.specs.Order.{Check}

-- Every test holds.
abbrev pub Passes : List Check → Type 0
Passes [] = Unit
Passes ((number, holds) ∷ checks) = (holds ≡ true) × Passes checks

-- Those of the first n records do.
pub record Sound (checks : ℕ → List Check) (n : ℕ) : Type 0 where
  pub each : (i : ℕ) → i < n → Passes (checks i)

-- These stand in a row from a place to another, where `from` reads the one that stands at a place: each starts where the one before it ended.
abbrev pub InRow : {A : Type 0} → (ℕ → Answer A) → ℕ → List A → ℕ → Type 0
InRow from at [] end = at ≡ end
InRow from at (x ∷ xs) end = (next : ℕ) × (from at ≡ done x next) × InRow from next xs end
