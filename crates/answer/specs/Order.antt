-- Refusals in the order in which they are tested (docs/RULES.md has every order).
use Rattle.std.specs.Prelude.{◌≡◌, Bool, cond, List, [], ◌∷◌, map, ℕ, zero, suc, Result}
use Rattle.answer.specs.declared.Reason.{Reason}
use Rattle.answer.specs.Answer.{Answer, refused}
use Rattle.answer.specs.Reason.{reason_said}

-- The order as such: a line has the answer that is given where its test does not hold, and where all hold it is the last one.
unfoldable pub in_order : {A : Type 0} → List (A × Bool) → A → A
in_order [] last = last
in_order ((answer, holds) ∷ lines) last = cond holds (in_order lines last) answer

-- A line that says a refusal's number alone; and such lines in an answer, each refusal at this place.
abbrev pub Check : Type 0
Check = ℕ × Bool

abbrev pub lines_at : {A : Type 0} → ℕ → List Check → List (Answer A × Bool)
lines_at place checks = map (λ c. (refused c.0 place, c.1)) checks

-- what was checked is refused with the first of these that does not hold
abbrev pub Checked : {A : Type 0} → List Check → Result A Reason → Type 0
Checked checks r = reason_said r ≡ in_order checks 0

-- So many records from the first on: the lines of one after those of the other, each record's at its index, and then the last answer.
unfoldable pub each_in_order : {A : Type 0} → (ℕ → List Check) → ℕ → ℕ → Answer A → Answer A
each_in_order checks first zero last = last
each_in_order checks first (suc n) last = in_order (lines_at first (checks first)) (each_in_order checks (suc first) n last)
