-- Things that stand in a row, one behind the other: each is read where the one before it ended. `one met at` reads the one that stands at a place,
-- where these were met before it: what is met with it, and where it ends.
use Rattle.std.specs.Prelude.{cond, ℕ, zero, suc, ltb}
use Rattle.answer.specs.Answer.{Answer, done, next}

-- So many of them.
unfoldable pub so_many : {A : Type 0} → (A → ℕ → Answer A) → ℕ → A → ℕ → Answer A
so_many one zero met at = done met at
so_many one (suc k) met at = next (one met at) (λ more end. so_many one k more end)

-- As many as stand before the end of the bytes, of those that are counted down.
unfoldable pub to_end : {A : Type 0} → (A → ℕ → Answer A) → ℕ → ℕ → A → ℕ → Answer A
to_end one last zero met at = done met at
to_end one last (suc k) met at = cond (ltb at last) (next (one met at) (λ more end. to_end one last k more end)) (done met at)
