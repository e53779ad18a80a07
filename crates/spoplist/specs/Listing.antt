-- Where the listing of an input stops: docs/RULES.md, "The listing". Frames stand one behind the other, and the first that is not accepted
-- stops it.
use Rattle.std.specs.Prelude.{cond, List, ℕ, zero, suc, ◌+◌, ltb, length, drop}
use Rattle.answer.specs.Answer.{Answer, done, refused, next}
use Rattle.frame.specs.Read.{Reading, answer_of}

-- The last line's numbers: the bytes used by accepted frames, the answer that stopped it, and the missing count or the place within that frame.
pub record Stop : Type 0 where
  pub used : ℕ
  pub number : ℕ
  pub at : ℕ

-- how many bytes a frame takes that was read, or why there is none
abbrev pub taken : {A : Type 0} → Reading A → Answer Unit
taken x = next (answer_of x) (λ y n. done tt n)

-- what a frame that was read leads on to, and what one that was not comes to
abbrev pub goes_on : {A B : Type 0} → Answer A → (A → ℕ → B) → (ℕ → ℕ → B) → B
goes_on (done x n) go stop = go x n
goes_on (refused number place) go stop = stop number place

-- Behind so many bytes of accepted frames, as many frames more as are counted down at most, each read by the same reader. With no byte left the
-- answer is 0.
unfoldable pub stop_from : (List ℕ → Answer Unit) → ℕ → ℕ → List ℕ → Stop
stop_from read zero used s = record { used = used; number = 0; at = 0 }
stop_from read (suc k) used s =
    cond (ltb 0 (length s))
    (goes_on (read s) (λ x n. stop_from read k (used + n) (drop n s))
    (λ number place. record { used = used; number = number; at = place }))
    (record { used = used; number = 0; at = 0 })

-- Each frame takes a byte at least, so there are no more than bytes.
abbrev pub stop_of : (List ℕ → Answer Unit) → List ℕ → Stop
stop_of read s = stop_from read (length s) 0 s
