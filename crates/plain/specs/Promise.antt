-- Key comparison the plain way: both lossy texts in two lent buffers, and whether they have the same bytes.
use Rattle.std.specs.Prelude.{◌≡◌, Bool, cond, ◌&&◌, List, ℕ, leb, length, Result, Ok, Err}
use Rattle.answer.specs.declared.Refusal.{Refusal}
use Rattle.answer.specs.Answer.{Answer, done, refused, written, leaves}
use Rattle.answer.specs.Writes.{refusal_said}
use Rattle.utf8.specs.Text.{lossy, same_bytes}

-- what the call's answer says
abbrev pub compared : Result Bool Refusal → Answer Bool
compared (Ok x) = done x 0
compared (Err r) = refusal_said r

-- Of two keys, and of two buffers as they were lent.
module _ (a b a_old b_old : List ℕ) where
  -- an answer for where both texts have room, and else 11 at place 0
  abbrev pub fitting : {A : Type 0} → Answer A → Answer A
  fitting x = cond (leb (length (lossy a)) (length a_old) && leb (length (lossy b)) (length b_old)) x (refused 11 0)

  -- whether both texts have the same bytes
  abbrev pub comparison : Answer Bool
  comparison = fitting (done (same_bytes (lossy a) (lossy b)) 0)

-- Each buffer, old before, is new afterwards: it has its text at the front, or where one of the two has no room it is as it was.
pub record TextsLeft (a b a_old a_new b_old b_new : List ℕ) : Type 0 where
  pub first : a_new ≡ leaves (fitting a b a_old b_old (written (lossy a))) a_old
  pub second : b_new ≡ leaves (fitting a b a_old b_old (written (lossy b))) b_old

-- `same_text_plain` compares them, and leaves them in the buffers.
pub record SameTextPlain (a b : List ℕ) (r : Result Bool Refusal) (a_old a_new b_old b_new : List ℕ) : Type 0 where
  pub says : compared r ≡ comparison a b a_old b_old
  pub texts : TextsLeft a b a_old a_new b_old b_new
