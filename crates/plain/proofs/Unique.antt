-- No second result and no second content of the buffers meets the promise; and where both texts fit, it is what `utf8::same_text`
-- promises.
use mathlib.Core.Path.{◌≡◌, sym, ap, ◌∙◌}
use mathlib.Core.Bool.{Bool}
use mathlib.Core.List.{List}
use Prim.Native.Nat.{ℕ, ◌≤◌}
use native.Mathlib.Omega.{arith}
use lib.ListN.{length}
use Rattle.std.specs.Prelude.{Result, Ok, Err}
use Rattle.answer.specs.declared.Refusal.{Refusal}
use Rattle.answer.specs.Answer.{done}
use Rattle.answer.proofs.Same.{refusal_same, one_only}
use Rattle.utf8.specs.Text.{lossy, same_text}
use Rattle.plain.specs.Promise.{compared, TextsLeft, SameTextPlain}
use Rattle.plain.proofs.Laws.{both_fit}

-- answers that say the same are the same
compared_same : (r q : Result Bool Refusal) → compared r ≡ compared q → r ≡ q
compared_same (Ok s) (Ok t) e = let q : s ≡ t = cc in cc
compared_same (Ok s) (Err q) e = let z : ◌≡◌ {A = ℕ} 0 1 = cc in absurd (omega arith)
compared_same (Err r) (Ok t) e = let z : ◌≡◌ {A = ℕ} 0 1 = cc in absurd (omega arith)
compared_same (Err r) (Err q) e = ap Err (refusal_same r q (cc) (cc))

pub texts_unique : {a b a_old a_new a_other b_old b_new b_other : List ℕ}
    → TextsLeft a b a_old a_new b_old b_new → TextsLeft a b a_old a_other b_old b_other → (a_new ≡ a_other) × (b_new ≡ b_other)
texts_unique p q = (one_only p.first q.first, one_only p.second q.second)

pub same_text_plain_unique : (a b : List ℕ) (r q : Result Bool Refusal) (a_old a_new a_other b_old b_new b_other : List ℕ)
    → SameTextPlain a b r a_old a_new b_old b_new → SameTextPlain a b q a_old a_other b_old b_other → (r ≡ q) × (a_new ≡ a_other) × (b_new ≡ b_other)
same_text_plain_unique a b r q a_old a_new a_other b_old b_new b_other p s =
    let t = texts_unique p.texts s.texts in
    (compared_same r q (one_only p.says s.says), t.0, t.1)

-- The two engines agree: of any two strings whose texts fit, what the plain one answers is what `same_text` answers.
pub same_text_plain : (a b : List ℕ) (r : Bool) (q : Result Bool Refusal) (a_old a_new b_old b_new : List ℕ)
    → length (lossy a) ≤ length a_old → length (lossy b) ≤ length b_old
    → r ≡ same_text a b → SameTextPlain a b q a_old a_new b_old b_new → q ≡ Ok r
unfolding same_text
same_text_plain a b r q a_old a_new b_old b_new h g p s =
    compared_same q (Ok r)
    (s.says ∙ both_fit a b a_old b_old _ h g ∙ ap (λ (x : Bool). done x 0) (sym p))
