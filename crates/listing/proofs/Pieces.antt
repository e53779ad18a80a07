-- Laws about lines: a value's text by its kind, the words of a line, and the checks before it.
use mathlib.Core.Path.{◌≡◌, sym, ap, ◌∙◌}
use Rattle.std.specs.Prelude.{Err}
use Rattle.answer.specs.declared.Reason.{Reason}
use Rattle.answer.specs.declared.Refusal.{Refusal}
use Rattle.answer.specs.Answer.{Answer}
use Rattle.answer.specs.Reason.{number_of}
use Rattle.answer.specs.Writes.{refusal_said, Writes}
use Rattle.answer.proofs.Output.{writes_refusal}
use Rattle.answer.proofs.Same.{reason_some}
use mathlib.Core.List.{List, [], ◌∷◌}
use Prim.Native.Nat.{ℕ, ◌≤◌, ◌<◌}
use native.Mathlib.Omega.{arith}
use borrow.Author.Tests.{ne_eqb}
use Rattle.answer.specs.Order.{Check, in_order, lines_at}
use Rattle.answer.proofs.Order.{lines_refuse}
use Rattle.types.specs.Value.{value}
use Rattle.types.specs.Form.{part}
use Rattle.types.proofs.Shapes.{points_no, points_yes}
use Rattle.listing.specs.Digits.{letters, dash, decimal, shown}
use Rattle.listing.specs.Lines.{value_text}

-- ---- a value's text

module _ (f : List ℕ) (kind a b flags : ℕ) where
  pub text_null : kind ≡ 0 → value_text f (value kind a b flags) ≡ dash ∷ []
  unfolding value_text
  text_null e = rw e

  pub text_number : (kind ≡ 0 → ⊥) → (kind ≡ 2 → ⊥) → (kind ≡ 4 → ⊥) → kind < 6 → value_text f (value kind a b flags) ≡ decimal a
  unfolding value_text
  text_number n0 n2 n4 h = rw (ne_eqb kind 0 n0, ne_eqb kind 2 n2, ne_eqb kind 4 n4, points_no kind h)

  pub text_bytes : 6 ≤ kind → kind < 10 → value_text f (value kind a b flags) ≡ shown (part f a b)
  unfolding value_text
  text_bytes l h =
      rw (ne_eqb kind 0 (λ e. omega arith), ne_eqb kind 2 (λ e. omega arith), ne_eqb kind 4 (λ e. omega arith), points_yes kind l h)

-- ---- the words of a line

-- what stands in front of a name, and behind that of a message
abbrev pub message_front : List ℕ
message_front = letters "message # name "

abbrev pub message_back : List ℕ
message_back = letters " args #\n"

abbrev pub pair_front : List ℕ
pair_front = letters "pair # key "

abbrev pub set_front_lem : List ℕ
set_front_lem = letters "action # set scope # name "

abbrev pub unset_front : List ℕ
unset_front = letters "action # unset scope # name "

-- ---- checks before a line

module _ (checks : List Check) (a : Answer (List ℕ)) (old : List ℕ) {why : Reason} {x : Refusal} where
  pub line_refused : number_of why ≡ in_order checks 0 → x ≡ record { reason = why; place = 0 } → Writes (in_order (lines_at 0 checks) a) (Err x) old old
  line_refused is e = writes_refusal x old (lines_refuse checks (number_of why) is (reason_some why) 0 a ∙ sym (ap refusal_said e))
