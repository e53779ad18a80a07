-- A writer under a C name that answers 0 is an accepted call of the writer that it wraps: so what is proved of that one's calls holds of what it
-- leaves. It goes by the answer, of which no refusal has the number 0.
use mathlib.Core.Path.{◌≡◌, sym, ap}
use mathlib.Core.Bool.{not, ◌||◌}
use mathlib.Core.List.{List, [], ◌∷◌, ◌++◌}
use Prim.Native.Nat.{ℕ, zero, suc}
use native.Mathlib.Omega.{arith}
use lib.Dec.{eqb, leb}
use lib.ListN.{length}
use Rattle.std.specs.Prelude.{Ok}
use Rattle.answer.specs.Answer.{Answer, done, refused, tells, written, within}
use Rattle.answer.specs.Order.{Check, in_order, lines_at, each_in_order}
use Rattle.answer.specs.Table.{holds}
use Rattle.answer.specs.Writes.{Writes}
use Rattle.answer.proofs.Cases.{bool_cases}
use Rattle.answer.proofs.Order.{Numbered}
use Rattle.frame.specs.declared.Head.{Head}
use Rattle.frame.specs.Head.{head_bytes, frame_bytes}
use Rattle.frame.specs.Records.{message_width, pair_width, action_width}
use Rattle.writer.specs.Pair.{kv_checks}
use Rattle.writer.specs.Inner.{pair_order, action_order, message_order}
use Rattle.writer.specs.Frame.{limited, fin_alone, kv_allowed, pairs_bytes, kv_answer, actions_bytes, actions_answer, messages_bytes, notify_answer}
use Rattle.spop.specs.Told.{Told, Left}

-- ---- no refusal has the number 0

abbrev NotZero : Answer (List ℕ) → Type 0
NotZero (done x n) = Unit
NotZero (refused number place) = number ≡ 0 → ⊥

within_numbered : (room : ℕ) (a : Answer (List ℕ)) → NotZero a → NotZero (within room a)
within_numbered room (done bytes n) h = bool_cases (leb n room) (λ t. rw t tt) (λ t. rw t (λ z. omega arith))
within_numbered room (refused number place) h = h

-- of lines, and of the lines of so many records
lines_numbered : (checks : List Check) → Numbered checks → (place : ℕ) (a : Answer (List ℕ)) → NotZero a → NotZero (in_order (lines_at place checks) a)
unfolding in_order
lines_numbered [] some place a h = h
lines_numbered ((zero, test) ∷ checks) some place a h = absurd some
lines_numbered ((suc n, test) ∷ checks) some place a h = bool_cases test (λ t. rw t (lines_numbered checks some place a h)) (λ t. rw t (λ z. omega arith))

each_numbered : (checks : ℕ → List Check) → ((i : ℕ) → Numbered (checks i)) → (n first : ℕ) (a : Answer (List ℕ)) → NotZero a → NotZero (each_in_order checks first n a)
unfolding each_in_order
each_numbered checks some zero first a h = h
each_numbered checks some (suc n) first a h = lines_numbered (checks first) (some first) first (each_in_order checks (suc first) n a) (each_numbered checks some n (suc first) a h)

limited_numbered : (limit : ℕ) (h : Head) (payload : List ℕ) → NotZero (limited limit h payload)
unfolding limited
limited_numbered limit h payload = lines_numbered ((12, leb (length (head_bytes h ++ payload)) limit) ∷ []) tt 0 (written (frame_bytes h payload)) tt

module _ (h : Head) (limit : ℕ) (buffer : List ℕ) where
  kv_numbered : (pairs : List ℕ) (count : ℕ) → NotZero (kv_answer h limit buffer pairs count)
  unfolding kv_answer
  kv_numbered pairs count =
      lines_numbered ((14, kv_allowed h) ∷ (16, holds pair_width pairs count) ∷ []) tt 0 _
      (each_numbered (kv_checks buffer pairs) (λ i. tt) count 0 _ (limited_numbered limit h (pairs_bytes buffer pairs count)))

  actions_numbered : (actions : List ℕ) (count : ℕ) → NotZero (actions_answer h limit buffer actions count)
  unfolding actions_answer
  actions_numbered actions count =
      lines_numbered ((14, fin_alone h) ∷ (16, holds action_width actions count) ∷ []) tt 0 _
      (each_numbered (action_order buffer actions) (λ i. tt) count 0 _ (limited_numbered limit h (actions_bytes buffer actions count)))

  notify_numbered : (messages : List ℕ) (count : ℕ) (pairs : List ℕ) (total : ℕ) → NotZero (notify_answer h limit buffer messages count pairs total)
  unfolding notify_answer
  notify_numbered messages count pairs total =
      lines_numbered ((14, fin_alone h) ∷ (16, holds message_width messages count) ∷ (16, holds pair_width pairs total) ∷ (14, not (eqb count 0) || eqb total 0) ∷ []) tt 0 _
      (each_numbered (message_order buffer total messages count) (λ i. tt) count 0 _
      (each_numbered (pair_order buffer pairs) (λ i. tt) total 0 _ (limited_numbered limit h (messages_bytes buffer messages count pairs))))

-- ---- so 0 is done

zero_writes : (a : Answer (List ℕ)) {at : ℕ} {old new : List ℕ} → NotZero a → Left a 0 at old new → Writes a (Ok at) old new
zero_writes a {at} {old} h t = record { says = by_answer (within (length old) a) (within_numbered (length old) a h) t.0; holds = t.1 }
  where
    by_answer : (b : Answer (List ℕ)) → NotZero b → Told b 0 at → done tt at ≡ tells b
    by_answer (done bytes n) h t = ap (done tt) t.where_at
    by_answer (refused number place) h t = absurd (h (sym t.says))

module _ (h : Head) (limit : ℕ) (buffer : List ℕ) (at : ℕ) (old new : List ℕ) where
  pub kv_call : (pairs : List ℕ) (count : ℕ) → Left (kv_answer h limit buffer pairs count) 0 at old new → Writes (kv_answer h limit buffer pairs count) (Ok at) old new
  kv_call pairs count = zero_writes (kv_answer h limit buffer pairs count) (kv_numbered h limit buffer pairs count)

  pub actions_call : (actions : List ℕ) (count : ℕ) → Left (actions_answer h limit buffer actions count) 0 at old new → Writes (actions_answer h limit buffer actions count) (Ok at) old new
  actions_call actions count = zero_writes (actions_answer h limit buffer actions count) (actions_numbered h limit buffer actions count)

  pub notify_call : (messages : List ℕ) (count : ℕ) (pairs : List ℕ) (total : ℕ) → Left (notify_answer h limit buffer messages count pairs total) 0 at old new
      → Writes (notify_answer h limit buffer messages count pairs total) (Ok at) old new
  notify_call messages count pairs total = zero_writes (notify_answer h limit buffer messages count pairs total) (notify_numbered h limit buffer messages count pairs total)
