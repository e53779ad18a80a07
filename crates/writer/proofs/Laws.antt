-- Laws about what the writers write: what an accepted call has passed, and where its frame's parts stand. (Where a record's bytes stand is
-- answer's `payload_at`, which record is the refused one answer's `each_first`, and that all arguments are all the pairs `arguments_all`.)
use mathlib.Core.Path.{◌≡◌, sym, ap, ◌∙◌}
use mathlib.Core.Bool.{Bool, true, not, ◌||◌}
use mathlib.Core.List.{List, [], ◌∷◌, ◌++◌}
use Prim.Native.Nat.{ℕ, ◌*◌, ◌^◌, ◌≤◌, ◌<◌}
use lib.Dec.{eqb, leb}
use lib.ListN.{length}
use borrow.Author.Tests.{leb-true}
use Rattle.answer.specs.Answer.{done, written}
use Rattle.answer.specs.Order.{Check, each_in_order}
use Rattle.answer.specs.Table.{holds}
use Rattle.answer.specs.Inner.{Passes, Sound}
use Rattle.answer.proofs.Order.{lines_done, each_done}
use Rattle.frame.specs.declared.Head.{Head}
use Rattle.frame.specs.Head.{head_bytes, frame_bytes}
use Rattle.frame.specs.Records.{message_width, pair_width, action_width}
use Rattle.frame.proofs.Laws.{Framed, framed}
use Rattle.writer.specs.Pair.{kv_checks}
use Rattle.writer.specs.Inner.{pair_order, action_order, message_order}
use Rattle.writer.specs.Frame.{limited, fin_alone, kv_allowed, pairs_bytes, kv_answer, actions_bytes, actions_answer, messages_bytes, notify_answer}
use Rattle.writer.proofs.Answers.{list_answer, kv_list, actions_list, notify_arguments, notify_records}

-- A frame that a writer answers: the head and this payload, whose parts stand in their places within the limit, which is one of 32 bits.
pub record Wrote (h : Head) (limit : ℕ) (payload bytes : List ℕ) (n : ℕ) : Type 0 where
  pub frame : bytes ≡ frame_bytes h payload
  pub count : n ≡ length bytes
  pub parts : limit < 2 ^ 32 → Framed h limit payload bytes

-- the limit
module _ (limit : ℕ) (h : Head) (payload bytes : List ℕ) (n : ℕ) where
  limited_passed : limited limit h payload ≡ done bytes n → Wrote h limit payload bytes n
  unfolding limited
  limited_passed is =
      let p = lines_done ((12, leb (length (head_bytes h ++ payload)) limit) ∷ []) 0 (written (frame_bytes h payload)) is in
      let fits = leb-true (length (head_bytes h ++ payload)) limit p.0.0 in
      let b : frame_bytes h payload ≡ bytes = cc p.1 in
      let k : length (frame_bytes h payload) ≡ n = cc p.1 in
      record {
        frame = sym b;
        count = sym k ∙ ap length b;
        parts = λ small. rw (sym b) (framed h limit payload small fits);
      }

-- Law: an accepted list had writable metadata, its records in the table and none refused; its frame is the head and the records in their
-- order.
module _ (allowed : Bool) (width : ℕ) (table : List ℕ) (count : ℕ) (checks : ℕ → List Check) (limit : ℕ) (h : Head) (payload bytes : List ℕ) (n : ℕ)
    (is : list_answer allowed width table count checks (limited limit h payload) ≡ done bytes n) where
  tests : Passes ((14, allowed) ∷ (16, holds width table count) ∷ []) × (each_in_order checks 0 count (limited limit h payload) ≡ done bytes n)
  tests = lines_done ((14, allowed) ∷ (16, holds width table count) ∷ []) 0 (each_in_order checks 0 count (limited limit h payload)) is

  all_records : Sound checks count × (limited limit h payload ≡ done bytes n)
  all_records = each_done checks (limited limit h payload) count tests.1

  pub list_accepted : (allowed ≡ true) × (count * width ≤ length table) × Sound checks count
  list_accepted = (tests.0.0, leb-true (count * width) (length table) tests.0.1.0, all_records.0)

  pub list_wrote : Wrote h limit payload bytes n
  list_wrote = limited_passed limit h payload bytes n all_records.1

module _ (h : Head) (limit : ℕ) (buffer table : List ℕ) (count : ℕ) (bytes : List ℕ) (n : ℕ) where
  pub kv_accepted : kv_answer h limit buffer table count ≡ done bytes n
      → (kv_allowed h ≡ true) × (count * pair_width ≤ length table) × Sound (kv_checks buffer table) count
  kv_accepted is = list_accepted (kv_allowed h) pair_width table count (kv_checks buffer table) limit h (pairs_bytes buffer table count) bytes n (sym (kv_list h limit buffer table count) ∙ is)

  pub kv_wrote : kv_answer h limit buffer table count ≡ done bytes n → Wrote h limit (pairs_bytes buffer table count) bytes n
  kv_wrote is = list_wrote (kv_allowed h) pair_width table count (kv_checks buffer table) limit h (pairs_bytes buffer table count) bytes n (sym (kv_list h limit buffer table count) ∙ is)

  pub actions_accepted : actions_answer h limit buffer table count ≡ done bytes n
      → (fin_alone h ≡ true) × (count * action_width ≤ length table) × Sound (action_order buffer table) count
  actions_accepted is = list_accepted (fin_alone h) action_width table count (action_order buffer table) limit h (actions_bytes buffer table count) bytes n (sym (actions_list h limit buffer table count) ∙ is)

  pub actions_wrote : actions_answer h limit buffer table count ≡ done bytes n → Wrote h limit (actions_bytes buffer table count) bytes n
  actions_wrote is = list_wrote (fin_alone h) action_width table count (action_order buffer table) limit h (actions_bytes buffer table count) bytes n (sym (actions_list h limit buffer table count) ∙ is)

-- Law: the same of NOTIFY: FIN alone, all records in their tables, a message where there is a pair, and neither a message nor a pair refused.
module _ (h : Head) (limit : ℕ) (buffer messages : List ℕ) (count : ℕ) (pairs : List ℕ) (total : ℕ) (bytes : List ℕ) (n : ℕ)
    (is : notify_answer h limit buffer messages count pairs total ≡ done bytes n) where
  abbrev checks : List Check
  checks = (14, fin_alone h) ∷ (16, holds message_width messages count) ∷ (16, holds pair_width pairs total) ∷ (14, not (eqb count 0) || eqb total 0) ∷ []

  frame_tests : Passes checks × (notify_records h limit buffer messages count pairs total ≡ done bytes n)
  unfolding notify_answer
  frame_tests = lines_done checks 0 (notify_records h limit buffer messages count pairs total) is

  all_messages : Sound (message_order buffer total messages count) count × (notify_arguments h limit buffer messages count pairs total ≡ done bytes n)
  all_messages = each_done (message_order buffer total messages count) (notify_arguments h limit buffer messages count pairs total) count frame_tests.1

  all_pairs : Sound (pair_order buffer pairs) total × (limited limit h (messages_bytes buffer messages count pairs) ≡ done bytes n)
  all_pairs = each_done (pair_order buffer pairs) (limited limit h (messages_bytes buffer messages count pairs)) total all_messages.1

  pub notify_accepted : (fin_alone h ≡ true) × (count * message_width ≤ length messages) × (total * pair_width ≤ length pairs) × (not (eqb count 0) || eqb total 0 ≡ true)
  notify_accepted =
      let t = frame_tests.0 in
      (t.0, leb-true (count * message_width) (length messages) t.1.0, leb-true (total * pair_width) (length pairs) t.1.1.0, t.1.1.1.0)

  pub notify_passed_records : Sound (message_order buffer total messages count) count × Sound (pair_order buffer pairs) total
  notify_passed_records = (all_messages.0, all_pairs.0)

  pub notify_wrote : Wrote h limit (messages_bytes buffer messages count pairs) bytes n
  notify_wrote = limited_passed limit h (messages_bytes buffer messages count pairs) bytes n all_pairs.1
