-- Laws about each writer's answer: for each refusal, when.
use mathlib.Core.Path.{◌≡◌, refl, sym, ap, ◌∙◌}
use mathlib.Core.Bool.{Bool, true, false, not, ◌||◌}
use mathlib.Core.List.{List, [], ◌∷◌}
use Prim.Native.Nat.{ℕ, ◌*◌, ◌≤◌, ◌<◌}
use lib.Dec.{eqb}
use lib.ListN.{length}
use borrow.Author.Tests.{le-leb, lt-leb, eq-eqb, ne_eqb}
use Rattle.std.specs.Prelude.{Ok, Err}
use Rattle.answer.specs.declared.Reason.TheVariants as reason
use Rattle.answer.specs.declared.Refusal.{Refusal}
use Rattle.answer.specs.Answer.{Answer, refused}
use Rattle.answer.specs.Writes.{refusal_said, Writes}
use Rattle.answer.specs.Order.{Check, in_order, each_in_order}
use Rattle.answer.specs.Inner.{Sound}
use Rattle.answer.specs.Table.{holds}
use Rattle.answer.proofs.Order.{each_pass}
use Rattle.answer.proofs.Output.{writes_refusal}
use Rattle.frame.specs.declared.Head.{Head}
use Rattle.frame.specs.Records.{pair_width, action_width, message_width}
use Rattle.writer.specs.Pair.{kv_checks}
use Rattle.writer.specs.Inner.{pair_order, action_order, message_order, Counted}
use Rattle.writer.specs.Frame.{limited, fin_alone, agent_allowed, kv_allowed, pairs_bytes, kv_answer, actions_bytes, actions_answer, messages_bytes, notify_answer}

-- ---- which metadata is writable

module _ (h : Head) where
  pub kv_haproxy_hello : h.frame_type ≡ 1 → kv_allowed h ≡ true
  unfolding kv_allowed
  kv_haproxy_hello e = simp (eq-eqb h.frame_type 1 e)

  pub kv_haproxy_disconnect : h.frame_type ≡ 2 → kv_allowed h ≡ true
  unfolding kv_allowed
  kv_haproxy_disconnect e = rw e

  pub kv_agent_hello : h.frame_type ≡ 101 → kv_allowed h ≡ agent_allowed h
  unfolding kv_allowed
  kv_agent_hello e = rw e

  pub kv_agent_disconnect : h.frame_type ≡ 102 → kv_allowed h ≡ agent_allowed h
  unfolding kv_allowed
  kv_agent_disconnect e = rw e

  pub kv_other : (h.frame_type ≡ 1 → ⊥) → (h.frame_type ≡ 2 → ⊥) → (h.frame_type ≡ 101 → ⊥) → (h.frame_type ≡ 102 → ⊥) → kv_allowed h ≡ false
  unfolding kv_allowed
  kv_other a b c d = rw (ne_eqb h.frame_type 1 a, ne_eqb h.frame_type 2 b, ne_eqb h.frame_type 101 c, ne_eqb h.frame_type 102 d)

-- ---- metadata, a count of records, and then the records in their order

-- the answer of a list of records: which metadata is allowed, how wide a record is, what refuses one and what comes after
abbrev pub list_answer : Bool → ℕ → List ℕ → ℕ → (ℕ → List Check) → Answer (List ℕ) → Answer (List ℕ)
list_answer allowed width table count checks a =
    in_order ((refused 14 0, allowed) ∷ (refused 16 0, holds width table count) ∷ []) (each_in_order checks 0 count a)

module _ (allowed : Bool) (width : ℕ) (table : List ℕ) (count : ℕ) (checks : ℕ → List Check) (a : Answer (List ℕ)) where
  pub list_metadata : allowed ≡ false → list_answer allowed width table count checks a ≡ refused 14 0
  unfolding in_order
  list_metadata e = rw e

  pub list_count : allowed ≡ true → length table < count * width → list_answer allowed width table count checks a ≡ refused 16 0
  unfolding in_order
  list_count e l = rw (e, lt-leb (count * width) (length table) l)

  pub list_held : allowed ≡ true → count * width ≤ length table → list_answer allowed width table count checks a ≡ each_in_order checks 0 count a
  unfolding in_order
  list_held e l = rw (e, le-leb (count * width) (length table) l)

-- what a writer says that has such an answer, by what it asks in turn: the metadata, the table, and the records
module _ {answer : Answer (List ℕ)} (allowed : Bool) (width : ℕ) (table : List ℕ) (count : ℕ) (checks : ℕ → List Check) (a : Answer (List ℕ))
    (is : answer ≡ list_answer allowed width table count checks a) (old : List ℕ) where
  pub list_unwritable : allowed ≡ false → {r : Refusal} → r ≡ record { reason = reason.NotWritable; place = 0 } → Writes answer (Err r) old old
  list_unwritable e {r} f = writes_refusal r old (is ∙ list_metadata allowed width table count checks a e ∙ sym (ap refusal_said f))

  module _ (e : allowed ≡ true) where
    pub list_outside : {r : Refusal} → Counted table width count (Err r) → Writes answer (Err r) old old
    list_outside {r} c = writes_refusal r old (is ∙ list_count allowed width table count checks a e c.0 ∙ sym c.1)

    module _ {n : ℕ} (c : Counted table width count (Ok n)) where
      pub list_refused : {r : Refusal} → ((b : Answer (List ℕ)) → each_in_order checks 0 n b ≡ refusal_said r) → Writes answer (Err r) old old
      list_refused {r} f = writes_refusal r old (is ∙ list_held allowed width table count checks a e c.1 ∙ (rw c.0 at (f a)))

      pub list_passed : Sound checks n → answer ≡ a
      list_passed s = is ∙ list_held allowed width table count checks a e c.1 ∙ each_pass checks a count (rw c.0 at s)

-- both writers of one list have such an answer
pub kv_list : (h : Head) (limit : ℕ) (buffer pairs : List ℕ) (count : ℕ)
    → kv_answer h limit buffer pairs count ≡ list_answer (kv_allowed h) pair_width pairs count (kv_checks buffer pairs) (limited limit h (pairs_bytes buffer pairs count))
unfolding kv_answer
kv_list h limit buffer pairs count = refl

pub actions_list : (h : Head) (limit : ℕ) (buffer actions : List ℕ) (count : ℕ)
    → actions_answer h limit buffer actions count ≡ list_answer (fin_alone h) action_width actions count (action_order buffer actions) (limited limit h (actions_bytes buffer actions count))
unfolding actions_answer
actions_list h limit buffer actions count = refl

-- ---- the NOTIFY writer's answer

module _ (h : Head) (limit : ℕ) (buffer messages : List ℕ) (count : ℕ) (pairs : List ℕ) (total : ℕ) where
  -- what comes after the lines of the frame, and after the messages
  abbrev pub notify_arguments : Answer (List ℕ)
  notify_arguments = each_in_order (pair_order buffer pairs) 0 total (limited limit h (messages_bytes buffer messages count pairs))

  abbrev pub notify_records : Answer (List ℕ)
  notify_records = each_in_order (message_order buffer total messages count) 0 count notify_arguments

  pub notify_metadata : fin_alone h ≡ false → notify_answer h limit buffer messages count pairs total ≡ refused 14 0
  unfolding notify_answer in_order
  notify_metadata e = rw e

  module _ (e : fin_alone h ≡ true) where
    pub notify_messages : length messages < count * message_width → notify_answer h limit buffer messages count pairs total ≡ refused 16 0
    unfolding notify_answer in_order
    notify_messages l = rw (e, lt-leb (count * message_width) (length messages) l)

    module _ (m : count * message_width ≤ length messages) where
      pub notify_pairs : length pairs < total * pair_width → notify_answer h limit buffer messages count pairs total ≡ refused 16 0
      unfolding notify_answer in_order
      notify_pairs l = rw (e, le-leb (count * message_width) (length messages) m, lt-leb (total * pair_width) (length pairs) l)

      module _ (p : total * pair_width ≤ length pairs) where
        pub notify_stray : not (eqb count 0) || eqb total 0 ≡ false → notify_answer h limit buffer messages count pairs total ≡ refused 14 0
        unfolding notify_answer in_order
        notify_stray s = rw (e, le-leb (count * message_width) (length messages) m, le-leb (total * pair_width) (length pairs) p, s)

        module _ (s : not (eqb count 0) || eqb total 0 ≡ true) where
          pub notify_held : notify_answer h limit buffer messages count pairs total ≡ notify_records
          unfolding notify_answer in_order
          notify_held = rw (e, le-leb (count * message_width) (length messages) m, le-leb (total * pair_width) (length pairs) p, s)

          module _ (sound : Sound (message_order buffer total messages count) count) where
            pub notify_named : notify_answer h limit buffer messages count pairs total ≡ notify_arguments
            notify_named = notify_held ∙ each_pass (message_order buffer total messages count) notify_arguments count sound

            pub notify_passed : Sound (pair_order buffer pairs) total
                → notify_answer h limit buffer messages count pairs total ≡ limited limit h (messages_bytes buffer messages count pairs)
            notify_passed passed = notify_named ∙ each_pass (pair_order buffer pairs) (limited limit h (messages_bytes buffer messages count pairs)) total passed
