-- The same of agents' frames, as the calls promise it: `read_agent_frame` leaves records of an accepted frame of types 101 to 103, and `write_kv` or
-- `write_actions` is given them, with the frame's own bytes as its buffer and the same limit.
use mathlib.Core.Path.{◌≡◌, ◌∙◌}
use mathlib.Core.Bool.{true, false, ◌&&◌}
use mathlib.Core.List.{List, [], ◌++◌}
use Prim.Native.Nat.{ℕ, ◌≤◌, ◌<◌}
use lib.Dec.{eqb}
use lib.ListN.{length, take, drop}
use borrow.Author.Tests.{eq-eqb, eqb-true, eqb-false}
use Rattle.std.specs.Prelude.{Result, Ok, Err}
use Rattle.answer.specs.declared.Read.{Read}
use Rattle.frame.specs.declared.Stop.{Stop}
use Rattle.parser.specs.declared.Frame.{Frame}
use Rattle.answer.specs.declared.Refusal.{Refusal}
use Rattle.answer.specs.declared.Reason.TheVariants as reason
use Rattle.answer.proofs.Cases.{bool_cases}
use Rattle.varint.proofs.Reading.{Bytes}
use Rattle.frame.specs.declared.Head.{Head}
use Rattle.frame.specs.declared.Side.TheVariants as side
use Rattle.frame.specs.Records.{pair_width, pair_at, action_at}
use Rattle.payload.specs.declared.Counts.{Counts}
use Rattle.payload.specs.Promise.{rooms_of}
use Rattle.parser.specs.Promise.{ReadAgentFrame}
use Rattle.parser.proofs.Unique.{frame_done}
use Rattle.writer.specs.Pair.{kv_checks}
use Rattle.writer.specs.Frame.{head_of, limited, kv_allowed, pairs_bytes, kv_answer, actions_answer}
use Rattle.writer.proofs.Answers.{kv_list, list_metadata}
use Rattle.roundtrip.proofs.Plain.{plain_pair, well_pair, WellPairs, PlainPairs, plain_action, well_action, WellActions, PlainActions}
use Rattle.roundtrip.proofs.Head.{head_again}
use Rattle.roundtrip.proofs.Rewritten.{Rewrites, caller_refused_for, done_refused, wrote_back, wrote_none, wrote_other, wrote_only}
use Rattle.roundtrip.proofs.Again.{Left, left, long, agent_kv, kv_rewrites, ack_rewrites}
use Rattle.answer.specs.Writes.{Writes}

-- ---- a frame that `read_agent_frame` accepted

-- The bytes lent to it are bytes. It took `used` of them, and left so many records.
module _ (limit : ℕ) (s : List ℕ) (small : Bytes s) (r : Result (Read Frame) Stop) (old_pairs new_pairs old_actions new_actions : List ℕ)
    (reads : ReadAgentFrame s limit r old_pairs new_pairs old_actions new_actions) (m : Head) (counts : Counts) (used : ℕ) (is : r ≡ frame_done m counts used) where
  abbrev f : List ℕ
  f = take used s

  abbrev total : ℕ
  total = counts.pairs

  abbrev rows : ℕ
  rows = counts.actions

  l : Left side.Agents limit f m counts [] new_pairs new_actions
  l = left side.Agents limit (rooms_of [] old_pairs old_actions) s small r [] [] old_pairs new_pairs old_actions new_actions reads m counts used is

  many : length f ≡ used
  many = long side.Agents limit (rooms_of [] old_pairs old_actions) s small r [] [] old_pairs new_pairs old_actions new_actions reads m counts used is

  abbrev head : Head
  head = head_again m

  -- ---- of type 103

  -- and is written by `write_actions`
  module _ (ack : m.frame_type ≡ 103) (out : Result ℕ Refusal) (old new : List ℕ)
      (writes : Writes (actions_answer (head_of 103 true false m.stream m.frame) limit f new_actions rows) out old new) where
    r_ack : Rewrites limit f (head_of 103 true false m.stream m.frame) (actions_answer (head_of 103 true false m.stream m.frame) limit f new_actions rows) rows
        (λ i. well_action f (action_at new_actions i)) (λ i. plain_action f (action_at new_actions i))
    r_ack = rw ack at (ack_rewrites l ack)

    -- Law: with room for the frame, where all texts are UTF-8 and all values plain, exactly the frame's bytes are written.
    pub ack_back : WellActions f new_actions rows → PlainActions f new_actions rows → used ≤ length old → (out ≡ Ok used) × (new ≡ f ++ drop used old)
    ack_back = wrote_back r_ack writes used many

    -- Law: where an action has a text that is not UTF-8, and none before it has, it is 15 with the action's index, and no byte is written.
    pub ack_text : (i : ℕ) → i < rows → well_action f (action_at new_actions i) ≡ false → WellActions f new_actions i
        → (out ≡ Err (record { reason = reason.NotText; place = i })) × (new ≡ old)
    ack_text = wrote_none r_ack writes

    -- Law: where all texts are UTF-8 and a value is not plain, what is written, if anything is, is another frame.
    pub ack_other : WellActions f new_actions rows → (i : ℕ) → i < rows → plain_action f (action_at new_actions i) ≡ false
        → (n : ℕ) → out ≡ Ok n → take n new ≡ f → ⊥
    ack_other = wrote_other r_ack writes

    -- Law: so the frame's bytes are written only where all texts are UTF-8 and all values plain.
    pub ack_only : (n : ℕ) → out ≡ Ok n → take n new ≡ f → WellActions f new_actions rows × PlainActions f new_actions rows
    ack_only = wrote_only r_ack writes

  -- ---- of type 101 or 102

  -- and is written by `write_kv`
  module _ (kv : m.frame_type ≡ 103 → ⊥) (out : Result ℕ Refusal) (old new : List ℕ)
      (writes : Writes (kv_answer (head_of m.frame_type true false m.stream m.frame) limit f new_pairs total) out old new) where
    may : kv_allowed head ≡ eqb m.stream 0 && eqb m.frame 0
    may = (agent_kv l kv).1

    -- Law: where an id is not 0, it is 14, and no byte is written.
    pub agent_kv_ids : (m.stream ≡ 0 → m.frame ≡ 0 → ⊥) → (out ≡ Err (record { reason = reason.NotWritable; place = 0 })) × (new ≡ old)
    agent_kv_ids ids =
        caller_refused_for writes reason.NotWritable 0
        (kv_list head limit f new_pairs total
        ∙ list_metadata (kv_allowed head) pair_width new_pairs total (kv_checks f new_pairs) (limited limit head (pairs_bytes f new_pairs total)) (may ∙ not_zero))
      where
        not_zero : eqb m.stream 0 && eqb m.frame 0 ≡ false
        not_zero =
            bool_cases (eqb m.stream 0)
            (λ t. bool_cases (eqb m.frame 0) (λ u. absurd (ids (eqb-true m.stream 0 t) (eqb-true m.frame 0 u))) (λ u. rw (t, u)))
            (λ t. rw t)

    -- and where both are
    module _ (stream : m.stream ≡ 0) (frame : m.frame ≡ 0) where
      allowed : kv_allowed head ≡ true
      allowed = may ∙ rw (eq-eqb m.stream 0 stream, eq-eqb m.frame 0 frame)

      r_kv : Rewrites limit f head (kv_answer head limit f new_pairs total) total (λ i. well_pair f (pair_at new_pairs i)) (λ i. plain_pair f (pair_at new_pairs i))
      r_kv = kv_rewrites l (agent_kv l kv).0 allowed

      -- Law: with room for the frame, where all texts are UTF-8 and all values plain, exactly the frame's bytes are written.
      pub agent_kv_back : WellPairs f new_pairs total → PlainPairs f new_pairs total → used ≤ length old → (out ≡ Ok used) × (new ≡ f ++ drop used old)
      agent_kv_back = wrote_back r_kv writes used many

      -- Law: where a pair has a text that is not UTF-8, and none before it has, it is 15 with the pair's index, and no byte is written.
      pub agent_kv_text : (i : ℕ) → i < total → well_pair f (pair_at new_pairs i) ≡ false → WellPairs f new_pairs i
          → (out ≡ Err (record { reason = reason.NotText; place = i })) × (new ≡ old)
      agent_kv_text = wrote_none r_kv writes

      -- Law: where all texts are UTF-8 and a value is not plain, what is written, if anything is, is another frame.
      pub agent_kv_other : WellPairs f new_pairs total → (i : ℕ) → i < total → plain_pair f (pair_at new_pairs i) ≡ false
          → (n : ℕ) → out ≡ Ok n → take n new ≡ f → ⊥
      agent_kv_other = wrote_other r_kv writes

    -- Law: so the frame's bytes are written only where both ids are 0, all texts UTF-8 and all values plain.
    pub agent_kv_only : (n : ℕ) → out ≡ Ok n → take n new ≡ f
        → ((m.stream ≡ 0) × (m.frame ≡ 0)) × (WellPairs f new_pairs total × PlainPairs f new_pairs total)
    agent_kv_only n so same = (zero, wrote_only (r_kv zero.0 zero.1) writes n so same)
      where
        zero : (m.stream ≡ 0) × (m.frame ≡ 0)
        zero =
            bool_cases (eqb m.stream 0)
            (λ t.
            bool_cases (eqb m.frame 0)
            (λ u. (eqb-true m.stream 0 t, eqb-true m.frame 0 u))
            (λ u. absurd (done_refused so (agent_kv_ids (λ i j. eqb-false m.frame 0 u j)).0)))
            (λ t. absurd (done_refused so (agent_kv_ids (λ i j. eqb-false m.stream 0 t i)).0))
