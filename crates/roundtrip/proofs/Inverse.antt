-- What is read is written back, byte for byte, as the calls promise it: `read_frame` leaves records of an accepted frame of types 1 to 3, and `write_kv` or
-- `write_notify` is given them, with the frame's own bytes as its buffer and the same limit. The conditions are those of Plain, and no others.
use mathlib.Core.Path.{◌≡◌}
use mathlib.Core.Bool.{true, false}
use mathlib.Core.Logic.{⊎_elim}
use mathlib.Core.List.{List, [], ◌++◌}
use Prim.Native.Nat.{ℕ, ◌≤◌, ◌<◌}
use lib.ListN.{length, take, drop}
use Rattle.varint.proofs.Reading.{Bytes}
use Rattle.frame.specs.declared.Head.{Head}
use Rattle.frame.specs.declared.Side.TheVariants as side
use Rattle.frame.specs.Records.{message_at, pair_at}
use Rattle.payload.specs.declared.Counts.{Counts}
use Rattle.payload.specs.Promise.{rooms_of}
use Rattle.parser.specs.Promise.{ReadFrame}
use Rattle.parser.proofs.Unique.{frame_done}
use Rattle.writer.specs.Frame.{head_of, kv_answer, notify_answer}
use Rattle.roundtrip.proofs.Plain.{plain_pair, well_pair, well_name, WellPairs, WellNames, PlainPairs}
use Rattle.roundtrip.proofs.Head.{head_again}
use Rattle.roundtrip.proofs.Rewritten.{Rewrites, caller_refused_for, done_refused, first_or_all, wrote_back, wrote_none, wrote_other, wrote_only}
use Rattle.roundtrip.proofs.Again.{Left, left, long, haproxy_kv, kv_rewrites, notify_refuses_name, notify_rewrites}
use Rattle.std.specs.Prelude.{Result, Ok, Err}
use Rattle.answer.specs.declared.Read.{Read}
use Rattle.frame.specs.declared.Stop.{Stop}
use Rattle.parser.specs.declared.Frame.{Frame}
use Rattle.answer.specs.declared.Refusal.{Refusal}
use Rattle.answer.specs.declared.Reason.TheVariants as reason
use Rattle.answer.specs.Writes.{Writes}

-- ---- a frame that `read_frame` accepted

-- The bytes lent to it are bytes. It took `used` of them, and left so many records.
module _ (limit : ℕ) (s : List ℕ) (small : Bytes s) (r : Result (Read Frame) Stop) (old_messages new_messages old_pairs new_pairs : List ℕ)
    (reads : ReadFrame s limit r old_messages new_messages old_pairs new_pairs) (m : Head) (counts : Counts) (used : ℕ) (is : r ≡ frame_done m counts used) where
  abbrev f : List ℕ
  f = take used s

  abbrev rows : ℕ
  rows = counts.messages

  abbrev total : ℕ
  total = counts.pairs

  l : Left side.HAProxy limit f m counts new_messages new_pairs []
  l = left side.HAProxy limit (rooms_of old_messages old_pairs []) s small r old_messages new_messages old_pairs new_pairs [] [] reads m counts used is

  many : length f ≡ used
  many = long side.HAProxy limit (rooms_of old_messages old_pairs []) s small r old_messages new_messages old_pairs new_pairs [] [] reads m counts used is

  abbrev head : Head
  head = head_again m

  -- ---- of type 1 or 2

  -- and is written by `write_kv`
  module _ (kv : m.frame_type ≡ 3 → ⊥) (out : Result ℕ Refusal) (old new : List ℕ)
      (writes : Writes (kv_answer (head_of m.frame_type true false m.stream m.frame) limit f new_pairs total) out old new) where
    r_kv : Rewrites limit f head (kv_answer head limit f new_pairs total) total (λ i. well_pair f (pair_at new_pairs i)) (λ i. plain_pair f (pair_at new_pairs i))
    r_kv = let k = haproxy_kv l kv in kv_rewrites l k.0 k.1

    -- Law: with room for the frame, where all texts are UTF-8 and all values plain, exactly the frame's bytes are written.
    pub kv_back_lem : WellPairs f new_pairs total → PlainPairs f new_pairs total → used ≤ length old → (out ≡ Ok used) × (new ≡ f ++ drop used old)
    kv_back_lem = wrote_back r_kv writes used many

    -- Law: where a pair has a text that is not UTF-8, and none before it has, it is 15 with the pair's index, and no byte is written.
    pub kv_text : (i : ℕ) → i < total → well_pair f (pair_at new_pairs i) ≡ false → WellPairs f new_pairs i
        → (out ≡ Err (record { reason = reason.NotText; place = i })) × (new ≡ old)
    kv_text = wrote_none r_kv writes

    -- Law: where all texts are UTF-8 and a value is not plain, what is written, if anything is, is another frame.
    pub kv_other : WellPairs f new_pairs total → (i : ℕ) → i < total → plain_pair f (pair_at new_pairs i) ≡ false → (n : ℕ) → out ≡ Ok n → take n new ≡ f → ⊥
    kv_other = wrote_other r_kv writes

    -- Law: so the frame's bytes are written only where all texts are UTF-8 and all values plain.
    pub kv_only : (n : ℕ) → out ≡ Ok n → take n new ≡ f → WellPairs f new_pairs total × PlainPairs f new_pairs total
    kv_only = wrote_only r_kv writes

  -- ---- of type 3

  -- and is written by `write_notify`
  module _ (notify : m.frame_type ≡ 3) (out : Result ℕ Refusal) (old new : List ℕ)
      (writes : Writes (notify_answer (head_of 3 true false m.stream m.frame) limit f new_messages rows new_pairs total) out old new) where
    module _ (ns : WellNames f new_messages rows) where
      r_notify : Rewrites limit f (head_of 3 true false m.stream m.frame) (notify_answer (head_of 3 true false m.stream m.frame) limit f new_messages rows new_pairs total) total
          (λ i. well_pair f (pair_at new_pairs i)) (λ i. plain_pair f (pair_at new_pairs i))
      r_notify = rw notify at (notify_rewrites l notify ns)

      -- Law: the same.
      pub notify_back_lem : WellPairs f new_pairs total → PlainPairs f new_pairs total → used ≤ length old → (out ≡ Ok used) × (new ≡ f ++ drop used old)
      notify_back_lem = wrote_back r_notify writes used many

      -- Law: where a pair has a text that is not UTF-8, and none before it has, it is 15 with the pair's index, and no byte is written.
      pub notify_text : (i : ℕ) → i < total → well_pair f (pair_at new_pairs i) ≡ false → WellPairs f new_pairs i
          → (out ≡ Err (record { reason = reason.NotText; place = i })) × (new ≡ old)
      notify_text = wrote_none r_notify writes

      -- Law: where all texts are UTF-8 and a value is not plain, what is written, if anything is, is another frame.
      pub notify_other : WellPairs f new_pairs total → (i : ℕ) → i < total → plain_pair f (pair_at new_pairs i) ≡ false → (n : ℕ) → out ≡ Ok n → take n new ≡ f → ⊥
      notify_other = wrote_other r_notify writes

    -- Law: where a name is not UTF-8, and none before it is, it is 15 with the message's index, and no byte is written.
    pub notify_name : (i : ℕ) → i < rows → well_name f (message_at new_messages i) ≡ false → WellNames f new_messages i
        → (out ≡ Err (record { reason = reason.NotText; place = i })) × (new ≡ old)
    notify_name i b ill ns =
        caller_refused_for writes reason.NotText i
        (rw notify at (notify_refuses_name l notify i b ill ns))

    -- Law: so the frame's bytes are written only where all texts are UTF-8 and all values plain.
    pub notify_only : (n : ℕ) → out ≡ Ok n → take n new ≡ f → WellNames f new_messages rows × WellPairs f new_pairs total × PlainPairs f new_pairs total
    notify_only n so same =
        ⊎_elim
        (λ ns. let o = wrote_only (r_notify ns) writes n so same in (ns, o.0, o.1))
        (λ y. absurd (done_refused so (notify_name y.0 y.1 y.2 y.3).0))
        (first_or_all (λ (i : ℕ). well_name f (message_at new_messages i)) rows)
