-- Laws about messages: how their checks and bytes unroll, what a list that passes has, and that the arguments of all messages are all the
-- pairs, in their order.
use mathlib.Core.Path.{◌≡◌, refl, sym, ap, ap₂, ◌∙◌}
use mathlib.Core.Bool.{Bool, true, not, ◌||◌}
use mathlib.Core.List.{List, [], ◌∷◌, ◌++◌, append_assoc, append-nil}
use Prim.Native.Nat.{ℕ, zero, suc, ◌+◌, ◌-◌, ◌≤◌, ◌<◌}
use native.Mathlib.Numerals.{add-one}
use native.Mathlib.Omega.{arith}
use lib.Dec.{eqb}
use lib.ListN.{length, length-append}
use borrow.Author.Tests.{le-leb, eq-eqb, eqb-true, eqb-false, leb-true}
use Rattle.answer.specs.Order.{in_order}
use Rattle.answer.specs.Table.{records, joined}
use Rattle.answer.specs.Inner.{Passes, Sound}
use Rattle.answer.proofs.Cases.{bool_cases}
use Rattle.answer.proofs.Records.{records_snoc, records_both, joined_both}
use Rattle.varint.specs.Number.{number_bytes}
use Rattle.types.specs.Form.{part, string_bytes}
use Rattle.types.specs.Check.{string_checks}
use Rattle.frame.specs.declared.Pair.{Pair}
use Rattle.frame.specs.declared.Message.{Message}
use Rattle.frame.specs.Records.{message_at, pair_at}
use Rattle.writer.specs.Pair.{pair_bytes}
use Rattle.writer.specs.Message.{name_bytes, message_bytes, message_checks, run_start}
use Rattle.writer.specs.Frame.{pairs_bytes, messages_bytes}
use Rattle.writer.specs.Inner.{pair_order, message_order, Ready}
use Rattle.types.proofs.Writing.{string_long}
use Rattle.types.proofs.Checking.{string_range}
use Rattle.writer.proofs.Pairs.{formed_passed}

-- ---- a message's checks: past its numbers they are its name's

module _ (buffer : List ℕ) (total from : ℕ) (last : Bool) (m : Message) where
  pub message_name : eqb m.first from ≡ true → (last ≡ true → eqb total (m.first + m.count) ≡ true) → m.count ≤ 255
      → in_order (message_checks buffer total from last m) 0 ≡ in_order (string_checks buffer m.start m.len) 0
  unfolding in_order
  message_name h e l =
      bool_cases last (λ t. rw (h, t, e t, le-leb m.count 255 l)) (λ t. rw (h, t, le-leb m.count 255 l))

-- what a message has that passes
record Passed (buffer : List ℕ) (total from : ℕ) (last : Bool) (m : Message) : Type 0 where
  starts : m.first ≡ from
  ends : last ≡ true → total ≡ m.first + m.count
  few : m.count ≤ 255
  name : m.start + m.len ≤ length buffer

message_passed : (buffer : List ℕ) (total from : ℕ) (last : Bool) (m : Message) → Passes (message_checks buffer total from last m) → Passed buffer total from last m
message_passed buffer total from last m p =
    record {
      starts = eqb-true m.first from p.0;
      ends = λ l. eqb-true total (m.first + m.count) (rw l at p.1.0);
      few = leb-true m.count 255 p.1.1.0;
      name = string_range buffer m.start m.len p.1.1.1;
    }

-- ---- message i of a list

pub run_next : (messages : List ℕ) (i : ℕ) → run_start messages (i + 1) ≡ (message_at messages i).first + (message_at messages i).count
run_next messages i = ap (run_start messages) (add-one i)

-- a list that passes
module _ (buffer : List ℕ) (total : ℕ) (messages : List ℕ) (count : ℕ) (s : Sound (message_order buffer total messages count) count) where
  passes : (i : ℕ) → i < count → Passed buffer total (run_start messages i) (eqb (i + 1) count) (message_at messages i)
  passes i h = message_passed buffer total (run_start messages i) (eqb (i + 1) count) (message_at messages i) (s.each i h)

  -- Law: each starts where the one before ended.
  pub runs_start : (i : ℕ) → i < count → (message_at messages i).first ≡ run_start messages i
  runs_start i h = (passes i h).starts

  -- each run ends where the next starts, and the last at the last pair, so every run ends among the pairs
  run_inside : (k i : ℕ) → i + 1 + k ≡ count → (message_at messages i).first + (message_at messages i).count ≤ total
  run_inside zero i e = omega (arith, (passes i (omega arith)).ends (eq-eqb (i + 1) count (omega arith)))
  run_inside (suc k) i e = omega (arith, (passes (i + 1) (omega arith)).starts, run_next messages i, run_inside k (i + 1) (omega arith))

  pub runs_inside : (i : ℕ) → i < count → (message_at messages i).first + (message_at messages i).count ≤ total
  runs_inside i h = run_inside (count - (i + 1)) i (omega arith)

  -- the last ends at the last pair; without a message there is none
  pub last_ends : not (eqb count 0) || eqb total 0 ≡ true → run_start messages count ≡ total
  last_ends stray =
      bool_cases (eqb count 0)
      (λ c. let none = eqb-true count 0 c in ap (run_start messages) none ∙ sym (eqb-true total 0 (rw c at stray)))
      (λ c.
      let i = count - 1 in
      let some = eqb-false count 0 c in
      let last : i + 1 ≡ count = omega arith in
      ap (run_start messages) (sym last) ∙ run_next messages i ∙ sym ((passes i (omega arith)).ends (eq-eqb (i + 1) count last)))

-- Messages and pairs that pass are ready to be written.
pub all_ready : (buffer messages pairs : List ℕ) (count total : ℕ) → Sound (message_order buffer total messages count) count
    → Sound (pair_order buffer pairs) total → (i : ℕ) → i < count → Ready buffer pairs (message_at messages i)
all_ready buffer messages pairs count total ms ps i h =
    let p = passes buffer total messages count ms i h in
    let end = runs_inside buffer total messages count ms i h in
    record { name = p.name; few = omega (arith, p.few); run = λ j l m. formed_passed buffer (pair_at pairs j) (ps.each j (omega arith)) }

-- ---- a message's bytes

pub name_bytes_lem : (buffer : List ℕ) (m : Message) → name_bytes buffer m ≡ string_bytes (part buffer m.start m.len) ++ (m.count ∷ [])
unfolding name_bytes
name_bytes_lem buffer m = refl

pub message_bytes_lem : (buffer pairs : List ℕ) (m : Message)
    → message_bytes buffer pairs m ≡ name_bytes buffer m ++ joined (pair_bytes buffer) (records (pair_at pairs) m.first m.count)
unfolding message_bytes
message_bytes_lem buffer pairs m = refl

pub name_length : (buffer : List ℕ) (m : Message) → m.start + m.len ≤ length buffer → length (name_bytes buffer m) ≡ length (number_bytes m.len) + m.len + 1
name_length buffer m h =
    ap length (name_bytes_lem buffer m)
    ∙ length-append (string_bytes (part buffer m.start m.len)) (m.count ∷ [])
    ∙ ap (λ (n : ℕ). n + 1) (string_long buffer m.start m.len h)

-- ---- the arguments of all messages

-- the lists that some things have, one after the other
unfoldable pub gathered : {A B : Type 0} → (A → List B) → List A → List B
gathered f [] = []
gathered f (x ∷ xs) = f x ++ gathered f xs

-- the arguments of one message
abbrev pub arguments_of : List ℕ → Message → List Pair
arguments_of pairs m = records (pair_at pairs) m.first m.count

gathered_both : {A B : Type 0} (f : A → List B) (xs ys : List A) → gathered f (xs ++ ys) ≡ gathered f xs ++ gathered f ys
unfolding gathered
gathered_both f [] ys = refl
gathered_both f (x ∷ xs) ys = ap (λ (l : List _). f x ++ l) (gathered_both f xs ys) ∙ sym (append_assoc (f x) (gathered f xs) (gathered f ys))

gathered_one : {A B : Type 0} (f : A → List B) (x : A) → gathered f (x ∷ []) ≡ f x
unfolding gathered
gathered_one f x = append-nil (f x)

module _ (buffer : List ℕ) (total : ℕ) (messages : List ℕ) (count : ℕ) (s : Sound (message_order buffer total messages count) count) (pairs : List ℕ) where
  none_yet : gathered (arguments_of pairs) (records (message_at messages) 0 0) ≡ records (pair_at pairs) 0 0
  unfolding gathered records
  none_yet = refl

  -- those of the first i messages are the pairs before the end of the last of their runs
  so_far : (i : ℕ) → i ≤ count → gathered (arguments_of pairs) (records (message_at messages) 0 i) ≡ records (pair_at pairs) 0 (run_start messages i)
  so_far zero h = none_yet
  so_far (suc i) h =
      let m = message_at messages i in
      let end = run_start messages i in
      let starts = (passes buffer total messages count s i (omega arith)).starts in
      let one : suc i ≡ i + 1 = omega arith in
      let here : m.first ≡ 0 + end = omega arith in
      let both : end + m.count ≡ m.first + m.count = omega arith in
      ap (λ (k : ℕ). gathered (arguments_of pairs) (records (message_at messages) 0 k)) one
      ∙ ap (gathered (arguments_of pairs)) (records_snoc (message_at messages) i)
      ∙ gathered_both (arguments_of pairs) (records (message_at messages) 0 i) (m ∷ [])
      ∙ ap₂ ◌++◌ (so_far i (omega arith)) (gathered_one (arguments_of pairs) m ∙ ap (λ (k : ℕ). records (pair_at pairs) k m.count) here)
      ∙ sym (records_both (pair_at pairs) end 0 m.count)
      ∙ ap (records (pair_at pairs) 0) both

  -- Law: the arguments of all messages, one after the other, are all the pairs in their order. So no pair stands elsewhere or twice, and
  -- none is left out.
  pub arguments_all : not (eqb count 0) || eqb total 0 ≡ true
      → gathered (arguments_of pairs) (records (message_at messages) 0 count) ≡ records (pair_at pairs) 0 total
  arguments_all stray = so_far count (omega arith) ∙ ap (records (pair_at pairs) 0) (last_ends buffer total messages count s stray)

-- the bytes of messages are those of their names and of their arguments
parts_length : (buffer pairs : List ℕ) (ms : List Message)
    → length (joined (message_bytes buffer pairs) ms) ≡ length (joined (name_bytes buffer) ms) + length (joined (pair_bytes buffer) (gathered (arguments_of pairs) ms))
unfolding gathered joined
parts_length buffer pairs [] = refl
parts_length buffer pairs (m ∷ ms) =
    let args = arguments_of pairs m in
    let more = gathered (arguments_of pairs) ms in
    omega (
      arith,
      length-append (message_bytes buffer pairs m) (joined (message_bytes buffer pairs) ms),
      ap length (message_bytes_lem buffer pairs m) ∙ length-append (name_bytes buffer m) (joined (pair_bytes buffer) args),
      length-append (name_bytes buffer m) (joined (name_bytes buffer) ms),
      ap length (joined_both (pair_bytes buffer) args more) ∙ length-append (joined (pair_bytes buffer) args) (joined (pair_bytes buffer) more),
      parts_length buffer pairs ms,
    )

-- Law: so the payload has the bytes of all names and of all pairs.
pub payload_length : (buffer : List ℕ) (total : ℕ) (messages : List ℕ) (count : ℕ) → Sound (message_order buffer total messages count) count → (pairs : List ℕ)
    → not (eqb count 0) || eqb total 0 ≡ true
    → length (messages_bytes buffer messages count pairs) ≡ length (joined (name_bytes buffer) (records (message_at messages) 0 count)) + length (pairs_bytes buffer pairs total)
payload_length buffer total messages count s pairs stray =
    parts_length buffer pairs (records (message_at messages) 0 count)
    ∙ ap (λ (l : List Pair). length (joined (name_bytes buffer) (records (message_at messages) 0 count)) + length (joined (pair_bytes buffer) l)) (arguments_all buffer total messages count s pairs stray)
