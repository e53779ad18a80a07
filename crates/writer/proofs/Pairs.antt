-- Laws about pairs: how their checks and bytes unroll, and what a pair that passes them has.
use mathlib.Core.Path.{◌≡◌, refl, sym, ◌∙◌}
use mathlib.Core.Bool.{true, false}
use mathlib.Core.List.{List, [], ◌∷◌, ◌++◌}
use Prim.Native.Nat.{ℕ, ◌+◌, ◌≤◌}
use native.Mathlib.Omega.{arith}
use lib.ListN.{length, length-append}
use borrow.Author.Tests.{not-true, leb-true}
use Rattle.std.specs.Prelude.{Result}
use Rattle.answer.specs.declared.Refusal.{Refusal}
use Rattle.answer.specs.Answer.{written, leaves}
use Rattle.answer.specs.Writes.{Writes, counted}
use Rattle.answer.specs.Order.{Check, in_order}
use Rattle.answer.specs.Table.{records, some}
use Rattle.answer.specs.Inner.{Passes, Sound}
use Rattle.answer.proofs.Order.{order_fails, order_holds, passes_both, passes_parts, order_front, order_past, Refuses, lines_refuse}
use Rattle.answer.proofs.Parts.{room_counted, room_leaves}
use Rattle.varint.specs.Number.{number_bytes}
use Rattle.types.specs.Form.{string_bytes, value_bytes, writable_record, ranged, value_answer}
use Rattle.types.specs.Check.{string_checks, part_checks}
use Rattle.types.specs.declared.Value.{Value}
use Rattle.types.specs.Promise.{record_of}
use Rattle.types.proofs.Writing.{string_long, form_whole}
use Rattle.frame.specs.declared.Pair.{Pair}
use Rattle.frame.specs.Records.{pair_at, key_of, same_key}
use Rattle.writer.specs.Pair.{pair_bytes, pair_checks, new_key, kv_checks}
use Rattle.writer.specs.Inner.{pair_order, Formed}

-- ---- a pair's checks, line by line

module _ (buffer : List ℕ) (p : Pair) where
  pub pair_fields : writable_record (record_of p.value) ≡ false → in_order (pair_checks buffer p) 0 ≡ 14
  pair_fields h = order_fails 14 _ _ 0 h

  pub pair_key : writable_record (record_of p.value) ≡ true → (n : ℕ) → n ≡ in_order (string_checks buffer p.start p.len) 0 → (n ≡ 0 → ⊥)
      → n ≡ in_order (pair_checks buffer p) 0
  pair_key h n e ne = order_front (string_checks buffer p.start p.len) (part_checks buffer (record_of p.value)) n e ne ∙ sym (order_holds 14 _ _ 0 h)

  -- past the key it is the value's part
  pub pair_part : writable_record (record_of p.value) ≡ true → Passes (string_checks buffer p.start p.len)
      → in_order (pair_checks buffer p) 0 ≡ in_order (part_checks buffer (record_of p.value)) 0
  pair_part h t = order_holds 14 _ _ 0 h ∙ order_past (string_checks buffer p.start p.len) (part_checks buffer (record_of p.value)) t

-- Law: a pair that passes has a written form.
pub formed_passed : (buffer : List ℕ) (p : Pair) → Passes (pair_checks buffer p) → Formed buffer p
formed_passed buffer p t = record { fields = t.0; key = leb-true (p.start + p.len) (length buffer) t.1.0; range = t.1.1.1.0 }

-- ---- its bytes

pub pair_bytes_lem : (buffer : List ℕ) (p : Pair) → pair_bytes buffer p ≡ string_bytes (key_of buffer p) ++ value_bytes buffer (record_of p.value)
unfolding pair_bytes
pair_bytes_lem buffer p = refl

pub pair_long : {buffer : List ℕ} {p : Pair} → Formed buffer p
    → length (pair_bytes buffer p) ≡ length (number_bytes p.len) + p.len + length (value_bytes buffer (record_of p.value))
unfolding pair_bytes
pair_long {buffer} {p} f = simp length-append (omega (arith, string_long buffer p.start p.len f.key))

-- ---- pair i of a KV list

module _ (buffer pairs : List ℕ) (i : ℕ) where
  abbrev new : List Check
  new = (9, new_key buffer pairs i) ∷ []

  pub kv_first : (n : ℕ) → n ≡ in_order (pair_order buffer pairs i) 0 → (n ≡ 0 → ⊥) → n ≡ in_order (kv_checks buffer pairs i) 0
  kv_first n e ne = order_front (pair_order buffer pairs i) new n e ne

  pub kv_own : (n : ℕ) → n ≡ in_order (pair_order buffer pairs i) 0 → (n ≡ 0 → ⊥) → Refuses (kv_checks buffer pairs i) n
  kv_own n e ne = lines_refuse (kv_checks buffer pairs i) n (kv_first n e ne) ne

  pub kv_passed : Passes (kv_checks buffer pairs i) → Passes (pair_order buffer pairs i)
  kv_passed p = (passes_parts (pair_order buffer pairs i) new p).0

  -- its key is new as well
  pub kv_fresh : Passes (kv_checks buffer pairs i) → some (same_key buffer (pair_at pairs i)) (records (pair_at pairs) 0 i) ≡ false
  unfolding new_key
  kv_fresh p = not-true _ (passes_parts (pair_order buffer pairs i) new p).1.0

  module _ (p : Passes (pair_order buffer pairs i)) where
    pub kv_met : some (same_key buffer (pair_at pairs i)) (records (pair_at pairs) 0 i) ≡ true → 9 ≡ in_order (kv_checks buffer pairs i) 0
    unfolding new_key
    kv_met h = sym (order_past (pair_order buffer pairs i) new p ∙ order_fails 9 _ [] 0 (rw h))

    pub kv_new : some (same_key buffer (pair_at pairs i)) (records (pair_at pairs) 0 i) ≡ false → Passes (kv_checks buffer pairs i)
    unfolding new_key
    kv_new h = passes_both (pair_order buffer pairs i) new p (rw h, tt)

-- records of a KV list that pass, pass on their own
pub kv_sound : (buffer pairs : List ℕ) {n : ℕ} → Sound (kv_checks buffer pairs) n → Sound (pair_order buffer pairs) n
kv_sound buffer pairs s = record { each = λ i h. kv_passed buffer pairs i (s.each i h) }

-- ---- what a writer that has room has written

-- a value
module _ (buffer : List ℕ) (v : Value) {r : Result ℕ Refusal} {n : ℕ} {old new : List ℕ} (p : Writes (value_answer buffer (record_of v)) r old new) (w : n ≡ counted r)
    (h : writable_record (record_of v) ≡ true) (g : ranged buffer (record_of v) ≡ true)
    (room : length (value_bytes buffer (record_of v)) ≤ length old) where
  whole : Writes (written (value_bytes buffer (record_of v))) r old new
  whole = rw (form_whole buffer (record_of v) h g) at p

  pub value_count : n ≡ length (value_bytes buffer (record_of v))
  value_count = w ∙ room_counted (value_bytes buffer (record_of v)) whole room

  pub value_leaves : new ≡ leaves (written (value_bytes buffer (record_of v))) old
  value_leaves = room_leaves (value_bytes buffer (record_of v)) whole room
