-- Laws about the checks: how they unroll, and that a value which passes them has its written form.
use mathlib.Core.Path.{◌≡◌, refl, sym, ap, ◌∙◌}
use mathlib.Core.Bool.{true, false, not, ◌||◌}
use mathlib.Core.List.{List}
use Prim.Native.Nat.{ℕ, ◌+◌, ◌≤◌}
use native.Mathlib.Omega.{arith}
use lib.Dec.{eqb}
use lib.ListN.{length}
use borrow.Author.Tests.{le-leb, leb-true, eq-eqb, ne_eqb}
use Rattle.answer.specs.Answer.{done, written}
use Rattle.answer.specs.Order.{in_order}
use Rattle.answer.specs.Inner.{Passes}
use Rattle.answer.proofs.Cases.{bool_cases}
use Rattle.answer.proofs.Order.{order_fails, order_holds}
use Rattle.utf8.specs.Text.{is_utf8}
use Rattle.types.specs.Value.{Record, value, shape, points, typed}
use Rattle.types.specs.Form.{part, inside, value_bytes, writable_record, ranged, value_answer}
use Rattle.types.specs.Check.{string_checks, part_checks, value_checks}
use Rattle.types.proofs.Reading.{typed_accepted}
use Rattle.types.proofs.Shapes.{shape_is, in_record}
use Rattle.types.proofs.Writing.{form_whole}

-- ---- strings

module _ (buffer : List ℕ) (start len : ℕ) where
  pub string_outside : inside buffer start len ≡ false → in_order (string_checks buffer start len) 0 ≡ 16
  unfolding in_order
  string_outside h = rw h

  pub string_ill : inside buffer start len ≡ true → is_utf8 (part buffer start len) ≡ false → in_order (string_checks buffer start len) 0 ≡ 15
  unfolding in_order
  string_ill h u = rw (h, u)

  pub string_well : inside buffer start len ≡ true → is_utf8 (part buffer start len) ≡ true → in_order (string_checks buffer start len) 0 ≡ 0
  unfolding in_order
  string_well h u = rw (h, u)

  -- a string that passes lies inside
  pub string_range : Passes (string_checks buffer start len) → start + len ≤ length buffer
  string_range p = leb-true (start + len) (length buffer) p.0

-- ---- values

module _ (buffer : List ℕ) (kind a b flags : ℕ) where
  -- of kind 8 it is a string's
  pub part_string : kind ≡ 8 → in_order (part_checks buffer (value kind a b flags)) 0 ≡ in_order (string_checks buffer a b) 0
  unfolding in_order
  part_string e = rw (e, ap points shape_is.8)

  pub part_outside : ranged buffer (value kind a b flags) ≡ false → in_order (part_checks buffer (value kind a b flags)) 0 ≡ 16
  unfolding in_order
  part_outside h = rw h

  pub part_within : (kind ≡ 8 → ⊥) → ranged buffer (value kind a b flags) ≡ true → in_order (part_checks buffer (value kind a b flags)) 0 ≡ 0
  unfolding in_order
  part_within e h = rw (h, ne_eqb kind 8 e)

module _ (buffer : List ℕ) (v : Record) where
  pub value_fields : writable_record v ≡ false → in_order (value_checks buffer v) 0 ≡ 14
  value_fields h = order_fails 14 (writable_record v) (part_checks buffer v) 0 h

  pub value_part : writable_record v ≡ true → in_order (value_checks buffer v) 0 ≡ in_order (part_checks buffer v) 0
  value_part h = order_holds 14 (writable_record v) (part_checks buffer v) 0 h

-- past the fields a value is not refused with 14, so that number tells of them
module _ (buffer : List ℕ) (kind a b flags : ℕ) where
  not_fields : in_order (part_checks buffer (value kind a b flags)) 0 ≡ 14 → ⊥
  unfolding in_order
  not_fields e =
      bool_cases (ranged buffer (value kind a b flags))
      (λ t. bool_cases (not (eqb kind 8) || is_utf8 (part buffer a b)) (λ u. let z = (rw (t, u) at e) in omega arith) (λ u. let z = (rw (t, u) at e) in omega arith))
      (λ t. let z = (rw t at e) in omega arith)

  pub value_unwritable : in_order (value_checks buffer (value kind a b flags)) 0 ≡ 14 → writable_record (value kind a b flags) ≡ false
  value_unwritable e =
      bool_cases (writable_record (value kind a b flags)) (λ t. absurd (not_fields (sym (value_part buffer (value kind a b flags) t) ∙ e))) (λ t. t)

  pub value_writable : (in_order (value_checks buffer (value kind a b flags)) 0 ≡ 14 → ⊥) → writable_record (value kind a b flags) ≡ true
  value_writable ne = bool_cases (writable_record (value kind a b flags)) (λ t. t) (λ t. absurd (ne (value_fields buffer (value kind a b flags) t)))

-- Law: what passes the second check is in range, and a string's text is UTF-8.
pub part_passed : (buffer : List ℕ) (kind a b flags : ℕ) → Passes (part_checks buffer (value kind a b flags))
    → (ranged buffer (value kind a b flags) ≡ true) × (kind ≡ 8 → is_utf8 (part buffer a b) ≡ true)
part_passed buffer kind a b flags p = (p.0, λ k. rw (eq-eqb kind 8 k) at p.1.0)

-- Law: a value that passes has its written form, and a string's text is UTF-8.
pub passed : (buffer : List ℕ) (kind a b flags : ℕ) → Passes (value_checks buffer (value kind a b flags))
    → (writable_record (value kind a b flags) ≡ true) × (ranged buffer (value kind a b flags) ≡ true)
    × (value_answer buffer (value kind a b flags) ≡ written (value_bytes buffer (value kind a b flags))) × (kind ≡ 8 → is_utf8 (part buffer a b) ≡ true)
passed buffer kind a b flags p =
    let two = part_passed buffer kind a b flags p.1 in
    (p.0, two.0, form_whole buffer (value kind a b flags) p.0 two.0, two.1)

-- Law: an accepted value is writable, and where it points, points into the bytes that it was read from.
pub accepted_writable : (s : List ℕ) (v : Record) (used : ℕ) → typed s ≡ done v used → (writable_record v ≡ true) × (ranged s v ≡ true)
accepted_writable s (value kind a b flags) used e =
    let o = typed_accepted s kind a b flags used e in
    (in_record kind a b flags (shape kind) refl o.5 o.3, bool_cases (points (shape kind)) (λ p. rw p (within o.1 (o.4 p).1)) (λ p. rw p))
  where
    within : used ≤ length s → a + b ≤ used → inside s a b ≡ true
    within h l = le-leb (a + b) (length s) (omega arith)
