-- Laws about the written form of strings and values: how long it is, when a range lies inside, the bytes of each kind, and what writing
-- comes to.
use mathlib.Core.Path.{◌≡◌, refl, sym, ap, ◌∙◌}
use mathlib.Core.Bool.{true, false, and-false}
use mathlib.Core.Logic.{⊎_elim}
use mathlib.Core.List.{List, [], ◌∷◌, ◌++◌}
use Prim.Native.Nat.{ℕ, ◌+◌, ◌-◌, ◌*◌, ◌^◌, ◌≤◌, ◌<◌}
use native.Mathlib.Omega.{arith}
use lib.Dec.{leb}
use lib.ListN.{length, take, drop, length-append, length-take, length-drop}
use lib.Seq.{length-take-le}
use borrow.Author.Tests.{le-leb, lt-leb, le-ltb, ne_eqb, leb-true}
use Rattle.answer.specs.Answer.{refused, written}
use Rattle.answer.specs.Order.{in_order}
use Rattle.varint.specs.Number.{number_bytes}
use Rattle.answer.proofs.Cases.{lt_or_le}
use Rattle.varint.proofs.Writing.{length_most}
use Rattle.types.specs.Value.{Shape, nothing, flag, integer, address, text, reserved, shape, Record, value, points, in_fields, in_flags}
use Rattle.types.specs.Form.{part, inside, string_bytes, data_bytes, type_of, value_bytes, writable_record, ranged, value_answer}
use Rattle.types.proofs.Shapes.{shape_reserved, shape_plain, shape_integer, shape_address, shape_text, shape_cases, points_no, Flags, Fields, flags_other, field_at, writable_flags, writable_fields, in_record}

-- ---- lengths

pub string_bytes_lem : (bytes : List ℕ) → string_bytes bytes ≡ number_bytes (length bytes) ++ bytes
unfolding string_bytes
string_bytes_lem bytes = refl

pub string_length : (bytes : List ℕ) → length (string_bytes bytes) ≡ length (number_bytes (length bytes)) + length bytes
string_length bytes = ap length (string_bytes_lem bytes) ∙ simp length-append

pub part_length : (buffer : List ℕ) (start len : ℕ) → start + len ≤ length buffer → length (part buffer start len) ≡ len
part_length buffer start len h = length-take-le len (drop start buffer) (simp length-drop (omega arith))

-- a part has at most as many bytes as its length says, and as the buffer has
pub part_at_most : (buffer : List ℕ) (start len : ℕ) → length (part buffer start len) ≤ len
part_at_most buffer start len = simp length-take (omega arith)

pub part_within_buffer : (buffer : List ℕ) (start len : ℕ) → length (part buffer start len) ≤ length buffer
part_within_buffer buffer start len = simp (length-take, length-drop) (omega arith)

-- a part that is lent, `&buffer[start..start + len]`
pub part_lent : (buffer : List ℕ) (start len : ℕ) → take (start + len - start) (drop start buffer) ≡ part buffer start len
part_lent buffer start len = ap (λ (n : ℕ). take n (drop start buffer)) same
  where
    same : start + len - start ≡ len
    same = omega arith

pub lent_length : (buffer : List ℕ) (start len : ℕ) → start + len ≤ length buffer → length (take (start + len - start) (drop start buffer)) ≡ len
lent_length buffer start len h = ap length (part_lent buffer start len) ∙ part_length buffer start len h

-- a string that lies inside is as long as its length says
pub string_long : (buffer : List ℕ) (start len : ℕ) → start + len ≤ length buffer → length (string_bytes (part buffer start len)) ≡ length (number_bytes len) + len
string_long buffer start len h =
    string_length (part buffer start len) ∙ ap (λ (n : ℕ). length (number_bytes n) + n) (part_length buffer start len h)

pub value_bytes_lem : (buffer : List ℕ) (kind a b flags : ℕ)
    → value_bytes buffer (value kind a b flags) ≡ data_bytes (shape kind) (type_of kind flags) a (part buffer a b)
unfolding value_bytes
value_bytes_lem buffer kind a b flags = refl

-- each line's length, in the code's terms
module _ (k type a : ℕ) (bytes : List ℕ) where
  formed_at : (sh : Shape) → shape k ≡ sh → length (data_bytes sh type a bytes) ≡ length (data_bytes (shape k) type a bytes)
  formed_at sh is = ap (λ (x : Shape). length (data_bytes x type a bytes)) (sym is)

  pub length_plain : k < 2 → 1 ≡ length (data_bytes (shape k) type a bytes)
  length_plain h = shape_plain k h (λ e is. formed_at nothing is) (λ e is. formed_at flag is)

  pub length_integer : 2 ≤ k → k < 6 → 1 + length (number_bytes a) ≡ length (data_bytes (shape k) type a bytes)
  length_integer l h = shape_integer k l h (λ w is. omega (arith, formed_at (integer w) is))

  pub length_address : 6 ≤ k → k < 8 → 1 + length bytes ≡ length (data_bytes (shape k) type a bytes)
  length_address l h = shape_address k l h (λ n is. omega (arith, formed_at (address n) is))

  pub length_text : 8 ≤ k → k < 10 → 1 + length (number_bytes (length bytes)) + length bytes ≡ length (data_bytes (shape k) type a bytes)
  length_text l h = let e = formed_at text (shape_text k l h) in omega (arith, string_length bytes)

-- a part that is compared with what the others leave of the room
pub rest_fits : (n beside whole room : ℕ) → whole ≡ beside + n → beside ≤ room → leb n (room - beside) ≡ leb whole room
rest_fits n beside whole room e h =
    ⊎_elim (λ l. lt-leb n (room - beside) l ∙ sym (lt-leb whole room (omega arith))) (λ l. le-leb n (room - beside) l ∙ sym (le-leb whole room (omega arith)))
    (lt_or_le (room - beside) n)

-- ---- ranges

-- the test of a range without a sum that could wrap
pub inside_not : (buffer : List ℕ) (start len : ℕ) → length buffer < start → inside buffer start len ≡ false
inside_not buffer start len h = lt-leb (start + len) (length buffer) (omega arith)

pub inside_rest : (buffer : List ℕ) (start len : ℕ) → start ≤ length buffer → leb len (length buffer - start) ≡ inside buffer start len
inside_rest buffer start len h = rest_fits len start (start + len) (length buffer) refl h

-- a value that points and is in range points inside
pub ranged_inside : (buffer : List ℕ) (kind a b flags : ℕ) → points (shape kind) ≡ true → ranged buffer (value kind a b flags) ≡ true → a + b ≤ length buffer
ranged_inside buffer kind a b flags p h = leb-true (a + b) (length buffer) (rw p at h)

-- a writable value in range has as many bytes as it says
pub part_whole : (buffer : List ℕ) (kind a b flags : ℕ) → writable_record (value kind a b flags) ≡ true → ranged buffer (value kind a b flags) ≡ true → length (part buffer a b) ≡ b
part_whole buffer kind a b flags h r =
    shape_cases kind
    (λ e is. unpointed (writable_fields kind a b flags h nothing is).1)
    (λ e is. unpointed (writable_fields kind a b flags h flag is).1)
    (λ w l g is. unpointed (writable_fields kind a b flags h (integer w) is).1)
    (λ n l g is. part_length buffer a b (ranged_inside buffer kind a b flags (ap points is) r))
    (λ l g is. part_length buffer a b (ranged_inside buffer kind a b flags (ap points is) r))
    (λ l is. absurd (writable_fields kind a b flags h reserved is))
  where
    unpointed : b ≡ 0 → length (part buffer a b) ≡ b
    unpointed z = rw z

-- and no more than the buffer
pub part_small : (buffer : List ℕ) (kind a b flags : ℕ) → writable_record (value kind a b flags) ≡ true → ranged buffer (value kind a b flags) ≡ true → length buffer < 2 ^ 63 → b < 2 ^ 63
part_small buffer kind a b flags h r l = omega (arith, simp (length-take, length-drop) at (part_whole buffer kind a b flags h r))

-- ---- the bytes, by the kind's number

module _ (buffer : List ℕ) (k a b flags : ℕ) where
  pub bytes_at : (sh : Shape) → shape k ≡ sh → value_bytes buffer (value k a b flags) ≡ data_bytes sh (type_of k flags) a (part buffer a b)
  bytes_at sh is = value_bytes_lem buffer k a b flags ∙ ap (λ (x : Shape). data_bytes x (type_of k flags) a (part buffer a b)) is

  -- null, whose unused number is 0, and bool, whose flags are
  pub plain_bytes : k < 2 → writable_record (value k a b flags) ≡ true
      → (a < 2) × (flags < 16) × (type_of k flags + 16 * a < 256) × (value_bytes buffer (value k a b flags) ≡ (type_of k flags + 16 * a) ∷ [])
  plain_bytes h f =
      shape_plain k h
      (λ e is. let z = writable_fields k a b flags f nothing is in
      let y = writable_flags k a b flags f nothing is in
      (omega arith, y, omega arith, bytes_at nothing is ∙ ap (λ (x : ℕ). x ∷ []) (omega arith)))
      (λ e is. let z = writable_fields k a b flags f flag is in
      let y = writable_flags k a b flags f flag is in
      (z.0, omega arith, omega arith, bytes_at flag is))

  -- a written value has its type byte
  pub value_some : writable_record (value k a b flags) ≡ true → 1 ≤ length (value_bytes buffer (value k a b flags))
  value_some f =
      shape_cases k
      (λ e is. rw (bytes_at nothing is) (omega arith))
      (λ e is. rw (bytes_at flag is) (omega arith))
      (λ w l g is. rw (bytes_at (integer w) is) (omega arith))
      (λ n l g is. rw (bytes_at (address n) is) (omega arith))
      (λ l g is. rw (bytes_at text is) (omega arith))
      (λ l is. absurd (writable_fields k a b flags f reserved is))

-- Law: a value's written form has at most eleven bytes beside those that it points at. By the table's lines: a type byte, and a number of
-- at most ten.
pub value_bound : (buffer : List ℕ) (k a b flags : ℕ) → length (value_bytes buffer (value k a b flags)) ≤ 11 + length (part buffer a b)
value_bound buffer k a b flags =
    shape_cases k
    (λ e is. rw (bytes_at buffer k a b flags _ is) (omega arith))
    (λ e is. rw (bytes_at buffer k a b flags _ is) (omega arith))
    (λ w l g is. rw (bytes_at buffer k a b flags _ is) (omega (arith, length_most a)))
    (λ n l g is. rw (bytes_at buffer k a b flags _ is) (omega arith))
    (λ l g is. rw (bytes_at buffer k a b flags _ is) (omega (arith, string_length (part buffer a b), length_most (length (part buffer a b)))))
    (λ l is. rw (bytes_at buffer k a b flags _ is) (omega arith))

module _ (buffer : List ℕ) (v : Record) where
  pub form_unwritable : writable_record v ≡ false → value_answer buffer v ≡ refused 14 0
  unfolding value_answer in_order
  form_unwritable h = rw h

  pub form_outside : writable_record v ≡ true → ranged buffer v ≡ false → value_answer buffer v ≡ refused 16 0
  unfolding value_answer in_order
  form_outside h r = rw (h, r)

  pub form_whole : writable_record v ≡ true → ranged buffer v ≡ true → value_answer buffer v ≡ written (value_bytes buffer v)
  unfolding value_answer in_order
  form_whole h r = rw (h, r)

-- ---- what writing comes to, by the kind's number

module _ (buffer : List ℕ) (k a b flags : ℕ) where
  unpointed : k < 6 → ranged buffer (value k a b flags) ≡ true
  unpointed h = rw (points_no k h)

  pub form_plain : k < 2 → writable_record (value k a b flags) ≡ true → value_answer buffer (value k a b flags) ≡ written ((type_of k flags + 16 * a) ∷ [])
  form_plain h f = form_whole buffer (value k a b flags) f (unpointed (omega arith)) ∙ ap (λ (s : List ℕ). written s) (plain_bytes buffer k a b flags h f).3

  pub form_integer : 2 ≤ k → k < 6 → writable_record (value k a b flags) ≡ true → value_answer buffer (value k a b flags) ≡ written (type_of k flags ∷ number_bytes a)
  form_integer l h f =
      form_whole buffer (value k a b flags) f (unpointed h)
      ∙ ap (λ (s : List ℕ). written s) (shape_integer k l h (λ w is. bytes_at buffer k a b flags (integer w) is))

  -- a value that points has its bytes where they lie inside, as they are lent, and else none
  module _ (sh : Shape) (is : shape k ≡ sh) (p : points sh ≡ true) (g : Flags sh flags) (f : Fields sh a b) where
    fields : writable_record (value k a b flags) ≡ true
    fields = in_record k a b flags sh is g f

    range : ranged buffer (value k a b flags) ≡ inside buffer a b
    range = rw (ap points is ∙ p)

    pointed : inside buffer a b ≡ true → value_answer buffer (value k a b flags) ≡ written (data_bytes sh (type_of k flags) a (take (a + b - a) (drop a buffer)))
    pointed i =
        form_whole buffer (value k a b flags) fields (range ∙ i)
        ∙ ap (λ (s : List ℕ). written s) (bytes_at buffer k a b flags sh is)
        ∙ ap (λ (s : List ℕ). written (data_bytes sh (type_of k flags) a s)) (sym (part_lent buffer a b))

    beyond : inside buffer a b ≡ false → value_answer buffer (value k a b flags) ≡ refused 16 0
    beyond i = form_outside buffer (value k a b flags) fields (range ∙ i)

  -- numbers outside their fields, and flags of more than four bits
  unfit : in_fields (shape k) a b ≡ false → value_answer buffer (value k a b flags) ≡ refused 14 0
  unfit h = form_unwritable buffer (value k a b flags) (rw h (and-false (in_flags (shape k) flags)))

  pub form_flags : 6 ≤ k → 16 ≤ flags → value_answer buffer (value k a b flags) ≡ refused 14 0
  form_flags l h = form_unwritable buffer (value k a b flags) (rw (flags_other k flags (λ e. omega arith) ∙ le-ltb flags 16 h))

  -- an address, by the length of its kind
  module _ (n : ℕ) (is : shape k ≡ address n) where
    pub form_length : (b ≡ n → ⊥) → value_answer buffer (value k a b flags) ≡ refused 14 0
    form_length other = unfit (field_at k a b (address n) is ∙ ne_eqb b n other)

    module _ (g : flags < 16) where
      pub form_address : b ≡ n → inside buffer a n ≡ true → value_answer buffer (value k a b flags) ≡ written (type_of k flags ∷ take (a + n - a) (drop a buffer))
      form_address e i =
          pointed (address n) is refl g e (rw e i) ∙ ap (λ (m : ℕ). written (type_of k flags ∷ take (a + m - a) (drop a buffer))) e

      pub form_address_outside : b ≡ n → inside buffer a n ≡ false → value_answer buffer (value k a b flags) ≡ refused 16 0
      form_address_outside e i = beyond (address n) is refl g e (rw e i)

  -- a string or a binary
  module _ (low : 8 ≤ k) (high : k < 10) (f : b < 2 ^ 64) (g : flags < 16) where
    pub form_text : inside buffer a b ≡ true → value_answer buffer (value k a b flags) ≡ written (type_of k flags ∷ string_bytes (take (a + b - a) (drop a buffer)))
    form_text i = pointed text (shape_text k low high) refl g f i

    pub form_text_outside : inside buffer a b ≡ false → value_answer buffer (value k a b flags) ≡ refused 16 0
    form_text_outside i = beyond text (shape_text k low high) refl g f i

  pub form_reserved : 10 ≤ k → value_answer buffer (value k a b flags) ≡ refused 14 0
  form_reserved h = unfit (field_at k a b reserved (shape_reserved k h))
