-- Laws about the table of kinds: each kind's line, the 32 bits of an integer, the test of its two numbers and that of its flags.
use mathlib.Core.Path.{◌≡◌, refl, sym, ap, subst, ◌∙◌}
use mathlib.Core.Bool.{Bool, true, false, ◌&&◌, and-false, true≢false}
use mathlib.Core.Logic.{⊎_elim}
use Prim.Native.Nat.{ℕ, zero, suc, ◌+◌, ◌-◌, ◌/◌, ◌%◌, ◌^◌, ◌≤◌, ◌<◌}
use native.Mathlib.Omega.{arith}
use lib.Dec.{ltb, eqb}
use lib.ListN.{get_or-eq_default}
use borrow.Author.Tests.{lt-ltb, le-ltb, eq-eqb, ne_eqb, eqb-true, ltb-true}
use Rattle.answer.proofs.Cases.{lt_or_le, both_true}
use Rattle.types.specs.Value.{Shape, nothing, flag, integer, address, text, reserved, Width, signed32, unsigned32, whole64, shapes, shape, value, points, sign_extended, in_width, in_fields, in_flags}
use Rattle.types.specs.Form.{writable_record}
use Rattle.types.specs.Inner.{numbered}

-- ---- the table

-- each kind's line
pub shape_is : (shape 0 ≡ nothing) × (shape 1 ≡ flag) × (shape 2 ≡ integer signed32) × (shape 3 ≡ integer unsigned32) × (shape 4 ≡ integer whole64)
    × (shape 5 ≡ integer whole64) × (shape 6 ≡ address 4) × (shape 7 ≡ address 16) × (shape 8 ≡ text) × (shape 9 ≡ text)
unfolding shape
shape_is = (refl, refl, refl, refl, refl, refl, refl, refl, refl, refl)

-- kinds from 10 on have none
pub shape_reserved : (k : ℕ) → 10 ≤ k → shape k ≡ reserved
unfolding shape
shape_reserved k h = get_or-eq_default shapes reserved h

-- so a kind that has one is at most 9
pub shape_listed : (k : ℕ) → (shape k ≡ reserved → ⊥) → k ≤ 9
shape_listed k h = ⊎_elim (λ l. omega arith) (λ l. absurd (h (shape_reserved k l))) (lt_or_le k 10)

-- a kind that has a number has its line
pub row : {k : ℕ} {sh : Shape} (n : ℕ) → k ≡ n → shape n ≡ sh → shape k ≡ sh
row n e is = ap shape e ∙ is

-- 0 is null and 1 a bool, 2 to 5 are integers, 6 and 7 addresses, 8 and 9 have a length number
pub shape_plain : {G : Type 0} (k : ℕ) → k < 2 → (k ≡ 0 → shape k ≡ nothing → G) → (k ≡ 1 → shape k ≡ flag → G) → G
shape_plain k h f g =
    ⊎_elim (λ l. f (omega arith) (row 0 (omega arith) shape_is.0)) (λ l. g (omega arith) (row 1 (omega arith) shape_is.1)) (lt_or_le k 1)

pub shape_integer : {G : Type 0} (k : ℕ) → 2 ≤ k → k < 6 → ((w : Width) → shape k ≡ integer w → G) → G
shape_integer k h l f =
    ⊎_elim (λ m. f signed32 (row 2 (omega arith) shape_is.2))
    (λ m. ⊎_elim (λ o. f unsigned32 (row 3 (omega arith) shape_is.3))
    (λ o. ⊎_elim (λ p. f whole64 (row 4 (omega arith) shape_is.4)) (λ p. f whole64 (row 5 (omega arith) shape_is.5)) (lt_or_le k 5))
    (lt_or_le k 4))
    (lt_or_le k 3)

pub shape_address : {G : Type 0} (k : ℕ) → 6 ≤ k → k < 8 → ((n : ℕ) → shape k ≡ address n → G) → G
shape_address k l h f = ⊎_elim (λ m. f 4 (row 6 (omega arith) shape_is.6)) (λ m. f 16 (row 7 (omega arith) shape_is.7)) (lt_or_le k 7)

pub shape_text : (k : ℕ) → 8 ≤ k → k < 10 → shape k ≡ text
shape_text k h l = ⊎_elim (λ m. row 8 (omega arith) shape_is.8) (λ m. row 9 (omega arith) shape_is.9) (lt_or_le k 9)

-- a law about any kind goes by these
pub shape_cases : {G : Type 0} (k : ℕ)
    → (k ≡ 0 → shape k ≡ nothing → G)
    → (k ≡ 1 → shape k ≡ flag → G)
    → ((w : Width) → 2 ≤ k → k < 6 → shape k ≡ integer w → G)
    → ((n : ℕ) → 6 ≤ k → k < 8 → shape k ≡ address n → G)
    → (8 ≤ k → k < 10 → shape k ≡ text → G)
    → (10 ≤ k → shape k ≡ reserved → G)
    → G
shape_cases k null bool int addr txt none =
    ⊎_elim (λ a. shape_plain k a null bool)
    (λ a. ⊎_elim (λ b. shape_integer k a b (λ w is. int w a b is))
    (λ b. ⊎_elim (λ c. shape_address k b c (λ n is. addr n b c is))
    (λ c. ⊎_elim (λ d. txt c d (shape_text k c d)) (λ d. none d (shape_reserved k d)) (lt_or_le k 10))
    (lt_or_le k 8))
    (lt_or_le k 6))
    (lt_or_le k 2)

-- The kinds whose DATA begins with a number, as bits of one number: each of the sixteen is looked at.
EachBelow : (ℕ → Type 0) → ℕ → Type 0
EachBelow P zero = Unit {0}
EachBelow P (suc n) = P n × EachBelow P n

one_of : (P : ℕ → Type 0) (n : ℕ) → EachBelow P n → (k : ℕ) → k < n → P k
unfolding EachBelow
one_of P zero all k h = absurd (omega arith)
one_of P (suc n) all k h = ⊎_elim (λ l. one_of P n all.1 k l) (λ l. subst P {x = n} {y = k} (omega arith) all.0) (lt_or_le k n)

pub numbered_bit : (k : ℕ) → k < 16 → eqb (828 / 2 ^ k % 2) 1 ≡ numbered (shape k)
unfolding shape EachBelow
numbered_bit k h =
    one_of (λ (j : ℕ). eqb (828 / 2 ^ j % 2) 1 ≡ numbered (shape j)) 16
    (refl, (refl, (refl, (refl, (refl, (refl, (refl, (refl, (refl, (refl, (refl, (refl, (refl, (refl, (refl, (refl, tt)))))))))))))))) k h

-- the others are null and a bool, then the addresses, then those that have no line
pub unnumbered_bool : (k : ℕ) → numbered (shape k) ≡ false → (k ≡ 0 → ⊥) → k < 6 → shape k ≡ flag
unnumbered_bool k none n0 h =
    shape_cases k (λ e is. absurd (n0 e)) (λ e is. is) (λ w l g is. absurd (true≢false (sym (ap numbered is) ∙ none)))
    (λ n l g is. absurd (omega arith)) (λ l g is. absurd (omega arith)) (λ l is. absurd (omega arith))

pub unnumbered_left : (k : ℕ) → numbered (shape k) ≡ false → 8 ≤ k → shape k ≡ reserved
unnumbered_left k none h =
    shape_cases k (λ e is. absurd (omega arith)) (λ e is. absurd (omega arith)) (λ w l g is. absurd (omega arith))
    (λ n l g is. absurd (omega arith)) (λ l g is. absurd (true≢false (sym (ap numbered is) ∙ none))) (λ l is. is)

-- of the kinds with a number the integers are below 6
pub numbered_integer : (k : ℕ) → numbered (shape k) ≡ true → k < 6 → 2 ≤ k
numbered_integer k some h =
    shape_cases k (λ e is. absurd (true≢false (sym some ∙ ap numbered is))) (λ e is. absurd (true≢false (sym some ∙ ap numbered is))) (λ w l g is. l)
    (λ n l g is. absurd (omega arith)) (λ l g is. absurd (omega arith)) (λ l is. absurd (omega arith))

pub numbered_text : (k : ℕ) → numbered (shape k) ≡ true → 6 ≤ k → shape k ≡ text
numbered_text k some h =
    shape_cases k (λ e is. absurd (omega arith)) (λ e is. absurd (omega arith)) (λ w l g is. absurd (omega arith))
    (λ n l g is. absurd (true≢false (sym some ∙ ap numbered is))) (λ l g is. is) (λ l is. absurd (true≢false (sym some ∙ ap numbered is)))

-- whether a kind points
pub points_no : (k : ℕ) → k < 6 → points (shape k) ≡ false
points_no k h =
    shape_cases k (λ e is. ap points is) (λ e is. ap points is) (λ w l g is. ap points is)
    (λ n l g is. absurd (omega arith)) (λ l g is. absurd (omega arith)) (λ l is. absurd (omega arith))

pub points_yes : (k : ℕ) → 6 ≤ k → k < 10 → points (shape k) ≡ true
points_yes k l h =
    shape_cases k (λ e is. absurd (omega arith)) (λ e is. absurd (omega arith)) (λ w m g is. absurd (omega arith))
    (λ n m g is. ap points is) (λ m g is. ap points is) (λ m is. absurd (omega arith))

pub points_reserved : (k : ℕ) → 10 ≤ k → points (shape k) ≡ false
points_reserved k h = ap points (shape_reserved k h)

-- ---- 32 bits

module _ (n : ℕ) where
  pub signed_plus : n % 2 ^ 32 < 2 ^ 31 → sign_extended n ≡ n % 2 ^ 32
  unfolding sign_extended
  signed_plus h = simp (lt-ltb (n % 2 ^ 32) (2 ^ 31) h)

  pub signed_minus : 2 ^ 31 ≤ n % 2 ^ 32 → sign_extended n ≡ n % 2 ^ 32 + (2 ^ 64 - 2 ^ 32)
  unfolding sign_extended
  signed_minus h = simp (le-ltb (n % 2 ^ 32) (2 ^ 31) h)

pub signed_below : (n : ℕ) → sign_extended n < 2 ^ 64
signed_below n = ⊎_elim (λ h. omega (arith, signed_plus n h)) (λ h. omega (arith, signed_minus n h)) (lt_or_le (n % 2 ^ 32) (2 ^ 31))

-- a number that was extended is its own extension
pub signed_again : (n : ℕ) → sign_extended n ≡ sign_extended (sign_extended n)
signed_again n =
    ⊎_elim
    (λ h. let e = signed_plus n h in omega (arith, signed_plus (sign_extended n) (omega arith)))
    (λ h. let e = signed_minus n h in omega (arith, signed_minus (sign_extended n) (omega arith)))
    (lt_or_le (n % 2 ^ 32) (2 ^ 31))

-- ---- fields

abbrev pub InWidth : Width → ℕ → Type 0
InWidth signed32 a = a ≡ sign_extended a
InWidth unsigned32 a = a < 2 ^ 32
InWidth whole64 a = a < 2 ^ 64

-- what `in_fields` tests
abbrev pub Fields : Shape → ℕ → ℕ → Type 0
Fields nothing a b = (a ≡ 0) × (b ≡ 0)
Fields flag a b = (a < 2) × (b ≡ 0)
Fields (integer w) a b = InWidth w a × (b ≡ 0)
Fields (address n) a b = b ≡ n
Fields text a b = b < 2 ^ 64
Fields reserved a b = ⊥

pub in_width_lem : (w : Width) (a : ℕ) → InWidth w a → in_width w a ≡ true
in_width_lem signed32 a h = eq-eqb a (sign_extended a) h
in_width_lem unsigned32 a h = lt-ltb a (2 ^ 32) h
in_width_lem whole64 a h = lt-ltb a (2 ^ 64) h

pub width_in : (w : Width) (a : ℕ) → in_width w a ≡ true → InWidth w a
width_in signed32 a h = eqb-true a (sign_extended a) h
width_in unsigned32 a h = ltb-true a (2 ^ 32) h
width_in whole64 a h = ltb-true a (2 ^ 64) h

pub in_fields_lem : (sh : Shape) (a b : ℕ) → Fields sh a b → in_fields sh a b ≡ true
in_fields_lem nothing a b h = simp (eq-eqb a 0 h.0, eq-eqb b 0 h.1)
in_fields_lem flag a b h = simp (lt-ltb a 2 h.0, eq-eqb b 0 h.1)
in_fields_lem (integer w) a b h = simp (in_width_lem w a h.0, eq-eqb b 0 h.1)
in_fields_lem (address n) a b h = eq-eqb b n h
in_fields_lem text a b h = lt-ltb b (2 ^ 64) h
in_fields_lem reserved a b h = absurd h

pub fields_in : (sh : Shape) (a b : ℕ) → in_fields sh a b ≡ true → Fields sh a b
fields_in nothing a b h = let t = both_true (eqb a 0) (eqb b 0) h in (eqb-true a 0 t.0, eqb-true b 0 t.1)
fields_in flag a b h = let t = both_true (ltb a 2) (eqb b 0) h in (ltb-true a 2 t.0, eqb-true b 0 t.1)
fields_in (integer w) a b h = let t = both_true (in_width w a) (eqb b 0) h in (width_in w a t.0, eqb-true b 0 t.1)
fields_in (address n) a b h = eqb-true b n h
fields_in text a b h = ltb-true b (2 ^ 64) h
fields_in reserved a b h = true≢false (sym h)

-- by the kind's number
module _ (k a b : ℕ) where
  pub field_at : (sh : Shape) → shape k ≡ sh → in_fields (shape k) a b ≡ in_fields sh a b
  field_at sh is = ap (λ (x : Shape). in_fields x a b) is

  pub unused : k < 6 → (b ≡ 0 → ⊥) → in_fields (shape k) a b ≡ false
  unused h no0 =
      shape_cases k
      (λ e is. field_at nothing is ∙ rw (ne_eqb b 0 no0) (and-false (eqb a 0)))
      (λ e is. field_at flag is ∙ rw (ne_eqb b 0 no0) (and-false (ltb a 2)))
      (λ w l g is. field_at (integer w) is ∙ rw (ne_eqb b 0 no0) (and-false (in_width w a)))
      (λ n l g is. absurd (omega arith))
      (λ l g is. absurd (omega arith))
      (λ l is. absurd (omega arith))

  pub whole_field : 4 ≤ k → k < 6 → b ≡ 0 → a < 2 ^ 64 → in_fields (shape k) a b ≡ true
  whole_field l h z f = field_at (integer whole64) is ∙ in_fields_lem (integer whole64) a b (f, z)
    where
      is : shape k ≡ integer whole64
      is = ⊎_elim (λ m. row 4 (omega arith) shape_is.4) (λ m. row 5 (omega arith) shape_is.5) (lt_or_le k 5)

  pub address_field : (j n : ℕ) → k ≡ j → shape j ≡ address n → in_fields (shape k) a b ≡ eqb b n
  address_field j n e is = field_at (address n) (row j e is)

  pub text_field : 8 ≤ k → b < 2 ^ 64 → in_fields (shape k) a b ≡ ltb k 10
  text_field l f =
      ⊎_elim
      (λ h. field_at text (shape_text k l h) ∙ lt-ltb b (2 ^ 64) f ∙ sym (lt-ltb k 10 h))
      (λ h. field_at reserved (shape_reserved k h) ∙ sym (le-ltb k 10 h))
      (lt_or_le k 10)

-- ---- flags

-- what `in_flags` tests
abbrev pub Flags : Shape → ℕ → Type 0
Flags nothing flags = flags < 16
Flags flag flags = flags ≡ 0
Flags (integer w) flags = flags < 16
Flags (address n) flags = flags < 16
Flags text flags = flags < 16
Flags reserved flags = flags < 16

pub in_flags_lem : (sh : Shape) (flags : ℕ) → Flags sh flags → in_flags sh flags ≡ true
in_flags_lem nothing flags h = lt-ltb flags 16 h
in_flags_lem flag flags h = eq-eqb flags 0 h
in_flags_lem (integer w) flags h = lt-ltb flags 16 h
in_flags_lem (address n) flags h = lt-ltb flags 16 h
in_flags_lem text flags h = lt-ltb flags 16 h
in_flags_lem reserved flags h = lt-ltb flags 16 h

pub flags_in : (sh : Shape) (flags : ℕ) → in_flags sh flags ≡ true → Flags sh flags
flags_in nothing flags h = ltb-true flags 16 h
flags_in flag flags h = eqb-true flags 0 h
flags_in (integer w) flags h = ltb-true flags 16 h
flags_in (address n) flags h = ltb-true flags 16 h
flags_in text flags h = ltb-true flags 16 h
flags_in reserved flags h = ltb-true flags 16 h

-- by the kind's number
module _ (k flags : ℕ) where
  pub flags_at : (sh : Shape) → shape k ≡ sh → in_flags (shape k) flags ≡ in_flags sh flags
  flags_at sh is = ap (λ (x : Shape). in_flags x flags) is

  pub flags_bool : k ≡ 1 → in_flags (shape k) flags ≡ eqb flags 0
  flags_bool e = flags_at flag (row 1 e shape_is.1)

  pub flags_other : (k ≡ 1 → ⊥) → in_flags (shape k) flags ≡ ltb flags 16
  flags_other no1 =
      shape_cases k (λ e is. flags_at nothing is) (λ e is. absurd (no1 e)) (λ w l g is. flags_at (integer w) is)
      (λ n l g is. flags_at (address n) is) (λ l g is. flags_at text is) (λ l is. flags_at reserved is)

  pub flags_over : 16 ≤ flags → in_flags (shape k) flags ≡ false
  flags_over h =
      ⊎_elim
      (λ l. flags_other (λ e. omega arith) ∙ le-ltb flags 16 h)
      (λ l. ⊎_elim (λ m. flags_bool (omega arith) ∙ ne_eqb flags 0 (λ z. omega arith)) (λ m. flags_other (λ e. omega arith) ∙ le-ltb flags 16 h) (lt_or_le k 2))
      (lt_or_le k 1)

-- ---- a writable record, by its kind's line

-- four bits of flags are right for every kind but a boolean
pub fields_alone : (k a b flags : ℕ) → (k ≡ 1 → ⊥) → flags < 16 → writable_record (value k a b flags) ≡ in_fields (shape k) a b
fields_alone k a b flags no1 h = ap (λ (x : Bool). x && in_fields (shape k) a b) (flags_other k flags no1 ∙ lt-ltb flags 16 h)

module _ (k a b flags : ℕ) (h : writable_record (value k a b flags) ≡ true) where
  both : (in_flags (shape k) flags ≡ true) × (in_fields (shape k) a b ≡ true)
  both = both_true (in_flags (shape k) flags) (in_fields (shape k) a b) h

  pub writable_flags : (sh : Shape) → shape k ≡ sh → Flags sh flags
  writable_flags sh is = flags_in sh flags (sym (flags_at k flags sh is) ∙ both.0)

  pub writable_fields : (sh : Shape) → shape k ≡ sh → Fields sh a b
  writable_fields sh is = fields_in sh a b (sym (field_at k a b sh is) ∙ both.1)

  pub four_bits : flags < 16
  four_bits =
      shape_cases k
      (λ e is. writable_flags nothing is)
      (λ e is. omega (arith, writable_flags flag is))
      (λ w l g is. writable_flags (integer w) is)
      (λ n l g is. writable_flags (address n) is)
      (λ l g is. writable_flags text is)
      (λ l is. writable_flags reserved is)

  -- its kind is at most 9
  pub writable_kind : k ≤ 9
  writable_kind = shape_listed k (λ r. writable_fields reserved r)

-- what lies in its fields is writable
pub in_record : (k a b flags : ℕ) (sh : Shape) → shape k ≡ sh → Flags sh flags → Fields sh a b → writable_record (value k a b flags) ≡ true
in_record k a b flags sh is f h = rw (is, in_flags_lem sh flags f) (in_fields_lem sh a b h)
