-- Laws about texts: no two have the same digits, and each ends where a space or a line's end stands behind it.
use mathlib.Core.Path.{◌≡◌, refl, sym, ap, ap₂, ◌∙◌}
use mathlib.Core.Bool.{true, false, ◌||◌}
use mathlib.Core.Logic.{⊎_elim}
use mathlib.Core.List.{List, [], ◌∷◌, ◌++◌, head-eq_of_cons-eq, tail-eq_of_cons-eq}
use Prim.Native.Nat.{ℕ, zero, suc, ◌+◌, ◌-◌, ◌/◌, ◌%◌, ◌^◌, ◌≤◌, ◌<◌}
use native.Mathlib.Omega.{arith}
use lib.Dec.{eqb}
use lib.ListN.{length, length-append}
use borrow.Author.Tests.{lt-ltb, le-ltb, ne_eqb}
use Rattle.answer.specs.Table.{joined}
use Rattle.answer.proofs.Cases.{lt_or_le, bool_cases}
use Rattle.answer.proofs.Records.{joined_none, joined_on}
use Rattle.types.specs.Value.{Shape, nothing, integer, reserved, Width, signed32, unsigned32, whole64, shape, Record, value, points}
use Rattle.types.specs.Form.{part, writable_record}
use Rattle.types.proofs.Roundtrip.{Meaning, means, meaning}
use Rattle.types.proofs.Shapes.{shape_cases, points_yes, signed_below, InWidth, Fields, writable_fields}
use Rattle.listing.specs.Digits.{dash, glyph, decimal, signed, hex_pair, shown}
use Rattle.listing.specs.Lines.{value_text}
use Rattle.listing.proofs.Decimal.{decimal_last, decimal_on, length_last, length_on, decimal_some}
use Rattle.listing.proofs.Text.{signed_plus, signed_minus, hex_length}
use Rattle.listing.proofs.Pieces.{text_number, text_bytes}
use Rattle.answer.proofs.Each.{Each, each_more}

-- ---- digits

glyph_low : (d : ℕ) → d < 10 → glyph d ≡ 48 + d
glyph_low d h = simp (lt-ltb d 10 h)

glyph_high : (d : ℕ) → 10 ≤ d → glyph d ≡ 87 + d
glyph_high d h = simp (le-ltb d 10 h)

glyph_apart : (a b : ℕ) → glyph a ≡ glyph b → a ≡ b
glyph_apart a b e =
    ⊎_elim
    (λ h. ⊎_elim (λ l. omega (arith, glyph_low a h, glyph_low b l)) (λ l. absurd (omega (arith, glyph_low a h, glyph_high b l))) (lt_or_le b 10))
    (λ h. ⊎_elim (λ l. absurd (omega (arith, glyph_high a h, glyph_low b l))) (λ l. omega (arith, glyph_high a h, glyph_high b l)) (lt_or_le b 10))
    (lt_or_le a 10)

glyph_digit : (d : ℕ) → 48 ≤ glyph d
glyph_digit d = ⊎_elim (λ h. omega (arith, glyph_low d h)) (λ h. omega (arith, glyph_high d h)) (lt_or_le d 10)

-- two lists that end in one element each
snoc_apart : (s t : List ℕ) (x y : ℕ) → s ++ (x ∷ []) ≡ t ++ (y ∷ []) → (s ≡ t) × (x ≡ y)
snoc_apart [] [] x y e = (refl, head-eq_of_cons-eq e)
snoc_apart [] (c ∷ t) x y e = absurd (omega (arith, ap length (tail-eq_of_cons-eq e), length-append t (y ∷ [])))
snoc_apart (b ∷ s) [] x y e = absurd (omega (arith, ap length (tail-eq_of_cons-eq e), length-append s (x ∷ [])))
snoc_apart (b ∷ s) (c ∷ t) x y e =
    let o = snoc_apart s t x y (tail-eq_of_cons-eq e) in
    (ap₂ ◌∷◌ (head-eq_of_cons-eq e) o.0, o.1)

-- ---- numbers

-- Law: no two numbers have the same digits.
decimal_up_to : (k m n : ℕ) → m < k → decimal m ≡ decimal n → m ≡ n
decimal_up_to zero m n h e = absurd (omega arith)
decimal_up_to (suc k) m n h e =
    ⊎_elim
    (λ a.
    ⊎_elim
    (λ b. glyph_apart m n (head-eq_of_cons-eq (sym (decimal_last m a) ∙ e ∙ decimal_last n b)))
    (λ b. absurd (omega (arith, ap length e, length_last m a, length_on n b, decimal_some (n / 10))))
    (lt_or_le n 10))
    (λ a.
    ⊎_elim
    (λ b. absurd (omega (arith, ap length e, length_last n b, length_on m a, decimal_some (m / 10))))
    (λ b.
    let o = snoc_apart (decimal (m / 10)) (decimal (n / 10)) (glyph (m % 10)) (glyph (n % 10)) (sym (decimal_on m a) ∙ e ∙ decimal_on n b) in
    let tens = decimal_up_to k (m / 10) (n / 10) (omega arith) o.0 in
    let ones = glyph_apart (m % 10) (n % 10) o.1 in
    omega arith)
    (lt_or_le n 10))
    (lt_or_le m 10)

pub decimal_apart : (m n : ℕ) → decimal m ≡ decimal n → m ≡ n
decimal_apart m n e = decimal_up_to (suc m) m n (omega arith) e

digit_up_to : (k n : ℕ) → n < k → Each (λ (b : ℕ). 48 ≤ b) (decimal n)
digit_up_to zero n h = absurd (omega arith)
digit_up_to (suc k) n h =
    ⊎_elim (λ l. rw (decimal_last n l) (glyph_digit n, tt))
    (λ l. rw (decimal_on n l) (each_more (λ (b : ℕ). 48 ≤ b) (decimal (n / 10)) (glyph (n % 10)) (digit_up_to k (n / 10) (omega arith)) (glyph_digit (n % 10))))
    (lt_or_le n 10)

decimal_digits : (n : ℕ) → Each (λ (b : ℕ). 48 ≤ b) (decimal n)
decimal_digits n = digit_up_to (suc n) n (omega arith)

-- a number does not start with a dash
no_dash : {G : Type 0} (n : ℕ) (t : List ℕ) → decimal n ≡ dash ∷ t → G
no_dash n t e = let o = rw e at (decimal_digits n) in absurd (omega (arith, o.0))

-- Law: no two numbers of 64 bits have the same text, signed.
pub signed_apart : (m n : ℕ) → m < 2 ^ 64 → n < 2 ^ 64 → signed m ≡ signed n → m ≡ n
signed_apart m n h l e =
    ⊎_elim
    (λ a. ⊎_elim (λ b. decimal_apart m n (sym (signed_plus m a) ∙ e ∙ signed_plus n b)) (λ b. no_dash m _ (sym (signed_plus m a) ∙ e ∙ signed_minus n b)) (lt_or_le n (2 ^ 63)))
    (λ a.
    ⊎_elim
    (λ b. no_dash n _ (sym (signed_plus n b) ∙ sym e ∙ signed_minus m a))
    (λ b.
    let o = decimal_apart (2 ^ 64 - m) (2 ^ 64 - n) (tail-eq_of_cons-eq (sym (signed_minus m a) ∙ e ∙ signed_minus n b)) in
    omega arith)
    (lt_or_le n (2 ^ 63)))
    (lt_or_le m (2 ^ 63))

-- ---- bytes

hex_apart : (s t : List ℕ) → joined hex_pair s ≡ joined hex_pair t → s ≡ t
hex_apart [] [] e = refl
hex_apart [] (c ∷ t) e = absurd (omega (arith, ap length e, ap length (joined_none hex_pair), hex_length (c ∷ t)))
hex_apart (b ∷ s) [] e = absurd (omega (arith, ap length e, ap length (joined_none hex_pair), hex_length (b ∷ s)))
hex_apart (b ∷ s) (c ∷ t) e =
    let o = sym (joined_on hex_pair b s) ∙ e ∙ joined_on hex_pair c t in
    let high = glyph_apart (b / 16) (c / 16) (head-eq_of_cons-eq o) in
    let low = glyph_apart (b % 16) (c % 16) (head-eq_of_cons-eq (tail-eq_of_cons-eq o)) in
    ap₂ ◌∷◌ (omega arith) (hex_apart s t (tail-eq_of_cons-eq (tail-eq_of_cons-eq o)))

-- Law: no two strings of bytes are shown the same.
pub shown_apart : (s t : List ℕ) → shown s ≡ shown t → s ≡ t
unfolding shown
shown_apart [] [] e = refl
shown_apart [] (c ∷ t) e = absurd (omega (arith, ap length e, hex_length (c ∷ t)))
shown_apart (b ∷ s) [] e = absurd (omega (arith, ap length e, hex_length (b ∷ s)))
shown_apart (b ∷ s) (c ∷ t) e = hex_apart (b ∷ s) (c ∷ t) e

-- ---- values

-- what a line says of a value: what it means but for its flags
abbrev pub line_meaning : List ℕ → Record → Meaning
line_meaning f (value k a b x) = meaning f (value k a b 0)

pub below : (w : Width) (a : ℕ) → InWidth w a → a < 2 ^ 64
below signed32 a h = rw h (signed_below a)
below unsigned32 a h = omega arith
below whole64 a h = h

-- Law: values of one kind with the same text mean the same but for their flags.
pub values_apart : (k a b x c d y : ℕ) (f g : List ℕ) → writable_record (value k a b x) ≡ true → writable_record (value k c d y) ≡ true
    → value_text f (value k a b x) ≡ value_text g (value k c d y) → line_meaning f (value k a b x) ≡ line_meaning g (value k c d y)
unfolding value_text
values_apart k a b x c d y f g h l e =
    shape_cases k
    (λ z is. plain (ap points is) ((fields nothing is).0 ∙ sym (others nothing is).0))
    (λ z is. plain (ap points is) (decimal_apart a c (rw (text_number f k a b x (λ o. omega arith) (λ o. omega arith) (λ o. omega arith) (omega arith), text_number g k c d y (λ o. omega arith) (λ o. omega arith) (λ o. omega arith) (omega arith)) at e)))
    (λ w u v is. plain (ap points is) (number w u is e))
    (λ n u v is. bytes u (omega arith))
    (λ u v is. bytes (omega arith) v)
    (λ u is. absurd (fields reserved is))
  where
    plain : points (shape k) ≡ false → a ≡ c → line_meaning f (value k a b x) ≡ line_meaning g (value k c d y)
    plain p o = rw p (ap (λ (n : ℕ). means k n 0 []) o)

    bytes : 6 ≤ k → k < 10 → line_meaning f (value k a b x) ≡ line_meaning g (value k c d y)
    bytes u v = rw (points_yes k u v) (ap (means k 0 0) (shown_apart (part f a b) (part g c d) (rw (text_bytes f k a b x u v, text_bytes g k c d y u v) at e)))

    fields : (sh : Shape) → shape k ≡ sh → Fields sh a b
    fields = writable_fields k a b x h

    others : (sh : Shape) → shape k ≡ sh → Fields sh c d
    others = writable_fields k c d y l

    number : (w : Width) → 2 ≤ k → shape k ≡ integer w → value_text f (value k a b x) ≡ value_text g (value k c d y) → a ≡ c
    number w u is q =
        let no = ne_eqb k 0 (λ z. omega arith) in
        bool_cases (eqb k 2 || eqb k 4)
        (λ t. signed_apart a c (below w a (fields (integer w) is).0) (below w c (others (integer w) is).0) (rw (no, t) at q))
        (λ t. decimal_apart a c (rw (no, t, ap points is) at q))

-- ---- where a text ends

-- bytes above a space
abbrev pub Plain : List ℕ → Type 0
Plain s = Each (λ (b : ℕ). 33 ≤ b) s

plain_digits : (s : List ℕ) → Each (λ (b : ℕ). 48 ≤ b) s → Plain s
plain_digits [] e = tt
plain_digits (b ∷ s) e = (omega (arith, e.0), plain_digits s e.1)

pub decimal_plain : (n : ℕ) → Plain (decimal n)
decimal_plain n = plain_digits (decimal n) (decimal_digits n)

signed_plain : (n : ℕ) → Plain (signed n)
signed_plain n = ⊎_elim (λ h. rw (signed_plus n h) (decimal_plain n)) (λ h. rw (signed_minus n h) (omega arith, decimal_plain (2 ^ 64 - n))) (lt_or_le n (2 ^ 63))

hex_plain : (s : List ℕ) → Plain (joined hex_pair s)
hex_plain [] = rw (joined_none hex_pair) tt
hex_plain (b ∷ s) = rw (joined_on hex_pair b s) (omega (arith, glyph_digit (b / 16)), (omega (arith, glyph_digit (b % 16)), hex_plain s))

pub shown_plain : (s : List ℕ) → Plain (shown s)
unfolding shown
shown_plain [] = (omega arith, tt)
shown_plain (b ∷ s) = hex_plain (b ∷ s)

pub value_plain : (f : List ℕ) (v : Record) → Plain (value_text f v)
unfolding value_text
value_plain f (value k a b x) =
    bool_cases (eqb k 0) (λ t. rw t (omega arith, tt))
    (λ t. bool_cases (eqb k 2 || eqb k 4) (λ s. rw (t, s) (signed_plain a))
    (λ s. bool_cases (points (shape k)) (λ p. rw (t, s, p) (shown_plain (part f a b))) (λ p. rw (t, s, p) (decimal_plain a))))

-- Law: two texts, each with a space or a line's end behind it, that start the same bytes are the same, and so is what follows.
pub texts_apart : (s t : List ℕ) (x y : ℕ) (u v : List ℕ) → Plain s → Plain t → x ≤ 32 → y ≤ 32 → s ++ (x ∷ u) ≡ t ++ (y ∷ v) → (s ≡ t) × (u ≡ v)
texts_apart [] [] x y u v p q h l e = (refl, tail-eq_of_cons-eq e)
texts_apart [] (c ∷ t) x y u v p q h l e = absurd (omega (arith, head-eq_of_cons-eq e, q.0))
texts_apart (b ∷ s) [] x y u v p q h l e = absurd (omega (arith, head-eq_of_cons-eq e, p.0))
texts_apart (b ∷ s) (c ∷ t) x y u v p q h l e =
    let o = texts_apart s t x y u v p.1 q.1 h l (tail-eq_of_cons-eq e) in
    (ap₂ ◌∷◌ (head-eq_of_cons-eq e) o.0, o.1)
