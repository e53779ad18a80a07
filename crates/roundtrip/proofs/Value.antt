-- Laws about a string and a value that were read: the bytes that they took are those that they are written as, of a value exactly where it is plain.
use mathlib.Core.Path.{◌≡◌, refl, sym, ap, ap₂, ◌∙◌}
use mathlib.Core.Bool.{true, cond}
use mathlib.Core.Logic.{⊎_elim}
use mathlib.Core.List.{List, [], ◌∷◌, ◌++◌}
use Prim.Native.Nat.{ℕ, suc, ◌+◌, ◌*◌, ◌%◌, ◌^◌, ◌≤◌, ◌<◌}
use native.Mathlib.Nat.{mod-eq_of_lt}
use native.Mathlib.Omega.{arith}
use lib.ListN.{length, take, drop, take-append-drop}
use lib.Seq.{take-add, drop_at, length-take-le}
use borrow.Author.Tests.{ltb-true, lt-ltb, eqb-true, eq-eqb}
use Rattle.answer.specs.Answer.{Answer, done, refused, behind}
use Rattle.answer.proofs.Cases.{lt_or_le, answer_cases, not_both}
use Rattle.varint.specs.Number.{number, number_bytes}
use Rattle.varint.proofs.Reading.{Bytes, accepted, apart, number_exact}
use Rattle.types.specs.declared.Span.{Span}
use Rattle.types.specs.Value.{span, string, Shape, nothing, flag, integer, address, text, reserved, Width, signed32, unsigned32, whole64, shape, Record, value, points, moved, narrowed, content, upper, typed, in_width}
use Rattle.types.specs.Form.{part, string_bytes, data_bytes, type_of, value_bytes}
use Rattle.types.proofs.Shapes.{signed_below}
use Rattle.types.proofs.Reading.{string_accepted, typed_none, typed_some, value_same, integer_whole, integer_refused, address_whole, address_short, text_whole, text_refused, content_accepted}
use Rattle.types.proofs.Writing.{string_bytes_lem, part_length, value_bytes_lem}
use Rattle.types.proofs.Exact.{string_exact}
use Rattle.answer.proofs.Answers.{done_same}
use Rattle.payload.proofs.Exact.{bytes_drop}
use Rattle.payload.proofs.Back.{part_moved}
use Rattle.roundtrip.proofs.Plain.{plain_data, plain_value}

-- ---- a form at the front of some bytes

-- bytes whose front is a form are the form and the rest; and what stands behind the form is the rest
pub form_rest : (form s : List ℕ) (n : ℕ) → take n s ≡ form → s ≡ form ++ drop n s
form_rest form s n e = sym (take-append-drop n s) ∙ ap (λ (l : List ℕ). l ++ drop n s) e

pub rest_same : (form s t : List ℕ) (n : ℕ) → n ≤ length s → take n s ≡ form → form ++ t ≡ s → t ≡ drop n s
rest_same form s t n h e is = sym (drop_at form t n (sym (ap length e) ∙ length-take-le n s h)) ∙ ap (drop n) is

-- ---- strings

-- Law: an accepted string took exactly the bytes that it is written as.
pub string_form : (s : List ℕ) (start len used : ℕ) → Bytes s → string s ≡ done (span start len) used → take used s ≡ string_bytes (part s start len)
string_form s start len used small e =
    let o = string_accepted s start len used e in
    let both : used ≡ start + len = omega arith in
    ap (λ (n : ℕ). take n s) both
    ∙ take-add start len s
    ∙ ap (λ (l : List ℕ). l ++ part s start len) (string_exact s start len used small e ∙ ap number_bytes (sym (part_length s start len (omega arith))))
    ∙ sym (string_bytes_lem (part s start len))

-- ---- the DATA of a value

-- a number keeps all of its bits exactly where it is in its kind's range
narrowed_below : (w : Width) (n : ℕ) → n < 2 ^ 64 → narrowed w n < 2 ^ 64
narrowed_below signed32 n h = signed_below n
narrowed_below unsigned32 n h = omega arith
narrowed_below whole64 n h = h

narrowed_same : (w : Width) (n : ℕ) → in_width w n ≡ true → narrowed w n ≡ n
narrowed_same signed32 n h = sym (eqb-true n _ h)
narrowed_same unsigned32 n h = mod-eq_of_lt {m = 2 ^ 32} (ltb-true n (2 ^ 32) h)
narrowed_same whole64 n h = refl

same_narrowed : (w : Width) (n : ℕ) → n < 2 ^ 64 → narrowed w n ≡ n → in_width w n ≡ true
same_narrowed signed32 n h e = eq-eqb n _ (sym e)
same_narrowed unsigned32 n h e = lt-ltb n (2 ^ 32) (omega arith)
same_narrowed whole64 n h e = lt-ltb n (2 ^ 64) h

-- Where the DATA is plain it took exactly the bytes that it is written as, behind its type byte.
content_form : (sh : Shape) (kind flags : ℕ) (s : List ℕ) (k a b f used : ℕ) → Bytes s → content sh kind flags s ≡ done (value k a b f) used
    → plain_data sh flags s ≡ true → type_of kind flags ∷ take used s ≡ data_bytes sh (type_of kind f) a (part s a b)
content_form nothing kind flags s k a b f used small e h =
    let p = value_same e in
    ap₂ (λ (g n : ℕ). type_of kind g ∷ take n s) p.4 (sym p.3)
content_form flag kind flags s k a b f used small e h =
    let p = value_same e in
    let two = ltb-true flags 2 h in
    let type : type_of kind flags ≡ type_of kind f + 16 * a = omega arith in
    ap₂ (λ (g n : ℕ). g ∷ take n s) type (sym p.3)
content_form (integer w) kind flags s k a b f used small e h =
    answer_cases (number s)
    (λ n u d.
    let p = value_same (sym (integer_whole kind flags s w n u d) ∙ e) in
    let plain : in_width w n ≡ true = rw d at h in
    ap₂ (λ (g : ℕ) (l : List ℕ). type_of kind g ∷ l) p.4
    (ap (λ (m : ℕ). take m s) (sym p.3) ∙ number_exact s n u small d ∙ ap number_bytes (sym (narrowed_same w n plain) ∙ p.1)))
    (λ n place r. not_both e (integer_refused kind flags s w n place r))
content_form (address n) kind flags s k a b f used small e h =
    ⊎_elim
    (λ l. not_both e (address_short kind flags s n l))
    (λ l.
    let p = value_same (sym (address_whole kind flags s n l) ∙ e) in
    ap₂ (λ (g : ℕ) (l : List ℕ). type_of kind g ∷ l) p.4 (ap (λ (m : ℕ). take m s) (sym p.3) ∙ ap₂ (part s) p.1 p.2))
    (lt_or_le (length s) n)
content_form text kind flags s k a b f used small e h = go (string s) refl
  where
    go : (x : Answer Span) → string s ≡ x → type_of kind flags ∷ take used s ≡ data_bytes text (type_of kind f) a (part s a b)
    go (done x u) d =
        let p = value_same (sym (text_whole kind flags s x.start x.len u d) ∙ e) in
        ap₂ (λ (g : ℕ) (l : List ℕ). type_of kind g ∷ l) p.4
        (ap (λ (m : ℕ). take m s) (sym p.3) ∙ string_form s x.start x.len u small d ∙ ap₂ (λ (x y : ℕ). string_bytes (part s x y)) p.1 p.2)
    go (refused n place) r = not_both e (text_refused kind flags s n place r)
content_form reserved kind flags s k a b f used small e h = not_both e refl

-- And only then: where what it is written as stands at the front, it is plain.
content_only : (sh : Shape) (kind flags : ℕ) (s : List ℕ) (k a b f used : ℕ) → Bytes s → content sh kind flags s ≡ done (value k a b f) used
    → (t : List ℕ) → data_bytes sh (type_of kind f) a (part s a b) ++ t ≡ type_of kind flags ∷ s → plain_data sh flags s ≡ true
content_only nothing kind flags s k a b f used small e t is = refl
content_only flag kind flags s k a b f used small e t is =
    let p = value_same e in
    let type : type_of kind f + 16 * a ≡ type_of kind flags = cc in
    lt-ltb flags 2 (omega arith)
content_only (integer w) kind flags s k a b f used small e t is =
    answer_cases (number s)
    (λ n u d.
    let p = value_same (sym (integer_whole kind flags s w n u d) ∙ e) in
    let o = accepted s n u d in
    let there : number_bytes a ++ t ≡ s = cc in
    let below : a < 2 ^ 64 = omega (arith, narrowed_below w n o.3, p.1) in
    let same : a ≡ n = (apart a n t (drop u s) below o.3 (there ∙ form_rest (number_bytes n) s u (number_exact s n u small d))).0 in
    rw d (same_narrowed w n o.3 (p.1 ∙ same)))
    (λ n place r. not_both e (integer_refused kind flags s w n place r))
content_only (address n) kind flags s k a b f used small e t is = refl
content_only text kind flags s k a b f used small e t is = refl
content_only reserved kind flags s k a b f used small e t is = refl

-- ---- values

-- Law: a value behind n other bytes is written as it is without them.
pub value_form_moved : (s : List ℕ) (n : ℕ) (v : Record) → value_bytes s (moved n v) ≡ value_bytes (drop n s) v
unfolding value_bytes
value_form_moved s n (value kind a b flags) = by_shape (shape kind)
  where
    by_shape : (sh : Shape)
        → data_bytes sh (type_of kind flags) (cond (points sh) (n + a) a) (part s (cond (points sh) (n + a) a) b) ≡ data_bytes sh (type_of kind flags) a (part (drop n s) a b)
    by_shape nothing = refl
    by_shape flag = refl
    by_shape (integer w) = refl
    by_shape (address m) = ap (λ (l : List ℕ). type_of kind flags ∷ l) (part_moved s n a b)
    by_shape text = ap (λ (l : List ℕ). type_of kind flags ∷ string_bytes l) (part_moved s n a b)
    by_shape reserved = refl

-- how an accepted value unrolls: its type byte, and its DATA behind that
record Typed (x : ℕ) (s : List ℕ) (v : Record) (used : ℕ) : Type 0 where
  a : ℕ
  b : ℕ
  flags : ℕ
  taken : ℕ
  inner : content (shape (x % 16)) (x % 16) (upper x) s ≡ done (value (x % 16) a b flags) taken
  is : moved 1 (value (x % 16) a b flags) ≡ v
  all : suc taken ≡ used

unroll : (x : ℕ) (s : List ℕ) (v : Record) (used : ℕ) → typed (x ∷ s) ≡ done v used → Typed x s v used
unroll x s v used e = go (content (shape (x % 16)) (x % 16) (upper x) s) refl
  where
    go : (y : Answer Record) → content (shape (x % 16)) (x % 16) (upper x) s ≡ y → Typed x s v used
    go (done (value k a b f) u) d =
        let kind : k ≡ x % 16 = (content_accepted (shape (x % 16)) (x % 16) (upper x) s k a b f u (omega arith) d).0 in
        let o = done_same (sym (typed_some x s ∙ ap (behind moved 1) d) ∙ e) in
        record {
          a = a;
          b = b;
          flags = f;
          taken = u;
          inner = d ∙ ap (λ (n : ℕ). done (value n a b f) u) kind;
          is = ap (λ (n : ℕ). moved 1 (value n a b f)) (sym kind) ∙ o.0;
          all = omega (arith, o.1);
        }
    go (refused n place) r = not_both e (typed_some x s ∙ ap (behind moved 1) r)

module _ (x : ℕ) (s : List ℕ) (v : Record) (used : ℕ) (byte : x < 256) (u : Typed x s v used) where
  -- the type byte has its kind and its flags
  type_byte_lem : type_of (x % 16) (upper x) ≡ x
  type_byte_lem = omega arith

  form : value_bytes (x ∷ s) v ≡ data_bytes (shape (x % 16)) (type_of (x % 16) u.flags) u.a (part s u.a u.b)
  form =
      ap (value_bytes (x ∷ s)) (sym u.is)
      ∙ value_form_moved (x ∷ s) 1 (value (x % 16) u.a u.b u.flags)
      ∙ value_bytes_lem s (x % 16) u.a u.b u.flags

-- Law: a plain value took exactly the bytes that it is written as.
pub value_form_lem : (s : List ℕ) (v : Record) (used : ℕ) → Bytes s → typed s ≡ done v used → plain_value s ≡ true → take used s ≡ value_bytes s v
unfolding plain_value
value_form_lem [] v used small e h = not_both e typed_none
value_form_lem (x ∷ s) v used small e h =
    let u = unroll x s v used e in
    ap (λ (n : ℕ). take n (x ∷ s)) (sym u.all)
    ∙ ap (λ (n : ℕ). n ∷ take u.taken s) (sym (type_byte_lem x s v used (small 0 (omega arith)) u))
    ∙ content_form (shape (x % 16)) (x % 16) (upper x) s (x % 16) u.a u.b u.flags u.taken (bytes_drop 1 (x ∷ s) small) u.inner h
    ∙ sym (form x s v used (small 0 (omega arith)) u)

-- Law: and only a plain one did: where the bytes that a value is written as stand where it was read, it is plain.
pub value_only : (s : List ℕ) (v : Record) (used : ℕ) → Bytes s → typed s ≡ done v used → (t : List ℕ) → value_bytes s v ++ t ≡ s → plain_value s ≡ true
unfolding plain_value
value_only [] v used small e t is = refl
value_only (x ∷ s) v used small e t is =
    let u = unroll x s v used e in
    content_only (shape (x % 16)) (x % 16) (upper x) s (x % 16) u.a u.b u.flags u.taken (bytes_drop 1 (x ∷ s) small) u.inner t
    (ap (λ (l : List ℕ). l ++ t) (sym (form x s v used (small 0 (omega arith)) u)) ∙ is ∙ ap (λ (n : ℕ). n ∷ s) (sym (type_byte_lem x s v used (small 0 (omega arith)) u)))
