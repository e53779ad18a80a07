-- Laws about the numbers inside strings and values: each that is accepted took exactly the bytes that it is written as.
use mathlib.Core.Path.{◌≡◌, refl, sym, ap, ap₂, ◌∙◌}
use mathlib.Core.Bool.{Bool, true, false, cond}
use mathlib.Core.List.{List, ◌∷◌}
use Prim.Native.Nat.{ℕ, ◌+◌, ◌-◌, ◌%◌}
use native.Mathlib.Omega.{arith}
use lib.ListN.{take}
use Rattle.types.specs.declared.Span.{Span}
use Rattle.answer.specs.Answer.{Answer, done, refused, behind}
use Rattle.answer.proofs.Cases.{answer_cases, not_both}
use Rattle.varint.specs.Number.{number, number_bytes}
use Rattle.varint.proofs.Reading.{Bytes, number_exact}
use Rattle.types.specs.Value.{span, string, Shape, nothing, flag, integer, address, text, reserved, shape, Record, value, points, moved, narrowed, content, upper, typed}
use Rattle.types.proofs.Reading.{span_same, string_cases, string_refused, string_whole, string_short, typed_some, value_same, integer_whole, integer_refused, text_whole, text_refused, content_accepted}

-- Law: so did the length number of a string.
pub string_exact : (s : List ℕ) (start len used : ℕ) → Bytes s → string s ≡ done (span start len) used → take start s ≡ number_bytes len
string_exact s start len used small e =
    string_cases s
    (λ n place r. not_both e (string_refused s n place r))
    (λ n u d h.
    let one : done (span u n) (u + n) ≡ done (span start len) used = sym (string_whole s n u d h) ∙ e in
    let p = span_same one in
    ap (λ (m : ℕ). take m s) (sym p.0) ∙ number_exact s n u small d ∙ ap number_bytes p.1)
    (λ n u d h. not_both e (string_short s n u d h))

-- What that says of the DATA of a kind, of which so many bytes were taken: of an integer, before its low 32 bits are kept; of bytes, before them.
abbrev pub DataExact : Shape → List ℕ → ℕ → ℕ → ℕ → Type 0
DataExact nothing s a b used = Unit
DataExact flag s a b used = Unit
DataExact (integer w) s a b used = (n : ℕ) × (take used s ≡ number_bytes n) × (a ≡ narrowed w n)
DataExact (address n) s a b used = Unit
DataExact text s a b used = take a s ≡ number_bytes b
DataExact reserved s a b used = Unit

content_exact : (sh : Shape) (kind flags : ℕ) (s : List ℕ) (k a b f used : ℕ) → Bytes s → content sh kind flags s ≡ done (value k a b f) used → DataExact sh s a b used
content_exact nothing kind flags s k a b f used small e = tt
content_exact flag kind flags s k a b f used small e = tt
content_exact (integer w) kind flags s k a b f used small e =
    answer_cases (number s)
    (λ n u d.
    let p = value_same (sym (integer_whole kind flags s w n u d) ∙ e) in
    (n, ap (λ (m : ℕ). take m s) (sym p.3) ∙ number_exact s n u small d, sym p.1))
    (λ n place r. not_both e (integer_refused kind flags s w n place r))
content_exact (address n) kind flags s k a b f used small e = tt
content_exact text kind flags s k a b f used small e = go (string s) refl
  where
    go : (x : Answer Span) → string s ≡ x → DataExact text s a b used
    go (done x u) d =
        let p = value_same (sym (text_whole kind flags s x.start x.len u d) ∙ e) in
        ap (λ (m : ℕ). take m s) (sym p.1) ∙ string_exact s x.start x.len u small d ∙ ap number_bytes p.2
    go (refused n place) r = not_both e (text_refused kind flags s n place r)
content_exact reserved kind flags s k a b f used small e = tt

-- a start counted from the type byte, without it
abbrev pub data_start : ℕ → ℕ → ℕ
data_start kind a = cond (points (shape kind)) (a - 1) a

-- Law: so did the number inside a value.
pub typed_exact : (x : ℕ) (s : List ℕ) (kind a b flags used : ℕ) → Bytes s → typed (x ∷ s) ≡ done (value kind a b flags) used
    → DataExact (shape kind) s (data_start kind a) b (used - 1)
typed_exact x s kind a b flags used small e = go (content (shape (x % 16)) (x % 16) (upper x) s) refl
  where
    unmoved : (p : Bool) (c : ℕ) → cond p (cond p (1 + c) c - 1) (cond p (1 + c) c) ≡ c
    unmoved true c = omega arith
    unmoved false c = refl

    go : (y : Answer Record) → content (shape (x % 16)) (x % 16) (upper x) s ≡ y → DataExact (shape kind) s (data_start kind a) b (used - 1)
    go (done (value k c d g) u) f =
        let o = content_accepted (shape (x % 16)) (x % 16) (upper x) s k c d g u (omega arith) f in
        let p = value_same (sym (typed_some x s ∙ ap (behind moved 1) f) ∙ e) in
        let same : x % 16 ≡ kind = sym o.0 ∙ p.0 in
        let start : data_start kind a ≡ c = ap₂ (λ (n m : ℕ). data_start n m) (sym p.0) (sym p.1) ∙ unmoved (points (shape k)) c in
        let taken : used - 1 ≡ u = omega (arith, p.3) in
        rw (start, taken, sym same, sym p.2) (content_exact (shape (x % 16)) (x % 16) (upper x) s k c d g u small f)
    go (refused n place) f = not_both e (typed_some x s ∙ ap (behind moved 1) f)
