-- No second result meets a promise: for each public call, what its `ensures` says fixes the answer and the lent bytes.
use Rattle.std.proofs.Common.{◌≡◌, sym, ap, ◌∙◌, List, ℕ, Result, Ok, Err, arith}
use Rattle.answer.specs.declared.Read.{Read}
use Rattle.answer.specs.declared.Reason.{Reason}
use Rattle.answer.specs.declared.Refusal.{Refusal}
use Rattle.answer.specs.Reason.{reason_said}
use Rattle.answer.proofs.Same.{reason_same, reason_some, refusal_same, read_same, one_only}
use Rattle.types.specs.declared.Span.{Span}
use Rattle.types.specs.declared.Value.{Value}
use Rattle.types.specs.Promise.{value_numbers, value_said, ReadString, TypedData, measured, MeasureValue}

-- answers that say the same are the same
value_same : (a b : Value) → a.kind ≡ b.kind → a.a ≡ b.a → a.b ≡ b.b → a.flags ≡ b.flags → a ≡ b
value_same a b e f g h = λ i. record { kind = e i; a = f i; b = g i; flags = h i }

pub value_numbers_unique : (a b : Value) → value_numbers a ≡ value_numbers b → a ≡ b
value_numbers_unique a b e = value_same a b (cc) (cc) (cc) (cc)

pub value_said_same : (a b : Result (Read Value) Refusal) → value_said a ≡ value_said b → a ≡ b
value_said_same (Ok x) (Ok y) e =
    let u : x.used ≡ y.used = cc in
    let v = value_same x.value y.value (cc) (cc) (cc) (cc) in
    let same : ◌≡◌ {A = Read Value} x y = λ i. record { value = v i; used = u i } in ap Ok same
value_said_same (Ok x) (Err q) e = let z : ◌≡◌ {A = ℕ} 0 1 = cc in absurd (omega arith)
value_said_same (Err r) (Ok x) e = let z : ◌≡◌ {A = ℕ} 0 1 = cc in absurd (omega arith)
value_said_same (Err r) (Err q) e = ap Err (refusal_same r q (cc) (cc))

pub read_string_unique : (s : List ℕ) (r q : Result (Read Span) Refusal) → ReadString s r → ReadString s q → r ≡ q
read_string_unique s r q p o = read_same r q (p ∙ sym o)

pub typed_data_unique : (s : List ℕ) (r q : Result (Read Value) Refusal) → TypedData s r → TypedData s q → r ≡ q
typed_data_unique s r q p o = value_said_same r q (p ∙ sym o)

pub measured_same : (a b : Result ℕ Reason) → reason_said a ≡ reason_said b → measured a ≡ measured b → a ≡ b
measured_same (Ok n) (Ok m) e f = ap Ok f
measured_same (Ok n) (Err q) e f = absurd (reason_some q (sym e))
measured_same (Err r) (Ok m) e f = absurd (reason_some r e)
measured_same (Err r) (Err q) e f = ap Err (reason_same r q e)

pub measure_value_unique : (v : Value) (buffer : List ℕ) (r q : Result ℕ Reason) → MeasureValue v buffer r → MeasureValue v buffer q → r ≡ q
measure_value_unique v buffer r q p o = measured_same r q (one_only p.0 o.0) (one_only p.1 o.1)
