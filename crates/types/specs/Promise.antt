-- What the calls' own types mean, and what those calls promise whose contracts name a promise.
use Rattle.types.specs.declared.Span.{Span}
use Rattle.types.specs.declared.Value.{Value}
use Rattle.std.specs.Prelude.{◌≡◌, List, [], ◌∷◌, ℕ, Result, Ok, Err}
use Rattle.answer.specs.declared.Read.{Read}
use Rattle.answer.specs.declared.Reason.{Reason}
use Rattle.answer.specs.declared.Refusal.{Refusal}
use Rattle.answer.specs.Answer.{Answer, done, written}
use Rattle.answer.specs.Writes.{refusal_said, read_said}
use Rattle.answer.specs.Order.{Checked, in_order, lines_at}
use Rattle.types.specs.Value.{string, Record, value, typed}
use Rattle.types.specs.Form.{value_bytes, length_of}
use Rattle.types.specs.Check.{value_checks}

-- a value's four numbers
abbrev pub record_of : Value → Record
record_of x = value x.kind x.a x.b x.flags

-- the same in a row, as the records of docs/RULES.md have them
abbrev pub value_numbers : Value → List ℕ
value_numbers x = x.kind ∷ x.a ∷ x.b ∷ x.flags ∷ []

-- what the value reader's answer says
abbrev pub read_value : Read Value → Answer Record
read_value x = done (record_of x.value) x.used

abbrev pub value_said : Result (Read Value) Refusal → Answer Record
value_said (Ok x) = read_value x
value_said (Err r) = refusal_said r

-- ---- the promises

abbrev pub ReadString : List ℕ → Result (Read Span) Refusal → Type 0
ReadString input r = read_said r ≡ string input

abbrev pub TypedData : List ℕ → Result (Read Value) Refusal → Type 0
TypedData input r = value_said r ≡ typed input

-- both the reason and the length, 0 where there is a reason
abbrev pub measured : Result ℕ Reason → ℕ
measured (Ok n) = n
measured (Err why) = 0

abbrev pub MeasureValue : Value → List ℕ → Result ℕ Reason → Type 0
MeasureValue v buffer r =
    Checked (value_checks buffer (record_of v)) r
    × (measured r ≡ length_of (in_order (lines_at 0 (value_checks buffer (record_of v))) (written (value_bytes buffer (record_of v)))))
