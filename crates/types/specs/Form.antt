-- What a value's record is written as (SPOE.txt, section 3.1), and what it is refused with instead (docs/RULES.md). A record that points
-- has its bytes in a buffer, by start and length.
use Rattle.std.specs.Prelude.{Bool, true, cond, ◌&&◌, List, [], ◌∷◌, ◌++◌, ℕ, ◌+◌, ◌*◌, leb, length, take, drop}
use Rattle.answer.specs.Answer.{Answer, done, refused, written}
use Rattle.answer.specs.Order.{in_order}
use Rattle.varint.specs.Number.{number_bytes}
use Rattle.types.specs.Value.{Shape, nothing, flag, integer, address, text, reserved, shape, Record, value, points, in_fields, in_flags}

-- the bytes that a start and a length point at, and whether they all lie in the buffer
abbrev pub part : List ℕ → ℕ → ℕ → List ℕ
part buffer start len = take len (drop start buffer)

abbrev pub inside : List ℕ → ℕ → ℕ → Bool
inside buffer start len = leb (start + len) (length buffer)

-- A string: its length number and its bytes.
unfoldable pub string_bytes : List ℕ → List ℕ
string_bytes bytes = number_bytes (length bytes) ++ bytes

-- A value with the number a or with these bytes: the type byte, whose lowest flag is a boolean, and the DATA. A negative number is its
-- sign extension, so it is written as one of 64 bits.
abbrev pub data_bytes : Shape → ℕ → ℕ → List ℕ → List ℕ
data_bytes nothing type a bytes = type ∷ []
data_bytes flag type a bytes = (type + 16 * a) ∷ []
data_bytes (integer w) type a bytes = type ∷ number_bytes a
data_bytes (address n) type a bytes = type ∷ bytes
data_bytes text type a bytes = type ∷ string_bytes bytes
data_bytes reserved type a bytes = []

-- the type byte of a kind with these flags; a boolean has none, and is put in above
abbrev pub type_of : ℕ → ℕ → ℕ
type_of kind flags = kind + 16 * flags

unfoldable pub value_bytes : List ℕ → Record → List ℕ
value_bytes buffer (value kind a b flags) = data_bytes (shape kind) (type_of kind flags) a (part buffer a b)

-- whether the numbers lie in their fields, and whether a start and a length lie in the buffer, also where the length is 0
abbrev pub writable_record : Record → Bool
writable_record (value kind a b flags) = in_flags (shape kind) flags && in_fields (shape kind) a b

abbrev pub ranged : List ℕ → Record → Bool
ranged buffer (value kind a b flags) = cond (points (shape kind)) (inside buffer a b) true

-- What writing comes to: 14 where a number is outside its field, 16 where the record points outside, else its bytes.
unfoldable pub value_answer : List ℕ → Record → Answer (List ℕ)
value_answer buffer v = in_order ((refused 14 0, writable_record v) ∷ (refused 16 0, ranged buffer v) ∷ []) (written (value_bytes buffer v))

-- its length, 0 where there is none
abbrev pub length_of : Answer (List ℕ) → ℕ
length_of (done bytes n) = n
length_of (refused number place) = 0
