-- Strings and typed data, read from the front of some bytes: SPOE.txt, section 3.1:
--
--     TYPED-DATA    : <TYPE:4 bits><FLAGS:4 bits><DATA>
--
--     TYPE                       |  ID | DESCRIPTION
--     NULL                       |  0  |  NULL   : <0>
--     Boolean                    |  1  |  BOOL   : <1+FLAG>
--     32bits signed integer      |  2  |  INT32  : <2><VALUE:varint>
--     32bits unsigned integer    |  3  |  UINT32 : <3><VALUE:varint>
--     64bits signed integer      |  4  |  INT64  : <4><VALUE:varint>
--     64bits unsigned integer    |  5  |  UINT64 : <5><VALUE:varint>
--     IPV4                       |  6  |  IPV4   : <6><STRUCT IN_ADDR:4 bytes>
--     IPV6                       |  7  |  IPV6   : <7><STRUCT IN_ADDR6:16 bytes>
--     String                     |  8  |  STRING : <8><LENGTH:varint><BYTES>
--     Binary                     |  9  |  BINARY : <9><LENGTH:varint><BYTES>
--     10 -> 15  unused/reserved
--
-- (The line of 5 is misprinted there as 32 bits, UNIT64.) The type is the low half of the first byte and the flags are the high
-- half, as the Rust has them. A boolean is the lowest flag; the flags of the other kinds are unused, and are kept.
use Rattle.std.specs.Prelude.{Bool, true, false, cond, ◌&&◌, List, [], ◌∷◌, ℕ, ◌+◌, ◌-◌, ◌/◌, ◌%◌, ◌^◌, ltb, leb, eqb, length, get_or}
use Rattle.types.specs.declared.Span.{Span}
use Rattle.answer.specs.Answer.{Answer, done, refused, next, behind}
use Rattle.varint.specs.Number.{number}

-- ---- strings

-- where some bytes stand: their start, and how many they are
abbrev pub span : ℕ → ℕ → Span
span start len = record { start = start; len = len }

-- The string at the front: a length number and that many bytes. Where they are fewer it is 3, right after the number.
unfoldable pub string : List ℕ → Answer Span
string s = next (number s) (λ n used. cond (leb (used + n) (length s)) (done (span used n) (used + n)) (refused 3 used))

-- ---- the table

-- which bits of its number an integer keeps: the low 32, extended by their sign; the low 32; all 64
pub data Width : Type 0 where
  signed32 : Width
  unsigned32 : Width
  whole64 : Width

-- what the DATA of a kind is
pub data Shape : Type 0 where
  nothing : Shape
  flag : Shape
  integer : Width → Shape
  address : ℕ → Shape
  text : Shape
  reserved : Shape

-- the table's lines, from 0 to 9
abbrev pub shapes : List Shape
shapes =
    nothing
    ∷ flag
    ∷ integer signed32
    ∷ integer unsigned32
    ∷ integer whole64
    ∷ integer whole64
    ∷ address 4
    ∷ address 16
    ∷ text
    ∷ text ∷ []

unfoldable pub shape : ℕ → Shape
shape kind = get_or shapes kind reserved

-- ---- values

-- a value as the records of docs/RULES.md have it: its kind, two numbers and its flags
pub data Record : Type 0 where
  value : ℕ → ℕ → ℕ → ℕ → Record

-- whether the two numbers are a start and a length
abbrev pub points : Shape → Bool
points nothing = false
points flag = false
points (integer w) = false
points (address n) = true
points text = true
points reserved = false

-- such a start moves
abbrev pub moved : ℕ → Record → Record
moved n (value kind a b flags) = value kind (cond (points (shape kind)) (n + a) a) b flags

-- the low 32 bits, and where the highest of them is set, 32 ones above them
unfoldable pub sign_extended : ℕ → ℕ
sign_extended n = cond (ltb (n % 2 ^ 32) (2 ^ 31)) (n % 2 ^ 32) (n % 2 ^ 32 + (2 ^ 64 - 2 ^ 32))

abbrev pub narrowed : Width → ℕ → ℕ
narrowed signed32 n = sign_extended n
narrowed unsigned32 n = n % 2 ^ 32
narrowed whole64 n = n

abbrev pub spanned : ℕ → ℕ → Span → Record
spanned kind flags p = value kind p.start p.len flags

-- The value whose DATA stands at the front, of the kind and with the flags of its type byte. A boolean has its lowest flag as its number
-- and keeps none. An address that is too short is 3 right after the type byte, which is here.
abbrev pub content : Shape → ℕ → ℕ → List ℕ → Answer Record
content nothing kind flags s = done (value kind 0 0 flags) 0
content flag kind flags s = done (value kind (flags % 2) 0 0) 0
content (integer w) kind flags s = next (number s) (λ n used. done (value kind (narrowed w n) 0 flags) used)
content (address n) kind flags s = cond (leb n (length s)) (done (value kind 0 n flags) n) (refused 3 0)
content text kind flags s = next (string s) (λ p used. done (spanned kind flags p) used)
content reserved kind flags s = refused 8 0

-- a type byte's upper four bits
abbrev pub upper : ℕ → ℕ
upper b = b / 16 % 16

-- The value at the front: its type byte, and its DATA behind that.
unfoldable pub typed : List ℕ → Answer Record
typed [] = refused 3 0
typed (b ∷ s) = behind moved 1 (content (shape (b % 16)) (b % 16) (upper b) s)

-- ---- fields

-- Whether a kind's numbers lie in their fields: where not, it is 14 (docs/RULES.md). An unused number is 0, an i32's number is its
-- sign extension to 64 bits, an address has its length, and no integer or length passes 64 bits. A start has no field of its own: one
-- that is too large points outside, which is 16.
abbrev pub in_width : Width → ℕ → Bool
in_width signed32 a = eqb a (sign_extended a)
in_width unsigned32 a = ltb a (2 ^ 32)
in_width whole64 a = ltb a (2 ^ 64)

abbrev pub in_fields : Shape → ℕ → ℕ → Bool
in_fields nothing a b = eqb a 0 && eqb b 0
in_fields flag a b = ltb a 2 && eqb b 0
in_fields (integer w) a b = in_width w a && eqb b 0
in_fields (address n) a b = eqb b n
in_fields text a b = ltb b (2 ^ 64)
in_fields reserved a b = false

-- The flags are four bits, and none where they are the boolean itself.
abbrev pub in_flags : Shape → ℕ → Bool
in_flags nothing flags = ltb flags 16
in_flags flag flags = eqb flags 0
in_flags (integer w) flags = ltb flags 16
in_flags (address n) flags = ltb flags 16
in_flags text flags = ltb flags 16
in_flags reserved flags = ltb flags 16
