-- Numbers and bytes as text, in ASCII: docs/RULES.md, "The listing".
use Rattle.std.specs.Prelude.{cond, List, [], ◌∷◌, ◌++◌, ℕ, zero, suc, ◌+◌, ◌-◌, ◌/◌, ◌%◌, ◌^◌, ltb}
use Prim.Native.Char.{code}
use Prim.Native.String.{String, [] as none, ◌∷◌ as ◌then◌}
use Rattle.answer.specs.Table.{joined}

-- a text's letters in ASCII
abbrev pub letters : String → List ℕ
letters none = []
letters (c then s) = code c ∷ letters s

-- `-`, which stands for nothing, and before a negative number
abbrev pub dash : ℕ
dash = code "-"

-- a digit: `0` to `9`, then `a` to `f`
abbrev pub glyph : ℕ → ℕ
glyph d = cond (ltb d 10) (code "0" + d) (code "a" - 10 + d)

-- The decimal digits of n, the highest first, as many as are counted down at most. A number below ten is one digit, and any other its tens and a
-- last digit.
unfoldable pub digits : ℕ → ℕ → List ℕ
digits zero n = []
digits (suc left) n = cond (ltb n 10) (glyph n ∷ []) (digits left (n / 10) ++ (glyph (n % 10) ∷ []))

-- All of them: a number has no more than it counts, and 0 has one.
unfoldable pub decimal : ℕ → List ℕ
decimal n = digits (suc n) n

-- A number of 64 bits whose highest is its sign: two's complement.
unfoldable pub signed : ℕ → List ℕ
signed n = cond (ltb n (2 ^ 63)) (decimal n) (dash ∷ decimal (2 ^ 64 - n))

-- a byte's two digits, the higher first
abbrev pub hex_pair : ℕ → List ℕ
hex_pair b = glyph (b / 16) ∷ glyph (b % 16) ∷ []

-- Bytes: two digits for each, or a dash where there are none.
unfoldable pub shown : List ℕ → List ℕ
shown [] = dash ∷ []
shown (b ∷ s) = joined hex_pair (b ∷ s)
