-- Well-formed UTF-8 and its repair: the Unicode standard, section 3.9, with table 3-7 and the definitions D92 and D93b.
use Rattle.std.specs.Prelude.{Bool, true, false, cond, ◌&&◌, List, [], ◌∷◌, ◌++◌, ℕ, zero, suc, ◌-◌, leb, eqb, length, take, drop}

infixl 20 ◌to◌
-- the bytes from the first to the last
pub data Range : Type 0 where
  ◌to◌ : ℕ → ℕ → Range

-- A row of the table: what the first byte may be, what the second, and how many bytes there are. A third and a fourth may be
-- 80 to BF in every row. In the first row there is no second byte.
pub data Row : Type 0 where
  row : Range → Range → ℕ → Row

-- Table 3-7, "Well-Formed UTF-8 Byte Sequences".
unfoldable pub rows : List Row
rows =
    row (0x00 to 0x7F) (0x00 to 0x00) 1
    ∷ row (0xC2 to 0xDF) (0x80 to 0xBF) 2
    ∷ row (0xE0 to 0xE0) (0xA0 to 0xBF) 3
    ∷ row (0xE1 to 0xEC) (0x80 to 0xBF) 3
    ∷ row (0xED to 0xED) (0x80 to 0x9F) 3
    ∷ row (0xEE to 0xEF) (0x80 to 0xBF) 3
    ∷ row (0xF0 to 0xF0) (0x90 to 0xBF) 4
    ∷ row (0xF1 to 0xF3) (0x80 to 0xBF) 4
    ∷ row (0xF4 to 0xF4) (0x80 to 0x8F) 4 ∷ []

-- the places after the first, as many as that: the next from its own range, the others from 80 to BF
unfoldable pub follow : ℕ → Range → List Range
follow zero next = []
follow (suc left) next = next ∷ follow left (0x80 to 0xBF)

-- what each byte of a row's sequences may be
abbrev pub places : Row → List Range
places (row lead second bytes) = lead ∷ follow (bytes - 1) second

unfoldable pub in_range : Range → ℕ → Bool
in_range (low to high) b = leb low b && leb b high

-- the first byte is there and in the range
abbrev pub starts_in : Range → List ℕ → Bool
starts_in p [] = false
starts_in p (b ∷ s) = in_range p b

-- how many bytes at the front are as these places say
unfoldable pub matching : List Range → List ℕ → ℕ
matching [] s = 0
matching (p ∷ ps) s = cond (starts_in p s) (suc (matching ps (drop 1 s))) 0

-- What stands at the front of some bytes: nothing, a well-formed sequence of so many bytes, or a maximal subpart of an
-- ill-formed one.
pub data Step : Type 0 where
  ends : Step
  char : ℕ → Step
  mark : ℕ → Step

-- A sequence that has all of its row's places is well-formed (D92), and one that has some is the start of a well-formed one.
abbrev pub taken : ℕ → ℕ → Step
taken all n = cond (eqb n all) (char n) (mark n)

-- the row in whose range a first byte is, if there is one: no two rows share a byte
pub data Led : Type 0 where
  unused : Led
  led : Row → Led

unfoldable pub row_for : List Row → ℕ → Led
row_for [] b = unused
row_for (row lead second bytes ∷ rs) b = cond (in_range lead b) (led (row lead second bytes)) (row_for rs b)

-- By the row of the first byte: a maximal subpart is the longest start of a well-formed sequence, or one byte where there is
-- none (D93b).
abbrev pub step_for : Led → List ℕ → Step
step_for unused s = mark 1
step_for (led r) s = taken (length (places r)) (matching (places r) s)

unfoldable pub step : List ℕ → Step
step [] = ends
step (b ∷ s) = step_for (row_for rows b) (b ∷ s)

-- how many bytes a step takes
abbrev pub step_size : Step → ℕ
step_size ends = 0
step_size (char n) = n
step_size (mark n) = n

-- whether it is well-formed
abbrev pub well_formed : Step → Bool
well_formed ends = true
well_formed (char n) = true
well_formed (mark n) = false

-- U+FFFD, the replacement character
abbrev pub replacement : List ℕ
replacement = 0xEF ∷ 0xBF ∷ 0xBD ∷ []

-- what it becomes in the lossy text
abbrev pub becomes : Step → List ℕ → List ℕ
becomes ends s = []
becomes (char n) s = take n s
becomes (mark n) s = replacement

-- Step after step, as many as are counted down: `turn` makes something of a step, the bytes that it stands in front of, and
-- what comes of the bytes behind it.
unfoldable pub by_steps : {A : Type 0} → (Step → List ℕ → A → A) → A → ℕ → List ℕ → A
by_steps turn end zero s = end
by_steps turn end (suc left) s = turn (step s) s (by_steps turn end left (drop (step_size (step s)) s))

-- A step takes at least one byte, so there are no more steps than bytes.

-- The bytes are well-formed UTF-8: every step is.
unfoldable pub is_utf8 : List ℕ → Bool
is_utf8 s = by_steps (λ x t others. well_formed x && others) true (length s) s

-- The bytes with each maximal subpart of an ill-formed sequence replaced ("U+FFFD Substitution of Maximal Subparts").
unfoldable pub lossy : List ℕ → List ℕ
lossy s = by_steps (λ x t others. becomes x t ++ others) [] (length s) s

-- The same bytes, and the same lossy text.
unfoldable pub same_bytes : List ℕ → List ℕ → Bool
same_bytes [] [] = true
same_bytes [] (b ∷ t) = false
same_bytes (a ∷ s) [] = false
same_bytes (a ∷ s) (b ∷ t) = eqb a b && same_bytes s t

unfoldable pub same_text : List ℕ → List ℕ → Bool
same_text s t = same_bytes (lossy s) (lossy t)
