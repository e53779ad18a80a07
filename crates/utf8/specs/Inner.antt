-- What only private contracts cite: the code's own types in the definitions' terms, and what its shorter ways over a text are to come to.
-- No public promise rests on anything in this file.
use Rattle.std.specs.Prelude.{◌≡◌, Bool, true, false, ◌&&◌, ◌⊎◌, List, [], ◌∷◌, ◌++◌, ℕ, ◌+◌, ◌-◌, ◌≤◌, ◌<◌, ltb, length, take, drop, get_or}
use Rattle.std.specs.Prelude.{Option, Some, None}
use Rattle.utf8.specs.declared.rows.Range as g
use Rattle.utf8.specs.declared.rows.Row as r
use Rattle.utf8.specs.declared.step.Step as t
use Rattle.utf8.specs.declared.step.Step.TheVariants as s
use Rattle.utf8.specs.Text.{Range, ◌to◌, Row, row, Led, unused, led, Step, ends, char, mark, step_size, well_formed, becomes, is_utf8, lossy, same_text}

-- a range and a row of the code's table
abbrev pub as_range : g.Range → Range
as_range x = x.low to x.high

abbrev pub as_row : r.Row → Row
as_row x = row (as_range x.lead) (as_range x.second) x.bytes

-- what the code saw at the front of some bytes
abbrev pub seen : t.Step → Step
seen s.End = ends
seen (s.Char n) = char n
seen (s.Mark n) = mark n

-- the row that it found for a first byte
abbrev pub led_by : Option r.Row → Led
led_by None = unused
led_by (Some x) = led (as_row x)

-- ---- ASCII

unfoldable pub ascii : List ℕ → Bool
ascii [] = true
ascii (b ∷ s) = ltb b 128 && ascii s

-- the first n bytes are there and are ASCII
pub record AsciiTo (s : List ℕ) (n : ℕ) : Type 0 where
  pub there : n ≤ length s
  pub are : ascii (take n s) ≡ true

-- ---- several bytes at once

-- As a step does, x takes some bytes off the front of s, and says what they become.
pub record Advances (s : List ℕ) (x : Step) : Type 0 where
  pub text : lossy s ≡ becomes x s ++ lossy (drop (step_size x) s)
  pub well : is_utf8 s ≡ well_formed x && is_utf8 (drop (step_size x) s)
  pub there : step_size x ≤ length s
  pub moves : 1 ≤ length s → 1 ≤ step_size x

-- ---- each byte beside the three before it

-- What d has to be behind a, b and c: a byte of its own where none of them wants one of 80 to BF, and else such a one, in the
-- narrower range that some first bytes want.
pub record Fits (a b c d : ℕ) : Type 0 where
  pub lead : a < 0xF0 → b < 0xE0 → c < 0xC0 → (d < 0x80) ⊎ ((0xC2 ≤ d) × (d ≤ 0xF4))
  pub second : 0xC0 ≤ c → (0x80 ≤ d) × (d ≤ 0xBF)
  pub third : 0xE0 ≤ b → (0x80 ≤ d) × (d ≤ 0xBF)
  pub fourth : 0xF0 ≤ a → (0x80 ≤ d) × (d ≤ 0xBF)
  pub after_e0 : c ≡ 0xE0 → 0xA0 ≤ d
  pub after_ed : c ≡ 0xED → d ≤ 0x9F
  pub after_f0 : c ≡ 0xF0 → 0x90 ≤ d
  pub after_f4 : c ≡ 0xF4 → d ≤ 0x8F

-- the fourth byte from i on fits the three before it
abbrev pub FitsAt : List ℕ → ℕ → Type 0
FitsAt s i = Fits (get_or s i 0) (get_or s (i + 1) 0) (get_or s (i + 2) 0) (get_or s (i + 3) 0)

-- so does each from an i below n on
abbrev pub FitTo : List ℕ → ℕ → Type 0
FitTo s n = (i : ℕ) → i < n → FitsAt s i

-- the first three fit, with nothing before them
pub record FirstFit (s : List ℕ) : Type 0 where
  pub one : Fits 0 0 0 (get_or s 0 0)
  pub two : Fits 0 0 (get_or s 0 0) (get_or s 1 0)
  pub three : Fits 0 (get_or s 0 0) (get_or s 1 0) (get_or s 2 0)

-- and none of the last three wants a byte behind them
pub record EndsWhole (s : List ℕ) : Type 0 where
  pub one : get_or s (length s - 1) 0 < 0xC0
  pub two : get_or s (length s - 2) 0 < 0xE0
  pub three : get_or s (length s - 3) 0 < 0xF0

-- ---- two texts

-- The texts differ; or they start in the same way, with m bytes of the first and n of the second, and are the same exactly
-- where what is left of them is.
abbrev pub Walks : List ℕ → List ℕ → Option (ℕ × ℕ) → Type 0
Walks s t None = same_text s t ≡ false
Walks s t (Some (m, n)) = (same_text s t ≡ same_text (drop m s) (drop n t)) × (m ≤ length s) × (n ≤ length t) × (1 ≤ length s → 1 ≤ m)
