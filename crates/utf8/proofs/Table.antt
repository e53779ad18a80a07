-- The definition's table as the code has it, for the loop that reads it row by row.
use mathlib.Core.Path.{◌≡◌, refl, sym, ap, ◌∙◌}
use mathlib.Core.List.{List, ◌∷◌, map}
use Prim.Native.Nat.{ℕ, suc, ◌+◌, ◌<◌}
use native.Mathlib.Numerals.{add-one}
use lib.ListN.{drop, get_or, get_or-map}
use lib.Seq.{drop-cons}
use Rattle.utf8.specs.declared.rows.Row as r
use Rattle.utf8.specs.Text.{◌to◌, Row, row, rows}
use Rattle.utf8.specs.Inner.{as_row}

-- a row of the definition, as the code has it
abbrev pub in_code : Row → r.Row
in_code (row (a to b) (c to d) n) = record { lead = record { low = a; high = b }; second = record { low = c; high = d }; bytes = n }

abbrev pub no_row : Row
no_row = row (0 to 0) (0 to 0) 0

-- The code's table has no name here: `lead_row`'s proof holds it to this list, by computing, where a row is read.
abbrev pub code_rows : List r.Row
code_rows = map in_code rows

same_row : (x : Row) → as_row (in_code x) ≡ x
same_row (row (a to b) (c to d) n) = refl

-- What is left of the table starts with row i of that list: a row comes back from the code's form as it was.
pub row_at_lem : (i : ℕ) → i < 9 → drop i rows ≡ as_row (get_or code_rows i (in_code no_row)) ∷ drop (i + 1) rows
unfolding rows
row_at_lem i h =
    rw (add-one, drop-cons rows i no_row h)
    (ap (λ (x : Row). x ∷ drop (suc i) rows) (sym (ap as_row (get_or-map in_code rows i no_row) ∙ same_row (get_or rows i no_row))))
