use Rattle.std.proofs.Common.{◌≡◌, true, false, ◌+◌, ◌≤◌, ◌<◌, ℕ, List, drop, get_or, sym, ap, ◌∙◌}
use lib.ListN.{drop_of_length-le}
use Rattle.utf8.specs.declared.rows.Row as r
use Rattle.utf8.specs.Text.{Row, rows, in_range, unused, led, row_for}
use Rattle.utf8.specs.Inner.{as_range, as_row}
use Rattle.utf8.proofs.Table.{in_code, no_row, code_rows, row_at_lem}
use Rattle.utf8.proofs.Stepping.{row_for_none, row_for_past, row_for_here}
use Rattle.utf8.proofs.rows.lead_row.Goals as goal

abbrev row_at : ℕ → r.Row
row_at i = get_or code_rows i (in_code no_row)

-- one row: the byte is not in its range, or is
module _ (b i : ℕ) (h : i < 9) where
  past : in_range (as_range (row_at i).lead) b ≡ false → row_for (drop i rows) b ≡ row_for (drop (i + 1) rows) b
  past e = ap (λ (l : List Row). row_for l b) (row_at_lem i h) ∙ row_for_past _ _ _ _ b e

  here : in_range (as_range (row_at i).lead) b ≡ true → row_for (drop i rows) b ≡ led (as_row (row_at i))
  here e = ap (λ (l : List Row). row_for l b) (row_at_lem i h) ∙ row_for_here _ _ _ _ b e

no_row_lem : (b i : ℕ) → 9 ≤ i → row_for (drop i rows) b ≡ unused
unfolding rows
no_row_lem b i h = ap (λ (l : List Row). row_for l b) (drop_of_length-le rows {i = i} h) ∙ row_for_none b

-- The row that is read is the definition's: this is where the code's table is held to it, by computing.
pub returns-then-contains : goal.returns-then-contains
unfolding rows
returns-then-contains c =
    sym (c.loop-i.invariant ∙ here c.args.lead c.loop-i.i c.loop-i-test.true (sym c.contains.ensures ∙ c.if-contains.true))

pub loop-i-preserved : goal.loop-i-preserved
unfolding rows
loop-i-preserved c = c.loop-i.invariant ∙ past c.args.lead c.loop-i.i c.loop-i-test.true (sym c.contains.ensures ∙ c.if-contains.false)

pub returns : goal.returns
returns c = sym (c.loop-i.invariant ∙ no_row_lem c.args.lead c.loop-i.i c.loop-i-test.false)
