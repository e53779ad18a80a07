-- `utf8::rows::lead_row` meets its contract. The loop's invariant: the rows from `i` on give the row that the whole table gives. A row
-- whose range does not have the byte is passed, and the first that has it is the one, for any row of the table.
use Rattle.std.proofs.Common.{◌≡◌, drop}
use Rattle.utf8.specs.Text.{rows, row_for}
use Rattle.utf8.proofs.rows.lead_row.Given as goal

abbrev pub invariant-loop-i : goal.invariant-loop-i
invariant-loop-i l = row_for rows l.lead ≡ row_for (drop l.i rows) l.lead
