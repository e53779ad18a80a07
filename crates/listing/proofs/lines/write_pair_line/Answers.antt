-- `listing::lines::write_pair_line` meets its contract: the pair is refused, or its line is written.
use mathlib.Core.Path.{sym}
use Rattle.answer.specs.Answer.{written}
use Rattle.answer.specs.Inner.{Passes}
use Rattle.answer.specs.Table.{joined}
use Rattle.answer.proofs.Order.{passes_zero, lines_pass}
use Rattle.listing.specs.Lines.{filled, pair_line}
use Rattle.listing.specs.Check.{pair_line_checks}
use Rattle.listing.proofs.Pieces.{line_refused}
use Rattle.listing.proofs.lines.write_pair_line.Goals as goal
use Rattle.listing.proofs.lines.write_pair_line.Goals.{In_default}

passed : (c : In_default) → let a = c.args in Passes (pair_line_checks a.frame.now a.pair)
passed c = passes_zero _ tt (sym c.in_default.ensures)

pub returns-in-Err : goal.returns-in-Err
returns-in-Err c = line_refused _ _ _ c.in-Err.ensures c.at.ensures

pub part-requires : goal.part-requires
part-requires c = (passed ((goal.at.part-requires c).In_default)).1.0

pub value_text-requires : goal.value_text-requires
value_text-requires c = let p = passed ((goal.at.value_text-requires c).In_default) in record { fields = p.0; range = p.1.1.0 }

pub returns : goal.returns
unfolding joined filled pair_line
returns c =
    let a = c.args in
    rw (lines_pass _ (passed ((goal.at.returns c).In_default)) 0 (written (pair_line a.index a.frame.now a.pair)))
    (rw (c.part.ensures, c.value_text.ensures) at c.write_line.ensures)
