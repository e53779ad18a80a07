-- `spoplist::end` meets its contract: there is room for the line, so it is not refused.
use Rattle.std.proofs.Common.{arith}
use Rattle.listing.proofs.Fitting.{end_fits}
use Rattle.spoplist.proofs.Standing.{fits_lies}
use Rattle.spoplist.proofs.end.Goals as goal

pub print-requires : goal.print-requires
print-requires g c =
    fits_lies (end_fits _ _ _ _ (omega (arith, c.well_formed)) (omega (arith, c.end_numbers-number.type_inv)) (omega (arith, c.end_numbers-number.type_inv)) (omega arith))
    c.write_end_line.ensures c.write_end_line.auto.out
