-- `listing::digits::put_shown` meets its contract: a dash, or two digits for each byte. The loop's invariant: the digits are partly written, and
-- what is left to write are those of the bytes that are left. Each turn writes two.
use lib.ListN.{drop}
use Rattle.answer.specs.Table.{joined}
use Rattle.answer.proofs.Output.{Partly}
use Rattle.listing.specs.Digits.{hex_pair, shown}
use Rattle.listing.proofs.digits.put_shown.Given as goal

abbrev pub invariant-loop-byte : goal.invariant-loop-byte
invariant-loop-byte l = Partly (shown l.bytes) l.initial.out l.at (joined hex_pair (drop l.byte-index l.bytes)) l.out
