-- `listing::parts::write_line` meets its contract. The first loop's invariant: the room that is left is what the parts so far leave. The second's: the
-- line is partly written, and what is left to write are the parts that are left.
use mathlib.Core.Path.{◌≡◌}
use Prim.Native.Nat.{◌+◌}
use lib.ListN.{length, drop}
use Rattle.answer.specs.Table.{joined}
use Rattle.answer.proofs.Output.{Partly}
use Rattle.listing.specs.Inner.{text_of}
use Rattle.listing.proofs.parts.write_line.Given as goal

abbrev pub invariant-loop-part : goal.invariant-loop-part
invariant-loop-part l = l.room + length (joined text_of l.parts) ≡ length l.out + length (joined text_of (drop l.part-index l.parts))

abbrev pub invariant-loop-part-2 : goal.invariant-loop-part-2
invariant-loop-part-2 l = Partly (joined text_of l.parts) l.initial.out l.at (joined text_of (drop l.part-index l.parts)) l.out
