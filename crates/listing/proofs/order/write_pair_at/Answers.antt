-- `listing::order::write_pair_at` meets its contract: its table does not have the pair, or its line is what `write_pair_line` writes.
use mathlib.Core.Path.{refl, sym, ap}
use Prim.Native.Nat.{◌+◌, ◌*◌}
use native.Mathlib.Omega.{arith}
use lib.ListN.{length}
use borrow.Author.Tests.{lt-leb}
use Rattle.answer.specs.Writes.{refusal_said}
use Rattle.answer.proofs.Output.{writes_refusal}
use Rattle.frame.specs.Records.{pair_width}
use Rattle.listing.proofs.order.write_pair_at.Goals as goal

pub returns-then-pairs-k : goal.returns-then-pairs-k
returns-then-pairs-k c = let a = c.args in
    (_, refl, writes_refusal c.at.result a.out.now (rw (lt-leb ((a.place.pairs + 1) * pair_width) (length a.pairs.now) (omega (arith, c.if-pairs-k.true))) (sym (ap refusal_said c.at.ensures))))
