-- `listing::order::write_message_at` meets its contract: its table does not have the message, or its line is what `write_message_line` writes.
use mathlib.Core.Path.{refl, sym, ap}
use Prim.Native.Nat.{◌+◌, ◌*◌}
use native.Mathlib.Omega.{arith}
use lib.ListN.{length}
use borrow.Author.Tests.{lt-leb}
use Rattle.answer.specs.Writes.{refusal_said}
use Rattle.answer.proofs.Output.{writes_refusal}
use Rattle.frame.specs.Records.{message_width}
use Rattle.listing.proofs.order.write_message_at.Goals as goal

pub returns-then-messages-i : goal.returns-then-messages-i
returns-then-messages-i c = let a = c.args in
    (_, refl, writes_refusal c.at.result a.out.now (rw (lt-leb ((a.place.messages + 1) * message_width) (length a.messages.now) (omega (arith, c.if-messages-i.true))) (sym (ap refusal_said c.at.ensures))))
