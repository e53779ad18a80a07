-- `utf8::replace::lossy_text` meets its contract: a text that is surely well-formed is its own lossy text, and else the steps write it.
use mathlib.Core.Path.{refl}
use Rattle.answer.proofs.Output.{writes_all}
use Rattle.utf8.proofs.Lossy.{lossy_same}
use Rattle.utf8.proofs.replace.lossy_text.Goals as goal

pub returns-then-surely_utf8 : goal.returns-then-surely_utf8
returns-then-surely_utf8 c =
    let bytes = c.args.bytes.now in
    rw (lossy_same bytes (c.surely_utf8.ensures c.if-surely_utf8.true)) (writes_all bytes _ _ _ c.if-bytes-out.true refl c.copy.ensures)
