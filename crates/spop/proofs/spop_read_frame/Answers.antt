-- `spop::spop_read_frame` meets its contract: what the reader answers is told.
use mathlib.Core.List.{[]}
use Rattle.frame.specs.declared.Side.TheVariants as side
use Rattle.payload.specs.Promise.{rooms_of}
use Rattle.parser.specs.Frame.{frame_read}
use Rattle.spop.proofs.spop_read_frame.Goals as goal

pub returns : goal.returns
returns c =
    let a = c.args in
    let e = c.read_frame-answer.ensures in
    record { told = c.tell_side.ensures (frame_read side.HAProxy a.limit (rooms_of a.messages.now a.pairs.now []) a.input.now) e.says; fills = e.fills }
