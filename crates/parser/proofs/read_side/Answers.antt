-- `parser::read_side` meets its contract: a wait and an oversize frame are the cut's and leave the tables, and else the frame that was cut out answers and fills them.
use Rattle.std.proofs.Common.{sym}
use Rattle.std.proofs.lemmas.Result.{err_from_is_err_and}
use lib.Seq.{length-take-le}
use Rattle.frame.proofs.Cutting.{cut_out}
use Rattle.payload.specs.Promise.{rooms_of}
use Rattle.frame.specs.Read.{sender}
use Rattle.parser.specs.Frame.{framed}
use Rattle.parser.proofs.Frames.{frame_on}
use Rattle.parser.proofs.Calls.{unread, stop_tells, stop_unread}
use Rattle.parser.proofs.read_side.Goals as goal

pub returns-in_err-end : goal.returns-in_err-end
returns-in_err-end c =
    let a = c.args in
    let rooms = rooms_of a.messages.now a.pairs.now a.actions.now in
    let e = c.in_err-end.field-0.0 in
    let p = err_from_is_err_and c.from_residual.result c.from_residual.ensures.1 in
    rw (p.1, p.2)
    (unread _ _ _ _ _ _ (frame_on a.side a.limit rooms a.input.now (sym c.in_err-end.ensures)) (stop_unread (framed (sender a.side) rooms) e)
    (stop_tells (framed (sender a.side) rooms) e))

pub slice_bounds-read_whole-end : goal.slice_bounds-read_whole-end
slice_bounds-read_whole-end c = let a = c.args in sym (length-take-le _ _ (cut_out a.limit a.input.now (sym c.in_ok-end.ensures)).all)

pub returns : goal.returns
returns c =
    let a = c.args in
    let rooms = rooms_of a.messages.now a.pairs.now a.actions.now in
    rw (frame_on a.side a.limit rooms a.input.now (sym c.in_ok-end.ensures)) c.read_whole.ensures
