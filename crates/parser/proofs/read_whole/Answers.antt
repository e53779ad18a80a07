-- `parser::read_whole` meets its contract: a refusal of the head is the frame's and leaves the tables, and else the payload answers and fills them.
use Rattle.std.proofs.Common.{refl, sym, ap, Ok, Err}
use Rattle.std.proofs.lemmas.Result.{err_from_is_err_and}
use Rattle.frame.specs.declared.Stop.TheVariants as stop
use Rattle.parser.proofs.Unique.{frame_done}
use Rattle.frame.specs.Read.{answered, sender}
use Rattle.payload.specs.Promise.{rooms_of}
use Rattle.parser.proofs.Frames.{framed_refused}
use Rattle.parser.proofs.Calls.{unread, whole_fills}
use Rattle.parser.proofs.read_whole.Goals as goal

pub returns-in_err-head : goal.returns-in_err-head
returns-in_err-head c =
    let a = c.args in
    let rooms = rooms_of a.messages.now a.pairs.now a.actions.now in
    let p = err_from_is_err_and c.from_residual.result c.from_residual.ensures.1 in
    rw (p.1, p.2) (unread _ _ _ _ _ _ (ap answered (framed_refused (sender a.side) rooms a.f.now _ _ (sym c.in_err-head.ensures))) (_, _, refl) refl)

pub returns-in_err-counts : goal.returns-in_err-counts
returns-in_err-counts c =
    let a = c.args in
    let rooms = rooms_of a.messages.now a.pairs.now a.actions.now in
    let p = err_from_is_err_and c.from_residual-in_err-counts.result c.from_residual-in_err-counts.ensures.1 in
    rw (p.1, p.2)
    (whole_fills (sender a.side) rooms a.f.now _ _ (sym c.in_ok-head.ensures) _ c.payload_of-kind.ensures (Err (stop.Refused c.in_err-counts.field-0.0)) (Err c.in_err-counts.field-0.0) refl _ _ _ _ _ _ refl c.in_err-counts.ensures)

pub returns : goal.returns
returns c =
    let a = c.args in
    let rooms = rooms_of a.messages.now a.pairs.now a.actions.now in
    whole_fills (sender a.side) rooms a.f.now _ _ (sym c.in_ok-head.ensures) _ c.payload_of-kind.ensures (frame_done c.in_ok-head.field-0.value c.in_ok-counts.field-0.value c.in_ok-counts.field-0.used) (Ok c.in_ok-counts.field-0) refl _ _ _ _ _ _ refl c.in_ok-counts.ensures
