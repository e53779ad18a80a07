-- `parser::look_whole` meets its contract: a refusal of the head is the frame's, and else the payload answers.
use Rattle.std.proofs.Common.{refl, sym, Ok, Err}
use Rattle.std.proofs.lemmas.Result.{err_from_is_err_and}
use Rattle.frame.specs.declared.Stop.TheVariants as stop
use Rattle.parser.proofs.Unique.{frame_done}
use Rattle.frame.specs.Read.{sender}
use Rattle.parser.proofs.Frames.{framed_refused}
use Rattle.parser.proofs.Calls.{whole_says}
use Rattle.parser.proofs.look_whole.Goals as goal

pub returns-in_err-head : goal.returns-in_err-head
returns-in_err-head c =
    let a = c.args in
    let p = err_from_is_err_and c.from_residual.result c.from_residual.ensures.1 in
    rw (p.1, p.2) (rw (framed_refused (sender a.side) a.rooms a.f.now _ _ (sym c.in_err-head.ensures)))

pub returns-in_err-counts : goal.returns-in_err-counts
returns-in_err-counts c =
    let a = c.args in
    let p = err_from_is_err_and c.from_residual-in_err-counts.result c.from_residual-in_err-counts.ensures.1 in
    rw (p.1, p.2) (whole_says (sender a.side) a.rooms a.f.now _ _ (sym c.in_ok-head.ensures) _ c.payload_of-kind.ensures (Err (stop.Refused c.in_err-counts.field-0.0)) (Err c.in_err-counts.field-0.0) refl c.in_err-counts.ensures)

pub returns : goal.returns
returns c =
    let a = c.args in
    whole_says (sender a.side) a.rooms a.f.now _ _ (sym c.in_ok-head.ensures) _ c.payload_of-kind.ensures (frame_done c.in_ok-head.field-0.value c.in_ok-counts.field-0.value c.in_ok-counts.field-0.used) (Ok c.in_ok-counts.field-0) refl c.in_ok-counts.ensures
