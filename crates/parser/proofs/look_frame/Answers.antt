-- `parser::look_frame` meets its contract: a wait and an oversize frame are the cut's, and else the frame that was cut out answers.
use Rattle.std.proofs.Common.{sym, ap, ◌∙◌}
use Rattle.std.proofs.lemmas.Result.{err_from_is_err_and}
use lib.Seq.{length-take-le}
use Rattle.frame.specs.declared.Side.TheVariants as side
use Rattle.frame.proofs.Cutting.{cut_out}
use Rattle.frame.specs.Read.{sender}
use Rattle.parser.specs.Frame.{framed}
use Rattle.parser.proofs.Calls.{stop_tells}
use Rattle.parser.specs.Promise.{frame_tells}
use Rattle.parser.proofs.Frames.{frame_on}
use Rattle.parser.proofs.look_frame.Goals as goal

pub returns-in_err-end : goal.returns-in_err-end
returns-in_err-end c =
    let a = c.args in
    let e = c.in_err-end.field-0.0 in
    let p = err_from_is_err_and c.from_residual.result c.from_residual.ensures.1 in
    rw (p.1, p.2) (stop_tells (framed (sender side.HAProxy) a.rooms) e ∙ ap frame_tells (sym (frame_on side.HAProxy a.limit a.rooms a.input.now (sym c.in_err-end.ensures))))

pub slice_bounds-look_whole-end : goal.slice_bounds-look_whole-end
slice_bounds-look_whole-end c = let a = c.args in sym (length-take-le _ _ (cut_out a.limit a.input.now (sym c.in_ok-end.ensures)).all)

pub returns : goal.returns
returns c =
    let a = c.args in
    c.look_whole.ensures
    ∙ ap frame_tells (sym (frame_on side.HAProxy a.limit a.rooms a.input.now (sym c.in_ok-end.ensures)))
