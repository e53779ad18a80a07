-- `writer::action::write_actions` meets its contract: the metadata, the count, the records one by one, and then the frame.
use borrow.Author.Rules.{rules}
use Rattle.std.proofs.Common.{ℕ, Bool}
use Rattle.std.proofs.lemmas.Result.{err_from_is_err_and}
use Rattle.frame.specs.declared.Head.{Head}
use Rattle.frame.specs.Records.{action_width}
use Rattle.writer.specs.Frame.{head_of, fin_alone}
use Rattle.writer.specs.Inner.{action_order}
use Rattle.writer.proofs.Answers.{actions_list, list_unwritable, list_outside, list_refused, list_passed}
use Rattle.writer.proofs.action.write_actions.Goals as goal

-- the head that is asked for, and the frame
abbrev ack : Bool → Bool → ℕ → ℕ → Head
ack fin abort stream frame = head_of 103 fin abort stream frame

pub returns-then-not-fin_alone : goal.returns-then-not-fin_alone
returns-then-not-fin_alone c =
    let a = c.args in
    let h = ack a.fin a.abort a.stream_id a.frame_id in
    list_unwritable (fin_alone h) action_width a.actions.now a.action_count (action_order a.buffer.now a.actions.now) _ (actions_list h a.limit a.buffer.now a.actions.now a.action_count) a.out.now
    (search rules) c.at.ensures

pub returns-in_err-count : goal.returns-in_err-count
returns-in_err-count c =
    let a = c.args in
    let h = ack a.fin a.abort a.stream_id a.frame_id in
    let p = err_from_is_err_and c.from_residual.result c.from_residual.ensures.1 in
    rw (p.1, p.2)
    (list_outside (fin_alone h) action_width a.actions.now a.action_count (action_order a.buffer.now a.actions.now) _ (actions_list h a.limit a.buffer.now a.actions.now a.action_count) a.out.now
    (search rules) c.in_err-count.ensures)

pub returns-in_err-len : goal.returns-in_err-len
returns-in_err-len c =
    let a = c.args in
    let h = ack a.fin a.abort a.stream_id a.frame_id in
    let r = c.from_residual-in_err-len in
    let p = err_from_is_err_and r.result r.ensures.1 in
    rw (p.1, p.2)
    (list_refused (fin_alone h) action_width a.actions.now a.action_count (action_order a.buffer.now a.actions.now) _ (actions_list h a.limit a.buffer.now a.actions.now a.action_count) a.out.now
    (search rules) c.in_ok-count.ensures c.in_err-len.ensures)

pub returns : goal.returns
returns c =
    let a = c.args in
    let h = ack a.fin a.abort a.stream_id a.frame_id in
    rw (list_passed (fin_alone h) action_width a.actions.now a.action_count (action_order a.buffer.now a.actions.now) _ (actions_list h a.limit a.buffer.now a.actions.now a.action_count) a.out.now
    (search rules) c.in_ok-count.ensures c.in_ok-len.ensures.0)
    (rw (c.head_of-head.ensures, c.in_ok-count.ensures.0) at c.write_frame.ensures)
