-- `writer::kv::write_kv` meets its contract: the metadata, the count, the records one by one, and then the frame.
use borrow.Author.Rules.{rules}
use Rattle.std.proofs.lemmas.Result.{err_from_is_err_and}
use Rattle.frame.specs.Records.{pair_width}
use Rattle.writer.specs.Pair.{kv_checks}
use Rattle.writer.specs.Frame.{head_of, kv_allowed}
use Rattle.writer.proofs.Answers.{kv_list, list_unwritable, list_outside, list_refused, list_passed}
use Rattle.writer.proofs.kv.write_kv.Goals as goal

pub returns-in_default : goal.returns-in_default
returns-in_default c =
    let a = c.args in
    let h = head_of a.frame_type a.fin a.abort a.stream_id a.frame_id in
    list_unwritable (kv_allowed h) pair_width a.pairs.now a.pair_count (kv_checks a.buffer.now a.pairs.now) _ (kv_list h a.limit a.buffer.now a.pairs.now a.pair_count) a.out.now
    (search rules) c.at.ensures

pub returns-in_err-count : goal.returns-in_err-count
returns-in_err-count c =
    let a = c.args in
    let h = head_of a.frame_type a.fin a.abort a.stream_id a.frame_id in
    let p = err_from_is_err_and c.from_residual.result c.from_residual.ensures.1 in
    rw (p.1, p.2)
    (list_outside (kv_allowed h) pair_width a.pairs.now a.pair_count (kv_checks a.buffer.now a.pairs.now) _ (kv_list h a.limit a.buffer.now a.pairs.now a.pair_count) a.out.now
    (search rules) c.in_err-count.ensures)

pub returns-in_err-len : goal.returns-in_err-len
returns-in_err-len c =
    let a = c.args in
    let h = head_of a.frame_type a.fin a.abort a.stream_id a.frame_id in
    let r = c.from_residual-in_err-len in
    let p = err_from_is_err_and r.result r.ensures.1 in
    rw (p.1, p.2)
    (list_refused (kv_allowed h) pair_width a.pairs.now a.pair_count (kv_checks a.buffer.now a.pairs.now) _ (kv_list h a.limit a.buffer.now a.pairs.now a.pair_count) a.out.now
    (search rules) c.in_ok-count.ensures c.in_err-len.ensures)

pub returns : goal.returns
returns c =
    let a = c.args in
    let h = head_of a.frame_type a.fin a.abort a.stream_id a.frame_id in
    rw (list_passed (kv_allowed h) pair_width a.pairs.now a.pair_count (kv_checks a.buffer.now a.pairs.now) _ (kv_list h a.limit a.buffer.now a.pairs.now a.pair_count) a.out.now
    (search rules) c.in_ok-count.ensures c.in_ok-len.ensures.0)
    (rw (c.head_of-head.ensures, c.in-Some.ensures.0, c.in_ok-count.ensures.0) at c.write_frame.ensures)
