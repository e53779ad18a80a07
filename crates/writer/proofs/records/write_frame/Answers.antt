-- `writer::records::write_frame` meets its contract: the frame is begun, and the records are written into the tail behind its head.
use Rattle.std.proofs.Common.{arith}
use Rattle.std.proofs.lemmas.Result.{err_from_is_err_and}
use Rattle.answer.proofs.Records.{records_start}
use Rattle.writer.proofs.Begun.{begun_refused, begun_done, begun_start, begun_room, begun_most, begun_whole}
use Rattle.writer.proofs.records.write_frame.Goals as goal

pub returns-in_err-start : goal.returns-in_err-start
returns-in_err-start g c =
    let a = c.args in
    let p = err_from_is_err_and c.from_residual.result c.from_residual.ensures.1 in
    rw (p.1, p.2) (begun_refused a.limit a.head _ a.len c.requires.len_value _ c.in_err-start.ensures)

pub slice_bounds-put_records-count : goal.slice_bounds-put_records-count
slice_bounds-put_records-count g c =
    let a = c.args in begun_start (begun_done a.limit a.head _ a.len c.requires.len_value _ c.in_ok-start.ensures)

pub slice_bounds-put_records-start : goal.slice_bounds-put_records-start
slice_bounds-put_records-start g c = slice_bounds-put_records-count g c

pub put_records-requires-clause-room : goal.put_records-requires-clause-room
put_records-requires-clause-room g c =
    let a = c.args in
    rw (records_start (g.R.Records.at a.list.now) a.count) (begun_room (begun_done a.limit a.head _ a.len c.requires.len_value _ c.in_ok-start.ensures))

pub overflow_add-result : goal.overflow_add-result
overflow_add-result g c =
    let a = c.args in omega (arith, begun_most (begun_done a.limit a.head _ a.len c.requires.len_value _ c.in_ok-start.ensures), c.well_formed)

pub returns : goal.returns
returns g c =
    let a = c.args in
    begun_whole (begun_done a.limit a.head _ a.len c.requires.len_value _ c.in_ok-start.ensures) _
    (rw (records_start (g.R.Records.at a.list.now) a.count) at c.put_records.ensures.out_after)
