-- `types::write::put_string` meets its contract: the length number, and the bytes in the tail behind it.
use native.Mathlib.Omega.{arith}
use lib.ListN.{length}
use Rattle.varint.specs.Number.{number_bytes}
use Rattle.types.proofs.Writing.{string_bytes_lem, string_length}
use Rattle.types.proofs.Output.{puts_wrote, Begun, begun_start, begun_room, begun_both, begun_most}
use Rattle.types.proofs.write.put_string.Goals as goal
use Rattle.types.proofs.write.put_string.Goals.{After-wrote-n}

-- the length number is written, and there is room for the bytes behind it
begun : (c : After-wrote-n)
    → let a = c.args in
    Begun (number_bytes (length a.text.now)) a.text.now a.out.now c.wrote-n.result c.encode_varint.new.out
begun c = record {
  first = puts_wrote (number_bytes (length c.args.text.now)) c.encode_varint.ensures (omega (arith, c.requires, string_length c.args.text.now)) c.wrote-n.ensures;
  room = rw (string_bytes_lem c.args.text.now) at c.requires;
}

pub slice_bounds-put_bytes-count : goal.slice_bounds-put_bytes-count
slice_bounds-put_bytes-count c = begun_start (begun ((goal.at.slice_bounds-put_bytes-count c).After-wrote-n))

pub slice_bounds-put_bytes-start : goal.slice_bounds-put_bytes-start
slice_bounds-put_bytes-start c = begun_start (begun ((goal.at.slice_bounds-put_bytes-start c).After-wrote-n))

pub put_bytes-requires : goal.put_bytes-requires
put_bytes-requires c = begun_room (begun ((goal.at.put_bytes-requires c).After-wrote-n))

pub overflow_add-result : goal.overflow_add-result
overflow_add-result c = omega (arith, begun_most (begun ((goal.at.overflow_add-result c).After-wrote-n)) c.put_bytes.ensures)

pub returns : goal.returns
returns c = rw string_bytes_lem (begun_both (begun ((goal.at.returns c).After-wrote-n)) c.put_bytes.ensures)
