-- `frame::table::record_at` meets its contract: a chunk of the table holds the numbers at its index, and the type's laws say what is made of them.
use Rattle.std.proofs.Common.{sym}
use Rattle.frame.proofs.Records.{chunk_there}
use Rattle.frame.proofs.table.record_at.Goals as goal

pub as_chunks-requires : goal.as_chunks-requires
as_chunks-requires g c = (g.met.R.Record.laws.small, g.met.R.Record.laws.some)

pub returns-in-Some : goal.returns-in-Some
returns-in-Some g c =
    let e = c.in-Some.ensures.lookup in
    let chunk = chunk_there g.row.N c.args.table.now c.as_chunks.ensures.front c.as_chunks.ensures.front_len e.3.0 e.1 in
    g.met.R.Record.laws.has c.args.table.now c.args.i _ chunk.0 (rw (sym chunk.1) c.from.ensures)
