-- `writer::notify::put_message` meets its contract: the name with its count byte, and the arguments in the tail behind it.
use Rattle.std.proofs.Common.{◌≡◌, ◌+◌, ◌-◌, ◌≤◌, ◌++◌, List, ℕ, length, length-append, arith}
use Rattle.answer.specs.Table.{records, joined}
use Rattle.answer.proofs.Parts.{both_room, both_count, both_leaves}
use Rattle.frame.specs.declared.Message.{Message}
use Rattle.frame.specs.Records.{pair_at}
use Rattle.writer.specs.Pair.{pair_bytes}
use Rattle.writer.specs.Message.{name_bytes, message_bytes}
use Rattle.writer.proofs.Messages.{message_bytes_lem}
use Rattle.writer.proofs.notify.put_message.Goals as goal

-- the arguments, written
abbrev arguments : List ℕ → List ℕ → Message → List ℕ
arguments buffer pairs m = joined (pair_bytes buffer) (records (pair_at pairs) m.first m.count)

-- there is room for the name and the arguments
both : (buffer pairs : List ℕ) (m : Message) (old : List ℕ) → length (message_bytes buffer pairs m) ≤ length old
    → length (name_bytes buffer m ++ arguments buffer pairs m) ≤ length old
both buffer pairs m old room = rw (message_bytes_lem buffer pairs m) at room

-- as many as the message says
run : (m : Message) → m.first + m.count - m.first ≡ m.count
run m = omega arith

pub put_name-n-requires-clause-message_in_bounds : goal.put_name-n-requires-clause-message_in_bounds
put_name-n-requires-clause-message_in_bounds c =
    let a = c.args in
    let p = a.pairs.now in
    omega (arith, both p.buffer.now p.table.now a.message a.out.now c.requires.message_in_bounds, length-append (name_bytes p.buffer.now a.message) (arguments p.buffer.now p.table.now a.message))

pub put_records-requires-clause-room : goal.put_records-requires-clause-room
put_records-requires-clause-room c =
    let a = c.args in
    let p = a.pairs.now in
    let n = c.put_name-n.ensures in
    rw (run a.message)
    (both_room (name_bytes p.buffer.now a.message) (arguments p.buffer.now p.table.now a.message) a.out.now _ _ n.value n.out_after
    (both p.buffer.now p.table.now a.message a.out.now c.requires.message_in_bounds))

pub returns-clause-value : goal.returns-clause-value
returns-clause-value c =
    let a = c.args in
    let p = a.pairs.now in
    let n = c.put_name-n.ensures in
    rw (message_bytes_lem p.buffer.now p.table.now a.message)
    (both_count (name_bytes p.buffer.now a.message) (arguments p.buffer.now p.table.now a.message) a.out.now _ _ n.value n.out_after
    (both p.buffer.now p.table.now a.message a.out.now c.requires.message_in_bounds) _ (rw (run a.message) at c.put_records.ensures.value))

pub returns-clause-out_after : goal.returns-clause-out_after
returns-clause-out_after c =
    let a = c.args in
    let p = a.pairs.now in
    let n = c.put_name-n.ensures in
    rw (message_bytes_lem p.buffer.now p.table.now a.message)
    (both_leaves (name_bytes p.buffer.now a.message) (arguments p.buffer.now p.table.now a.message) a.out.now _ _ n.value n.out_after
    (both p.buffer.now p.table.now a.message a.out.now c.requires.message_in_bounds) _ (rw (run a.message) at c.put_records.ensures.out_after))
