-- `writer::pair::put_pair` meets its contract: the key, and the value in the tail behind it.
use Rattle.std.proofs.Common.{◌≤◌, ◌++◌, List, ℕ, length, length-append, arith}
use Rattle.answer.proofs.Parts.{both_room, both_count, both_leaves}
use Rattle.types.specs.Form.{string_bytes, value_bytes}
use Rattle.types.specs.Promise.{record_of}
use Rattle.frame.specs.declared.Pair.{Pair}
use Rattle.frame.specs.Records.{key_of}
use Rattle.writer.specs.Pair.{pair_bytes}
use Rattle.writer.proofs.Pairs.{pair_bytes_lem, value_count, value_leaves}
use Rattle.writer.proofs.pair.put_pair.Goals as goal

-- there is room for the key and the value
both : (buffer : List ℕ) (p : Pair) (old : List ℕ) → length (pair_bytes buffer p) ≤ length old
    → length (string_bytes (key_of buffer p) ++ value_bytes buffer (record_of p.value)) ≤ length old
both buffer p old room = rw (pair_bytes_lem buffer p) at room

pub put_text-n-requires-clause-room : goal.put_text-n-requires-clause-room
put_text-n-requires-clause-room c =
    let a = c.args in
    omega (arith, both a.buffer.now a.pair a.out.now c.requires.pair_in_bounds, length-append (string_bytes (key_of a.buffer.now a.pair)) (value_bytes a.buffer.now (record_of a.pair.value)))

pub returns-clause-value : goal.returns-clause-value
returns-clause-value c =
    let a = c.args in
    let n = c.put_text-n.ensures in
    let f = c.requires.formed in
    let room = both a.buffer.now a.pair a.out.now c.requires.pair_in_bounds in
    let front = string_bytes (key_of a.buffer.now a.pair) in
    let rest = value_bytes a.buffer.now (record_of a.pair.value) in
    let fit = both_room front rest a.out.now _ _ n.value n.out_after room in
    rw (pair_bytes_lem a.buffer.now a.pair)
    (both_count front rest a.out.now _ _ n.value n.out_after room _ (value_count a.buffer.now a.pair.value c.write_value.ensures c.wrote.ensures f.fields f.range fit))

pub returns-clause-out_after : goal.returns-clause-out_after
returns-clause-out_after c =
    let a = c.args in
    let n = c.put_text-n.ensures in
    let f = c.requires.formed in
    let room = both a.buffer.now a.pair a.out.now c.requires.pair_in_bounds in
    let front = string_bytes (key_of a.buffer.now a.pair) in
    let rest = value_bytes a.buffer.now (record_of a.pair.value) in
    let fit = both_room front rest a.out.now _ _ n.value n.out_after room in
    rw (pair_bytes_lem a.buffer.now a.pair)
    (both_leaves front rest a.out.now _ _ n.value n.out_after room _ (value_leaves a.buffer.now a.pair.value c.write_value.ensures c.wrote.ensures f.fields f.range fit))
