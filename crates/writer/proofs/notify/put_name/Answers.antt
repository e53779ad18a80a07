-- `writer::notify::put_name` meets its contract: the name, and one byte behind it.
use Rattle.std.proofs.Common.{◌≤◌, [], ◌∷◌, ◌++◌, List, ℕ, length, length-append, arith}
use Rattle.answer.proofs.Output.{partly_next, partly_place, partly_count, partly_all}
use Rattle.answer.proofs.Parts.{one_left}
use Rattle.types.specs.Form.{part, string_bytes}
use Rattle.frame.specs.declared.Message.{Message}
use Rattle.writer.specs.Message.{name_bytes}
use Rattle.writer.proofs.Messages.{name_bytes_lem}
use Rattle.writer.proofs.notify.put_name.Goals as goal

-- there is room for the name and the count
both : (buffer : List ℕ) (m : Message) (old : List ℕ) → length (name_bytes buffer m) ≤ length old
    → length (string_bytes (part buffer m.start m.len) ++ (m.count ∷ [])) ≤ length old
both buffer m old room = rw (name_bytes_lem buffer m) at room

pub put_text-n-requires-clause-room : goal.put_text-n-requires-clause-room
put_text-n-requires-clause-room c =
    let a = c.args in
    let m = a.message in
    omega (arith, both a.buffer.now m a.out.now c.requires.message_in_bounds, length-append (string_bytes (part a.buffer.now m.start m.len)) (m.count ∷ []))

pub bounds-out-n : goal.bounds-out-n
bounds-out-n c =
    let a = c.args in
    let n = c.put_text-n.ensures in
    partly_place (one_left _ a.message.count a.out.now _ _ n.value n.out_after (both a.buffer.now a.message a.out.now c.requires.message_in_bounds))

pub returns-clause-value : goal.returns-clause-value
returns-clause-value c =
    let a = c.args in
    let n = c.put_text-n.ensures in
    rw (name_bytes_lem a.buffer.now a.message)
    (partly_count (partly_next (one_left _ a.message.count a.out.now _ _ n.value n.out_after (both a.buffer.now a.message a.out.now c.requires.message_in_bounds))))

pub returns-clause-out_after : goal.returns-clause-out_after
returns-clause-out_after c =
    let a = c.args in
    let n = c.put_text-n.ensures in
    rw (name_bytes_lem a.buffer.now a.message)
    (partly_all (partly_next (one_left _ a.message.count a.out.now _ _ n.value n.out_after (both a.buffer.now a.message a.out.now c.requires.message_in_bounds))))
