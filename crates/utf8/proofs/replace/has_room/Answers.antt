-- `utf8::replace::has_room` meets its contract: a lossy text is at most three times as long as its bytes, and else the steps are measured.
use Rattle.std.proofs.Common.{length, ◌/◌, arith, sym, ◌∙◌}
use native.Mathlib.Nat.{div-add-mod'}
use borrow.Author.Tests.{le-leb}
use Rattle.utf8.specs.Text.{lossy}
use Rattle.utf8.proofs.Lossy.{lossy_length}
use Rattle.utf8.proofs.replace.has_room.Goals as goal

pub returns-then-bytes-room : goal.returns-then-bytes-room
returns-then-bytes-room c =
    let bytes = c.args.bytes.now in
    let h = c.if-bytes-room.true in
    le-leb (length bytes) (c.args.room / 3) h
    ∙ sym (le-leb (length (lossy bytes)) c.args.room (omega (arith, lossy_length bytes, div-add-mod' c.args.room 3)))
