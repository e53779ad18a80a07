-- `types::write::string_fits` meets its contract: the length number is compared with what the bytes leave of the room.
use Rattle.std.proofs.Common.{◌∙◌, sym, length, arith}
use borrow.Author.Tests.{le-leb, lt-leb}
use Rattle.varint.proofs.Writing.{length_most}
use Rattle.types.specs.Form.{string_bytes}
use Rattle.types.proofs.Writing.{string_length, rest_fits}
use Rattle.types.proofs.write.string_fits.Goals as goal

pub returns-then-room-len-ge10 : goal.returns-then-room-len-ge10
returns-then-room-len-ge10 c =
    let a = c.args in
    let text = a.text.now in
    le-leb _ _ c.if-room-len-ge10.true
    ∙ sym (le-leb (length (string_bytes text)) a.room (omega (arith, string_length text, length_most (length text))))

pub returns-else-room-len-ge10 : goal.returns-else-room-len-ge10
returns-else-room-len-ge10 c =
    let text = c.args.text.now in
    rest_fits c.varint_len.result (length text) (length (string_bytes text)) c.args.room (omega (arith, c.varint_len.ensures, string_length text)) c.if-len-room.true

pub returns-else-len-room : goal.returns-else-len-room
returns-else-len-room c =
    let text = c.args.text.now in
    lt-leb _ _ c.if-len-room.false ∙ sym (lt-leb (length (string_bytes text)) c.args.room (omega (arith, string_length text)))
