-- `utf8::well::surely_utf8` meets its contract: all is ASCII, or what stands behind it is well-formed.
use Rattle.std.proofs.Common.{◌∙◌}
use Rattle.answer.proofs.Output.{lent_tail_lem}
use Rattle.utf8.proofs.Ascii.{ascii_behind, ascii_all}
use Rattle.utf8.proofs.well.surely_utf8.Goals as goal

pub returns-then-n-bytes : goal.returns-then-n-bytes
returns-then-n-bytes c = λ t. ascii_all _ _ c.ascii_front-n.ensures c.if-n-bytes.true

pub returns-else-n-bytes : goal.returns-else-n-bytes
returns-else-n-bytes c = λ t.
    let s = c.args.bytes.now in
    let n = c.ascii_front-n.result in
    ascii_behind s n c.ascii_front-n.ensures ∙ rw (lent_tail_lem n s) at (c.all_fit.ensures t)
