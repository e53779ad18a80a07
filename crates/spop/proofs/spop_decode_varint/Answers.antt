-- `spop::spop_decode_varint` meets its contract: each case of the reader's answer is told as it is.
use mathlib.Core.Path.{sym, ap, ◌∙◌}
use Rattle.answer.specs.Writes.{read_said}
use Rattle.spop.proofs.Telling.{told_done, told_refused}
use Rattle.spop.proofs.spop_decode_varint.Goals as goal

pub returns-in-Ok : goal.returns-in-Ok
returns-in-Ok c = let d = c.decode_varint.ensures in (told_done (λ n. n) _ (sym d.says ∙ ap read_said c.in-Ok.is), d.exact)

pub returns-in-Err : goal.returns-in-Err
returns-in-Err c =
    let d = c.decode_varint.ensures in
    (told_refused (λ n. n) _ (sym d.says ∙ ap read_said c.in-Err.is) c.refuse.ensures, d.exact)
