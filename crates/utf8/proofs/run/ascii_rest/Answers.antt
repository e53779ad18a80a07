-- `utf8::run::ascii_rest` meets its contract: what is known to be ASCII reaches to where the last test starts, and a no promises
-- nothing.
use Rattle.std.proofs.Common.{◌-◌, length, arith, sym, ◌∙◌}
use Rattle.answer.proofs.Cases.{both_true}
use Rattle.answer.proofs.Output.{lent_tail_lem}
use Rattle.utf8.proofs.Ascii.{ascii_to_end, ascii_few}
use Rattle.utf8.proofs.run.ascii_rest.Goals as goal

pub returns-then-from-n : goal.returns-then-from-n
returns-then-from-n c = λ t.
    let bytes = c.args.s.now in
    let long = c.if-len-ge32.true in
    ascii_to_end bytes c.args.n (length bytes - 32) 32 c.requires c.if-from-n.true (omega arith) (rw (lent_tail_lem (length bytes - 32) bytes) at (sym c.all_ascii.ensures ∙ t))

pub returns-then-from-n-2 : goal.returns-then-from-n-2
returns-then-from-n-2 c = λ t.
    let bytes = c.args.s.now in
    let long = c.if-len-ge8.true in
    ascii_to_end bytes c.args.n (length bytes - 8) 8 c.requires c.if-from-n-2.true (omega arith) (rw (lent_tail_lem (length bytes - 8) bytes) at (sym c.all_ascii-then-from-n-2.ensures ∙ t))

pub returns-then-len-ge4 : goal.returns-then-len-ge4
returns-then-len-ge4 c = λ t.
    let bytes = c.args.s.now in
    let long = c.if-len-ge4.true in
    let short = c.if-len-ge8.false in
    let both = both_true c.all_ascii-then-len-ge4.result c.all_ascii-then-len-ge4-2.result t in
    ascii_few bytes (length bytes - 4) (omega arith) (omega arith) (sym c.all_ascii-then-len-ge4.ensures ∙ both.0)
    (rw (lent_tail_lem (length bytes - 4) bytes) at (sym c.all_ascii-then-len-ge4-2.ensures ∙ both.1))
