-- `writer::cap` meets its contract: a case for each side of the limit.
use Rattle.std.proofs.Common.{arith}
use mathlib.Core.Logic.{⊎_elim}
use Rattle.answer.proofs.Cases.{lt_or_le}
use Rattle.writer.proofs.Capped.{capped_in, capped_over}
use Rattle.writer.proofs.cap.Goals as goal

pub returns : goal.returns
returns c =
    let a = c.args in
    ⊎_elim (λ h. omega (arith, capped_over a.most a.n h, c.min.ensures)) (λ h. omega (arith, capped_in a.most a.n h, c.min.ensures)) (lt_or_le a.most a.n)
