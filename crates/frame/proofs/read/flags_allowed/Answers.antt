-- `frame::read::flags_allowed` meets its contract: the first of the two, or the second.
use mathlib.Core.Path.{sym, ◌∙◌}
use lib.Dec.{eqb}
use borrow.Author.Tests.{eq-eqb, ne_eqb}
use Rattle.answer.proofs.Records.{some_here, some_later}
use Rattle.frame.proofs.Heads.{some_one}
use Rattle.frame.proofs.read.flags_allowed.Goals as goal

pub returns-then-flags-eq1 : goal.returns-then-flags-eq1
returns-then-flags-eq1 c = eq-eqb _ 1 c.if-flags-eq1.true ∙ sym (some_here (eqb _) 1 _ (eq-eqb _ 1 c.if-flags-eq1.true))

pub returns-else-flags-eq1 : goal.returns-else-flags-eq1
returns-else-flags-eq1 c = sym (some_later (eqb _) 1 _ (ne_eqb _ 1 c.if-flags-eq1.false) ∙ some_one (eqb _) 3)
