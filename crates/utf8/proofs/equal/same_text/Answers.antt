use Rattle.std.proofs.Common.{sym}
use Rattle.utf8.proofs.Same.{same_text_refl}
use Rattle.utf8.proofs.equal.same_text.Goals as goal

pub returns-then-surely_same : goal.returns-then-surely_same
returns-then-surely_same c = sym (rw (c.surely_same.ensures c.if-surely_same.true) (same_text_refl _))
