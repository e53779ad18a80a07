-- `utf8::equal::both_stride` meets its contract: the same eight bytes of ASCII on both sides go on, and so does a step of each.
use Rattle.std.proofs.Common.{sym, ◌∙◌}
use Rattle.utf8.proofs.Walk.{walks_eight}
use Rattle.utf8.proofs.equal.both_stride.Goals as goal

pub returns-then-all_same : goal.returns-then-all_same
returns-then-all_same c =
    walks_eight _ _ c.if-a-ge8.true c.if-b-ge8.true (sym c.all_ascii.ensures ∙ c.if-all_ascii.true) (sym c.all_same.ensures ∙ c.if-all_same.true)
