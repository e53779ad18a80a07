use Rattle.std.proofs.Common.{◌≡◌, sym, ap, ◌∙◌}
use Rattle.utf8.specs.Text.{step_size, same_bytes}
use Rattle.utf8.proofs.Advance.{step_advances}
use Rattle.utf8.proofs.Same.{piece}
use Rattle.utf8.proofs.Walk.{walks_apart, walks_on}
use Rattle.utf8.proofs.equal.both_step.Goals as goal
use Rattle.utf8.proofs.equal.both_step.Goals.{After-same_bytes}

tested : (c : After-same_bytes) → c.same_bytes.result ≡ same_bytes (piece c.args.a.now) (piece c.args.b.now)
tested c = rw (c.text.ensures, c.text-2.ensures, c.front_step-x.ensures, c.front_step-y.ensures) at c.same_bytes.ensures

pub text-requires : goal.text-requires
text-requires c = rw c.front_step-x.ensures (step_advances _).there

pub text-requires-2 : goal.text-requires-2
text-requires-2 c = rw c.front_step-y.ensures (step_advances _).there

pub returns-then-not-same_bytes : goal.returns-then-not-same_bytes
returns-then-not-same_bytes c = walks_apart _ _ (sym (tested ((goal.at.returns-then-not-same_bytes c).After-same_bytes)) ∙ c.if-not-same_bytes.true)

pub returns : goal.returns
returns c =
    walks_on _ _ _ _ (c.len.ensures ∙ ap step_size c.front_step-x.ensures) (c.len-2.ensures ∙ ap step_size c.front_step-y.ensures)
    (sym (tested ((goal.at.returns c).After-same_bytes)) ∙ c.if-not-same_bytes.false)
