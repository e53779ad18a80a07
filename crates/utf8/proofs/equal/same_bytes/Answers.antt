use Rattle.std.proofs.Common.{sym, ◌∙◌, rules, tests}
use borrow.Author.Tests.{ne_eqb}
use Rattle.std.proofs.lemmas.Bool.Decides.{same_from_decides}
use Rattle.std.proofs.lemmas.Iterator.{same_from_all, YieldsList-from_slice, YieldsList-from_zip}
use Rattle.utf8.proofs.Same.{same_iff, same_length}
use Rattle.utf8.proofs.equal.same_bytes.Goals as goal

pub returns-then-a-b : goal.returns-then-a-b
returns-then-a-b c =
    let a = c.args.a.now in
    let b = c.args.b.now in
    same_from_decides _ _
    (same_from_all c.all.new.self _ _ a b c.all.ensures.ran (YieldsList-from_zip (YieldsList-from_slice a cc) (YieldsList-from_slice b cc)) c.if-a-b.true (λ x q k. search (rules, tests)) (λ x q k. search (rules, tests)))
    (same_iff a b)

pub returns-else-a-b : goal.returns-else-a-b
returns-else-a-b c = ne_eqb _ _ c.if-a-b.false ∙ sym (same_length _ _ c.if-a-b.false)
