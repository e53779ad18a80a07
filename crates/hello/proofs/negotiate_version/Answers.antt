-- `hello::negotiate_version` meets its contract: the versions are looked at one after the other.
use Rattle.std.proofs.Common.{rules, tests, ◌∙◌, ap}
use Rattle.std.proofs.lemmas.Iterator.{YieldsList-from_slice}
use Rattle.std.proofs.lemmas.Iterator.Search.{any_from_yields_List}
use Rattle.hello.specs.Hello.{covers, version_at}
use Rattle.hello.proofs.Laws.{one_covers, announced_chunks, choice_then}
use Rattle.hello.proofs.negotiate_version.Goals as goal

pub returns : goal.returns
returns c =
    let looked = any_from_yields_List (λ numbers. covers (version_at numbers 0)) _ _ c.any.result c.any.ensures.ran (YieldsList-from_slice c.as_chunks.result.0.now cc) (λ x b q k. search (rules, tests)) in
    c.then_some.ensures ∙ choice_then _ _ (looked ∙ ap one_covers c.as_chunks.ensures.front ∙ announced_chunks _)
