-- `spop::spop_negotiate_version` meets its contract: a version is stored, and none stores nothing.
use mathlib.Core.Path.{sym, ap, ◌∙◌}
use Rattle.std.specs.Prelude.{Option}
use Rattle.hello.specs.declared.Version.{Version}
use Rattle.hello.proofs.Laws.{some_announced, none_announced}
use Rattle.spop.specs.Told.{chosen_of}
use Rattle.spop.proofs.spop_negotiate_version.Goals as goal

pub returns-in-Some : goal.returns-in-Some
returns-in-Some c =
    let a = c.args in
    let e = sym c.negotiate_version.ensures ∙ c.in-Some.is in
    (sym (some_announced _ e), sym (ap (λ (x : Option Version). chosen_of x a.version.now) e))

pub returns-in-None : goal.returns-in-None
returns-in-None c =
    let a = c.args in
    let e = sym c.negotiate_version.ensures ∙ c.in-None.is in
    (sym (none_announced _ e), sym (ap (λ (x : Option Version). chosen_of x a.version.now) e))
