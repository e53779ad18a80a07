-- `spop::head_numbers` meets its contract: the two counts go by the side.
use mathlib.Core.Path.{sym, ap}
use Rattle.frame.specs.declared.Side.{Side}
use Rattle.spop.specs.Values.{head_numbers}
use Rattle.spop.proofs.head_numbers.Goals as goal

pub returns-in-HAProxy : goal.returns-in-HAProxy
returns-in-HAProxy c = let a = c.args in ap (λ (s : Side). head_numbers s a.frame.head a.frame.counts) (sym c.in-HAProxy.is)

pub returns-in-Agents : goal.returns-in-Agents
returns-in-Agents c = let a = c.args in ap (λ (s : Side). head_numbers s a.frame.head a.frame.counts) (sym c.in-Agents.is)
