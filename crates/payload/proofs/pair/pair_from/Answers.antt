-- `payload::pair::pair_from` meets its contract: no pair stands behind the bytes.
use mathlib.Core.Path.{sym, ap, ◌∙◌}
use Rattle.answer.specs.Writes.{refusal_said}
use native.Mathlib.Omega.{arith}
use Rattle.payload.proofs.Pairs.{from_past}
use Rattle.payload.proofs.pair.pair_from.Goals as goal

pub returns-then-input-at : goal.returns-then-input-at
returns-then-input-at c = ap refusal_said c.at.ensures ∙ sym (from_past _ _ (omega (arith, c.if-input-at.true)))
