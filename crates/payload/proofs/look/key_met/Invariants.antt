-- `payload::look::key_met` meets its contract: the loop reads one pair after the other, from the first on, and compares its key.
use mathlib.Core.Bool.{Bool}
use mathlib.Core.List.{List}
use Prim.Native.Nat.{ℕ, ◌-◌}
use Rattle.utf8.specs.Text.{same_text}
use Rattle.frame.specs.declared.Pair.{Pair}
use Rattle.frame.specs.Records.{key_of}
use Rattle.payload.specs.Inner.{Run}
use Rattle.payload.proofs.Rows.{Seeks}
use Rattle.payload.proofs.look.key_met.Given as goal

abbrev pub has_key : List ℕ → List ℕ → Pair → Bool
has_key s key q = same_text (key_of s q) key

abbrev pub invariant-loop-at : goal.invariant-loop-at
invariant-loop-at l = (pairs : List Pair) → Run l.input l.start pairs l.end → Seeks (has_key l.input l.key) l.input pairs l.end l.at

abbrev pub decreases-loop-at : goal.decreases-loop-at
decreases-loop-at l = l.end - l.at
