-- The lines of a frame that was accepted, whichever side sent it (docs/RULES.md, "The listing"), as the laws speak of them. No promise needs them: the calls write one
-- line each, and the law `accepted_lines` says that those which come one behind the other are these.
use mathlib.Core.List.{List, [], ◌∷◌, ◌++◌}
use Prim.Native.Nat.{ℕ, suc, ◌+◌}
use lib.ListN.{length, take, drop}
use Rattle.frame.specs.declared.Pair.{Pair}
use Rattle.frame.specs.declared.Message.{Message}
use Rattle.frame.specs.declared.Action.{Action}
use Rattle.frame.specs.declared.Head.{Head}
use Rattle.payload.specs.Payload.{Contents}
use Rattle.listing.specs.Lines.{frame_line, message_line, pair_line, action_line}

-- the lines of some pairs, of which the first is pair k
unfoldable pub pair_lines : List ℕ → ℕ → List Pair → List ℕ
pair_lines f k [] = []
pair_lines f k (p ∷ ps) = pair_line k f p ++ pair_lines f (suc k) ps

-- From message i and pair k on: each message, and behind it as many pairs as it has arguments. Pairs that are no message's are a KV list's.
unfoldable pub item_lines : List ℕ → ℕ → ℕ → List Message → List Pair → List ℕ
item_lines f i k [] ps = pair_lines f k ps
item_lines f i k (m ∷ ms) ps =
    message_line i f m
    ++ (pair_lines f k (take m.count ps) ++ item_lines f (suc i) (k + m.count) ms (drop m.count ps))

-- the lines of some actions, of which the first is action k
unfoldable pub action_lines : List ℕ → ℕ → List Action → List ℕ
action_lines f k [] = []
action_lines f k (x ∷ xs) = action_line k f x ++ action_lines f (suc k) xs

-- All lines of a frame: its own, and then those of what it holds.
unfoldable pub frame_lines : ℕ → List ℕ → Head → Contents → List ℕ
frame_lines index f m c = frame_line index m (length f) ++ (item_lines f 0 0 c.messages c.pairs ++ action_lines f 0 c.actions)
