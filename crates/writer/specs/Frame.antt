-- What each writer answers, its checks in the order of docs/RULES.md. (11, where the output is too short, is answer's `within`.)
use Rattle.std.specs.Prelude.{Bool, true, false, cond, not, ◌&&◌, ◌||◌, List, [], ◌∷◌, ◌++◌, ℕ, ◌+◌, eqb, leb, length}
use Rattle.answer.specs.Answer.{Answer, refused, written}
use Rattle.answer.specs.Order.{in_order, each_in_order}
use Rattle.answer.specs.Table.{holds, records, joined}
use Rattle.frame.specs.declared.Head.{Head}
use Rattle.frame.specs.Head.{head_bytes, frame_bytes}
use Rattle.frame.specs.Records.{message_width, message_at, pair_width, pair_at, action_width, action_at}
use Rattle.writer.specs.Pair.{pair_bytes, pair_checks, kv_checks}
use Rattle.writer.specs.Action.{action_bytes, action_checks}
use Rattle.writer.specs.Message.{message_bytes, message_checks, run_start}

-- bit 0 is FIN, bit 1 is ABORT, the others are reserved
abbrev pub flags_of : Bool → Bool → ℕ
flags_of fin abort = cond fin 1 0 + cond abort 2 0

abbrev pub head_of : ℕ → Bool → Bool → ℕ → ℕ → Head
head_of type fin abort stream frame = record { frame_type = type; flags = flags_of fin abort; stream = stream; frame = frame }

-- the frame, where what follows its length bytes is within the limit
unfoldable pub limited : ℕ → Head → List ℕ → Answer (List ℕ)
limited limit h payload = in_order ((refused 12 0, leb (length (head_bytes h ++ payload)) limit) ∷ []) (written (frame_bytes h payload))

-- ---- KV frames

abbrev pub fin_alone : Head → Bool
fin_alone h = eqb h.flags 1

-- HAPROXY-HELLO and HAPROXY-DISCONNECT, which are 1 and 2, have any metadata; AGENT-HELLO and AGENT-DISCONNECT, which are 101 and
-- 102, have FIN alone and both numbers 0 (docs/RULES.md)
abbrev pub agent_allowed : Head → Bool
agent_allowed h = fin_alone h && (eqb h.stream 0 && eqb h.frame 0)

unfoldable pub kv_allowed : Head → Bool
kv_allowed h =
    cond (eqb h.frame_type 1 || eqb h.frame_type 2) true
    (cond (eqb h.frame_type 101 || eqb h.frame_type 102) (agent_allowed h) false)

-- the pairs, one after the other
abbrev pub pairs_bytes : List ℕ → List ℕ → ℕ → List ℕ
pairs_bytes buffer pairs count = joined (pair_bytes buffer) (records (pair_at pairs) 0 count)

unfoldable pub kv_answer : Head → ℕ → List ℕ → List ℕ → ℕ → Answer (List ℕ)
kv_answer h limit buffer pairs count =
    in_order (
    (refused 14 0, kv_allowed h)
    ∷ (refused 16 0, holds pair_width pairs count) ∷ [])
    (each_in_order (kv_checks buffer pairs) 0 count
    (limited limit h (pairs_bytes buffer pairs count)))

-- ---- ACK frames

abbrev pub actions_bytes : List ℕ → List ℕ → ℕ → List ℕ
actions_bytes buffer actions count = joined (action_bytes buffer) (records (action_at actions) 0 count)

unfoldable pub actions_answer : Head → ℕ → List ℕ → List ℕ → ℕ → Answer (List ℕ)
actions_answer h limit buffer actions count =
    in_order (
    (refused 14 0, fin_alone h)
    ∷ (refused 16 0, holds action_width actions count) ∷ [])
    (each_in_order (λ i. action_checks buffer (action_at actions i)) 0 count
    (limited limit h (actions_bytes buffer actions count)))

-- ---- NOTIFY frames

abbrev pub messages_bytes : List ℕ → List ℕ → ℕ → List ℕ → List ℕ
messages_bytes buffer messages count pairs = joined (message_bytes buffer pairs) (records (message_at messages) 0 count)

-- Without a message there is to be no pair.
unfoldable pub notify_answer : Head → ℕ → List ℕ → List ℕ → ℕ → List ℕ → ℕ → Answer (List ℕ)
notify_answer h limit buffer messages count pairs total =
    in_order (
    (refused 14 0, fin_alone h)
    ∷ (refused 16 0, holds message_width messages count)
    ∷ (refused 16 0, holds pair_width pairs total)
    ∷ (refused 14 0, not (eqb count 0) || eqb total 0) ∷ [])
    (each_in_order (λ i. message_checks buffer total (run_start messages i) (eqb (i + 1) count) (message_at messages i)) 0 count
    (each_in_order (λ i. pair_checks buffer (pair_at pairs i)) 0 total
    (limited limit h (messages_bytes buffer messages count pairs))))
