-- A whole frame, read: SPOE.txt, section 3.2. It is cut out of the bytes by its length; then comes its head, and then the payload of its type.
-- Starts and places count from its first length byte.
use Rattle.std.specs.Prelude.{cond, List, ℕ, eqb}
use Rattle.answer.specs.Answer.{Answer, done, next}
use Rattle.frame.specs.declared.Head.{Head}
use Rattle.frame.specs.declared.Side.{Side}
use Rattle.frame.specs.Read.{Reading, onward, cut, Sender, sender, head}
use Rattle.payload.specs.declared.Counts.{Counts}
use Rattle.payload.specs.declared.Payload.{Payload}
use Rattle.payload.specs.declared.Payload.TheVariants as k
use Rattle.payload.specs.Payload.{Contents, payload}

-- what a frame of a type holds: NOTIFY messages, ACK actions, and the others a KV list (sections 3.2.4 to 3.2.9)
abbrev pub payload_of : ℕ → Payload
payload_of type = cond (eqb type 3) k.Messages (cond (eqb type 103) k.Actions k.KvList)

-- a frame that was cut out, with its length bytes
unfoldable pub framed : Sender → Counts → List ℕ → Answer (Head × Contents)
framed side rooms f =
    next (head side f) (λ h start.
    next (payload (payload_of h.frame_type) rooms start f) (λ c end.
    done (h, c) end))

-- the frame at the front of some bytes, of a length within the limit
unfoldable pub frame_read : Side → ℕ → Counts → List ℕ → Reading (Head × Contents)
frame_read side limit rooms s = onward (cut limit s) (λ f. framed (sender side) rooms f)
