-- Payloads, read to their end: SPOE.txt, sections 3.2 and 3.2.4 to 3.2.9.
--
--     KV-LIST          : [ <KV-NAME> <KV-VALUE> ... ]
--     LIST-OF-MESSAGES : [ <MESSAGE-NAME> <NB-ARGS:1 byte> <KV-LIST> ... ]
--     LIST-OF-ACTIONS  : [ <ACTION-TYPE:1 byte> <NB-ARGS:1 byte> <ACTION-ARGS> ... ]
--
-- Starts and places count from the first of the bytes that the payload stands in.
use Rattle.std.specs.Prelude.{Bool, true, false, not, ◌&&◌, List, [], ◌∷◌, ◌++◌, ℕ, ◌+◌, ltb, leb, length, drop, get_or}
use Rattle.answer.specs.Answer.{Answer, done, refused, next, behind}
use Rattle.answer.specs.Order.{in_order}
use Rattle.answer.specs.Table.{some}
use Rattle.answer.specs.Row.{so_many, to_end}
use Rattle.types.specs.declared.Span.{Span}
use Rattle.types.specs.Value.{span, string}
use Rattle.frame.specs.declared.Pair.{Pair}
use Rattle.frame.specs.declared.Message.{Message}
use Rattle.frame.specs.declared.Action.{Action}
use Rattle.frame.specs.Records.{same_key}
use Rattle.payload.specs.declared.Counts.{Counts}
use Rattle.payload.specs.declared.Payload.{Payload}
use Rattle.payload.specs.declared.Payload.TheVariants as k
use Rattle.payload.specs.Pair.{pair_from}
use Rattle.payload.specs.Action.{action_from}

-- What was read: messages, pairs and actions, each in the order of their bytes.
pub record Contents : Type 0 where
  pub messages : List Message
  pub pairs : List Pair
  pub actions : List Action

abbrev pub empty : Contents
empty = record { messages = []; pairs = []; actions = [] }

-- one more
abbrev pub with_message : Contents → Message → Contents
with_message c m = record { messages = c.messages ++ (m ∷ []); pairs = c.pairs; actions = c.actions }

abbrev pub with_pair : Contents → Pair → Contents
with_pair c p = record { messages = c.messages; pairs = c.pairs ++ (p ∷ []); actions = c.actions }

abbrev pub with_action : Contents → Action → Contents
with_action c x = record { messages = c.messages; pairs = c.pairs; actions = c.actions ++ (x ∷ []) }

-- the string that stands at a place
abbrev pub moved_span : ℕ → Span → Span
moved_span n p = span (n + p.start) p.len

abbrev pub string_from : ℕ → List ℕ → Answer Span
string_from at s = behind moved_span at (string (drop at s))

-- A message's name, and its count byte. Its arguments are the pairs behind so many that were met.
abbrev pub message_of : Span → ℕ → ℕ → Message
message_of name first count = record { start = name.start; len = name.len; first = first; count = count }

unfoldable pub message_from : ℕ → ℕ → List ℕ → Answer Message
message_from first at s =
    next (string_from at s)
    (λ name end. in_order ((refused 3 end, ltb end (length s)) ∷ []) (done (message_of name first (get_or s end 0)) (end + 1)))

-- whether one of these pairs has its key
abbrev pub met : List ℕ → List Pair → Pair → Bool
met s pairs p = some (λ q. same_key s q p) pairs

-- With rooms for so many, one more of each sort.
module _ (rooms : Counts) (s : List ℕ) where
  -- A pair: where keys are to be met once, so is its own; and then there is to be room for it.
  unfoldable pub one_pair : Bool → Contents → ℕ → Answer Contents
  one_pair once c at =
      next (pair_from at s)
      (λ p end.
      in_order (
      (refused 9 end, not (once && met s c.pairs p))
      ∷ (refused 10 end, ltb (length c.pairs) rooms.pairs) ∷ [])
      (done (with_pair c p) end))

  -- A message: its name and its count, behind which there is to be room for it; and then so many pairs, of which keys may be met again.
  unfoldable pub one_message : Contents → ℕ → Answer Contents
  one_message c at =
      next (message_from (length c.pairs) at s)
      (λ m end.
      in_order ((refused 10 end, ltb (length c.messages) rooms.messages) ∷ [])
      (so_many (one_pair false) m.count (with_message c m) end))

  -- An action: there is to be room for it, which is asked when it is whole.
  unfoldable pub one_action : Contents → ℕ → Answer Contents
  one_action c at =
      next (action_from at s)
      (λ x end. in_order ((refused 10 end, ltb (length c.actions) rooms.actions) ∷ []) (done (with_action c x) end))

  -- what a payload is a list of: pairs with keys that are met once, messages, or actions
  abbrev pub one_of : Payload → Contents → ℕ → Answer Contents
  one_of k.KvList c at = one_pair true c at
  one_of k.Messages c at = one_message c at
  one_of k.Actions c at = one_action c at

-- The payload that starts at a place, to the end of the bytes. A head never ends behind them; from a place that lies there they end too soon. Each of its
-- list takes a byte at least, so there are no more than bytes.
unfoldable pub payload : Payload → Counts → ℕ → List ℕ → Answer Contents
payload kind rooms start s =
    in_order ((refused 3 (length s), leb start (length s)) ∷ [])
    (to_end (one_of rooms s kind) (length s) (length s) empty start)
