-- Worked examples of docs/RULES.md on numbers, values, frames that are read and frame sizes, and of docs/PROMISES.md on what is kept and what is
-- read back, as one statement over a list. The program `replay` runs the same ones (crates/replay/data/marked.txt).
use mathlib.Core.Path.{◌≡◌, refl}
use mathlib.Core.Bool.{Bool, true, false, ◌&&◌}
use mathlib.Core.List.{List, [], ◌∷◌, ◌++◌}
use Prim.Native.Nat.{ℕ, ◌-◌, ◌^◌}
use lib.Dec.{ltb, leb}
use lib.ListN.{length}
use Rattle.answer.specs.Answer.{Answer, done, refused, written}
use Rattle.answer.specs.Order.{in_order, each_in_order}
use Rattle.answer.specs.Table.{records, joined, some}
use Rattle.answer.specs.Row.{so_many, to_end}
use Rattle.varint.specs.Number.{more, number, groups, number_bytes}
use Rattle.utf8.specs.Text.{rows, follow, in_range, matching, row_for, step, by_steps, is_utf8, lossy, same_bytes, same_text}
use Rattle.types.specs.Value.{Record, value, string, typed, shape, sign_extended}
use Rattle.types.specs.Form.{string_bytes, value_bytes}
use Rattle.frame.specs.declared.Head.{Head}
use Rattle.frame.specs.declared.Pair.{Pair}
use Rattle.frame.specs.declared.Message.{Message}
use Rattle.frame.specs.Head.{four_bytes, four_number, head_bytes, frame_bytes}
use Rattle.frame.specs.Records.{message_at, pair_at}
use Rattle.frame.specs.declared.Side.TheVariants as side
use Rattle.frame.specs.Read.{Reading, wait, answered, cut, head}
use Rattle.payload.specs.declared.Counts.{Counts}
use Rattle.payload.specs.Pair.{pair}
use Rattle.payload.specs.Payload.{Contents, message_from, one_pair, one_message, payload}
use Rattle.parser.specs.Frame.{framed, frame_read}
use Rattle.writer.specs.Pair.{pair_bytes, new_key}
use Rattle.writer.specs.Message.{name_bytes, message_bytes}
use Rattle.writer.specs.Frame.{head_of, limited, fin_alone, kv_allowed, kv_answer, notify_answer}
use Rattle.hello.specs.Hello.{frame_size}

-- how a frame is read once more: under a limit, with rooms, and with these bytes behind it
pub record Again : Type 0 where
  pub limit : ℕ
  pub rooms : Counts
  pub behind : List ℕ

-- what an example says: a number is these bytes, written and read; some bytes are read so, as a number, as a value, or as a frame under a
-- limit and with rooms; two frame sizes settle so; a frame is read so, and once more with no less; a frame is written so, from records in a
-- buffer, and read back so
pub data Example : Type 0 where
  is : ℕ → List ℕ → Example
  reads : List ℕ → Answer ℕ → Example
  values : List ℕ → Answer Record → Example
  frames : ℕ → Counts → List ℕ → Reading (Head × Contents) → Example
  sizes : ℕ → ℕ → Answer Unit → Example
  kept : ℕ → Counts → List ℕ → Again → Reading (Head × Contents) → Example
  kv_back : Head → ℕ → List ℕ → List ℕ → ℕ → List ℕ → Again → Reading (Head × Contents) → Example
  notify_back : Head → ℕ → List ℕ → List ℕ → ℕ → List ℕ → ℕ → List ℕ → Again → Reading (Head × Contents) → Example

-- what the laws on kept readings, and on frames that are read back, ask for
abbrev pub no_less : ℕ → Counts → Again → Bool
no_less limit rooms again =
    leb limit again.limit && (leb rooms.messages again.rooms.messages && leb rooms.pairs again.rooms.pairs)

abbrev pub as_parameters : Head → ℕ → Bool
as_parameters h limit = ltb h.stream (2 ^ 64) && (ltb h.frame (2 ^ 64) && ltb limit (2 ^ 32))

abbrev pub read_again_lem : List ℕ → Again → Reading (Head × Contents)
read_again_lem bytes again = frame_read side.HAProxy again.limit again.rooms (bytes ++ again.behind)

abbrev pub Holds : Example → Type 0
Holds (is n bytes) = (number_bytes n ≡ bytes) × (number bytes ≡ done n (length bytes))
Holds (reads bytes answer) = number bytes ≡ answer
Holds (values bytes answer) = typed bytes ≡ answer
Holds (frames limit rooms bytes answer) = frame_read side.HAProxy limit rooms bytes ≡ answer
Holds (sizes theirs ours answer) = frame_size theirs ours ≡ answer
Holds (kept limit rooms bytes again answer) = (no_less limit rooms again ≡ true) × (frame_read side.HAProxy limit rooms bytes ≡ answer) × (read_again_lem bytes again ≡ answer)
Holds (kv_back h limit buffer pairs count bytes again answer) =
    (as_parameters h limit && (ltb h.frame_type 101 && fin_alone h) ≡ true) × (no_less limit (record { messages = 0; pairs = count; actions = 0 }) again ≡ true)
    × (kv_answer h limit buffer pairs count ≡ written bytes) × (read_again_lem bytes again ≡ answer)
Holds (notify_back h limit buffer messages count pairs total bytes again answer) =
    (as_parameters h limit ≡ true) × (no_less limit (record { messages = count; pairs = total; actions = 0 }) again ≡ true)
    × (notify_answer h limit buffer messages count pairs total ≡ written bytes) × (read_again_lem bytes again ≡ answer)

abbrev pub All : List Example → Type 0
All [] = Unit
All (e ∷ es) = Holds e × All es

-- how such a statement is proved: example after example
infixr 5 ◌and◌
abbrev pub ◌and◌ : {A B : Type 0} → A → B → A × B
a and b = (a, b)

-- ---- frames

-- under this limit, with room for two messages and three pairs; and with room for one pair
abbrev pub frame : List ℕ → Reading (Head × Contents) → Example
frame bytes answer = frames 1048576 (record { messages = 2; pairs = 3; actions = 0 }) bytes answer

abbrev pub frame_in_one : List ℕ → Reading (Head × Contents) → Example
frame_in_one bytes answer = frames 1048576 (record { messages = 2; pairs = 1; actions = 0 }) bytes answer

-- n bytes behind the length bytes: a type, flags, and what comes behind them
abbrev pub bytes_of : ℕ → ℕ → ℕ → List ℕ → List ℕ
bytes_of n type flags rest = 0 ∷ 0 ∷ 0 ∷ n ∷ type ∷ 0 ∷ 0 ∷ 0 ∷ flags ∷ rest

-- the answers: a refusal; and a frame that has FIN alone
abbrev pub stops : ℕ → ℕ → Reading (Head × Contents)
stops number place = answered (refused number place)

abbrev pub accepted : ℕ → ℕ → ℕ → List Message → List Pair → ℕ → Reading (Head × Contents)
accepted type stream id messages pairs used =
    answered (done (record { frame_type = type; flags = 1; stream = stream; frame = id }, record { messages = messages; pairs = pairs; actions = [] }) used)

-- records by the numbers of their tables
abbrev pub a_message : ℕ → ℕ → ℕ → ℕ → Message
a_message start len first count = record { start = start; len = len; first = first; count = count }

abbrev pub a_pair : ℕ → ℕ → ℕ → ℕ → ℕ → ℕ → Pair
a_pair start len kind a b flags = record { start = start; len = len; value = record { kind = kind; a = a; b = b; flags = flags } }

-- ---- the laws

abbrev pub room : ℕ → ℕ → Counts
room messages pairs = record { messages = messages; pairs = pairs; actions = 0 }

abbrev pub listing : List ℕ
listing =
    bytes_of 0x19 3 1 (0x01 ∷ 0x02 ∷ 0x05 ∷ 0x64 ∷ 0x65 ∷ 0x6C ∷ 0x61 ∷ 0x79 ∷ 0x02
    ∷ 0x04 ∷ 0x73 ∷ 0x6C ∷ 0x6F ∷ 0x74 ∷ 0x03 ∷ 0x07 ∷ 0x02 ∷ 0x6F ∷ 0x6B ∷ 0x11 ∷ [])

-- two pairs of which the second has no room in one
abbrev pub two_keys : List ℕ
two_keys = bytes_of 0x0F 1 1 (0x00 ∷ 0x00 ∷ 0x02 ∷ 0x41 ∷ 0x42 ∷ 0x00 ∷ 0x02 ∷ 0x41 ∷ 0x43 ∷ 0x00 ∷ [])

-- ---- the list

abbrev pub examples : List Example
examples =
    -- numbers
    is 239 (0xEF ∷ [])
    ∷ is 240 (0xF0 ∷ 0x00 ∷ [])
    ∷ is 2287 (0xFF ∷ 0x7F ∷ [])
    ∷ is 2288 (0xF0 ∷ 0x80 ∷ 0x00 ∷ [])
    ∷ is (2 ^ 64 - 1) (0xFF ∷ 0xF0 ∷ 0xFE ∷ 0xFE ∷ 0xFE ∷ 0xFE ∷ 0xFE ∷ 0xFE ∷ 0xFE ∷ 0x0E ∷ [])
    ∷ reads (0xF0 ∷ 0x80 ∷ 0x80 ∷ 0x80 ∷ 0x80 ∷ 0x80 ∷ 0x80 ∷ 0x80 ∷ 0x80 ∷ 0x10 ∷ []) (refused 19 10)
    ∷ reads (0xF0 ∷ 0x80 ∷ 0x80 ∷ 0x80 ∷ 0x80 ∷ 0x80 ∷ 0x80 ∷ 0x80 ∷ 0x80 ∷ 0x0F ∷ []) (refused 7 10)
    ∷ reads (0xF0 ∷ 0x80 ∷ 0x80 ∷ 0x80 ∷ 0x80 ∷ 0x80 ∷ 0x80 ∷ 0x80 ∷ 0x80 ∷ 0x80 ∷ 0x00 ∷ []) (refused 19 10)
    -- values
    ∷ values (0x02 ∷ 0xF0 ∷ 0xF1 ∷ 0xFE ∷ 0xFE ∷ 0x7E ∷ []) (done (value 2 0 0 0) 6)
    ∷ values (0x21 ∷ []) (done (value 1 0 0 0) 1)
    ∷ values (0xF1 ∷ []) (done (value 1 1 0 0) 1)
    ∷ values (0xF0 ∷ []) (done (value 0 0 0 15) 1)
    ∷ values (0x23 ∷ 0x07 ∷ []) (done (value 3 7 0 2) 2)
    ∷ values (0x0A ∷ []) (refused 8 1)
    -- frames: the length bytes, the limit, and whether all is there
    ∷ frame [] (wait 4)
    ∷ frame (0x00 ∷ []) (wait 3)
    ∷ frame (0x00 ∷ 0x00 ∷ 0x00 ∷ []) (wait 1)
    ∷ frame (0x00 ∷ 0x10 ∷ 0x00 ∷ 0x01 ∷ []) (stops 2 4)
    ∷ frame (0x00 ∷ 0x10 ∷ 0x00 ∷ 0x00 ∷ []) (wait 1048576)
    ∷ frame (bytes_of 0x07 1 1 (0x00 ∷ [])) (wait 1)
    -- the type, the flags and the two ids
    ∷ frame (0x00 ∷ 0x00 ∷ 0x00 ∷ 0x00 ∷ []) (stops 3 4)
    ∷ frame (bytes_of 0x07 4 1 (0x00 ∷ 0x00 ∷ [])) (stops 4 4)
    ∷ frame (0x00 ∷ 0x00 ∷ 0x00 ∷ 0x04 ∷ 0x01 ∷ 0x00 ∷ 0x00 ∷ 0x00 ∷ []) (stops 3 5)
    ∷ frame (bytes_of 0x07 1 0 (0x00 ∷ 0x00 ∷ [])) (stops 4 4)
    ∷ frame (bytes_of 0x07 1 2 (0x00 ∷ 0x00 ∷ [])) (stops 4 4)
    ∷ frame (bytes_of 0x07 1 5 (0x00 ∷ 0x00 ∷ [])) (stops 4 4)
    ∷ frame (bytes_of 0x07 1 3 (0x00 ∷ 0x00 ∷ [])) (stops 5 4)
    ∷ frame (bytes_of 0x05 1 1 []) (stops 3 9)
    ∷ frame (bytes_of 0x0F 1 1 (0xF0 ∷ 0x80 ∷ 0x80 ∷ 0x80 ∷ 0x80 ∷ 0x80 ∷ 0x80 ∷ 0x80 ∷ 0x80 ∷ 0x0F ∷ [])) (stops 7 19)
    ∷ frame (bytes_of 0x0F 1 1 (0xF0 ∷ 0x80 ∷ 0x80 ∷ 0x80 ∷ 0x80 ∷ 0x80 ∷ 0x80 ∷ 0x80 ∷ 0x80 ∷ 0x10 ∷ [])) (stops 19 19)
    ∷ frame (bytes_of 0x06 101 1 (0x00 ∷ [])) (stops 3 10)
    ∷ frame (bytes_of 0x07 101 2 (0x00 ∷ 0x00 ∷ [])) (stops 4 4)
    ∷ frame (bytes_of 0x07 101 1 (0x00 ∷ 0x00 ∷ [])) (stops 6 4)
    -- KV lists
    ∷ frame (bytes_of 0x07 1 1 (0x00 ∷ 0x00 ∷ [])) (accepted 1 0 0 [] [] 11)
    ∷ frame (bytes_of 0x09 1 1 (0x00 ∷ 0x00 ∷ 0x02 ∷ 0x41 ∷ [])) (stops 3 12)
    ∷ frame (bytes_of 0x0A 1 1 (0x00 ∷ 0x00 ∷ 0x01 ∷ 0x41 ∷ 0x0A ∷ [])) (stops 8 14)
    ∷ frame (bytes_of 0x14 1 1 (0x00 ∷ 0x00 ∷ 0x01 ∷ 0x41 ∷ 0x05 ∷ 0xF0 ∷ 0x80 ∷ 0x80 ∷ 0x80 ∷ 0x80 ∷ 0x80 ∷ 0x80 ∷ 0x80 ∷ 0x80 ∷ 0x0F ∷ []))
    (stops 7 24)
    ∷ frame (bytes_of 0x12 2 1 (0x00 ∷ 0x00 ∷ 0x01 ∷ 0x41 ∷ 0x03 ∷ 0x07 ∷ 0x01 ∷ 0x42 ∷ 0x08 ∷ 0x03 ∷ 0x32 ∷ 0x2E ∷ 0x30 ∷ []))
    (accepted 2 0 0 [] (a_pair 12 1 3 7 0 0 ∷ a_pair 16 1 8 19 3 0 ∷ []) 22)
    ∷ frame (bytes_of 0x0F 1 1 (0x00 ∷ 0x00 ∷ 0x02 ∷ 0x41 ∷ 0xFF ∷ 0x00 ∷ 0x02 ∷ 0x41 ∷ 0xFE ∷ 0x00 ∷ [])) (stops 9 19)
    ∷ frame_in_one (bytes_of 0x0F 1 1 (0x00 ∷ 0x00 ∷ 0x02 ∷ 0x41 ∷ 0xFF ∷ 0x00 ∷ 0x02 ∷ 0x41 ∷ 0xFE ∷ 0x00 ∷ [])) (stops 9 19)
    ∷ frame_in_one two_keys (stops 10 19)
    ∷ frame two_keys (accepted 1 0 0 [] (a_pair 12 2 0 0 0 0 ∷ a_pair 16 2 0 0 0 0 ∷ []) 19)
    -- lists of messages
    ∷ frame (bytes_of 0x09 3 1 (0x01 ∷ 0x02 ∷ 0x02 ∷ 0x6D ∷ [])) (stops 3 12)
    ∷ frame (bytes_of 0x09 3 1 (0x01 ∷ 0x02 ∷ 0x01 ∷ 0x6D ∷ [])) (stops 3 13)
    ∷ frame (bytes_of 0x0A 3 1 (0x01 ∷ 0x02 ∷ 0x01 ∷ 0x6D ∷ 0x01 ∷ [])) (stops 3 14)
    ∷ frame (bytes_of 0x10 3 1 (0x01 ∷ 0x02 ∷ 0x01 ∷ 0x6D ∷ 0x00 ∷ 0x01 ∷ 0x6E ∷ 0x00 ∷ 0x01 ∷ 0x6F ∷ 0x00 ∷ [])) (stops 10 20)
    ∷ frame listing (accepted 3 1 2 (a_message 12 5 0 2 ∷ []) (a_pair 19 4 3 7 0 0 ∷ a_pair 26 2 1 1 0 0 ∷ []) 29)
    ∷ frame (bytes_of 0x12 3 1 (0x01 ∷ 0x02 ∷ 0x01 ∷ 0x6D ∷ 0x02 ∷ 0x01 ∷ 0x61 ∷ 0x03 ∷ 0x07 ∷ 0x01 ∷ 0x61 ∷ 0x03 ∷ 0x08 ∷ []))
    (accepted 3 1 2 (a_message 12 1 0 2 ∷ []) (a_pair 15 1 3 7 0 0 ∷ a_pair 19 1 3 8 0 0 ∷ []) 22)
    -- frame sizes
    ∷ sizes 255 256 (refused 13 0)
    ∷ sizes 256 255 (refused 13 0)
    ∷ sizes 256 256 (done tt 256)
    -- what is kept: a frame; a refusal; 2 under the same limit, and 10 with the same rooms
    ∷ kept 25 (room 1 2) listing (record { limit = 26; rooms = room 2 3; behind = 0x00 ∷ 0x00 ∷ [] })
    (accepted 3 1 2 (a_message 12 5 0 2 ∷ []) (a_pair 19 4 3 7 0 0 ∷ a_pair 26 2 1 1 0 0 ∷ []) 29)
    ∷ kept 10 (room 0 1) (bytes_of 0x0A 1 1 (0x00 ∷ 0x00 ∷ 0x01 ∷ 0x41 ∷ 0x0A ∷ [])) (record { limit = 11; rooms = room 1 2; behind = 0x00 ∷ [] }) (stops 8 14)
    ∷ kept 24 (room 1 1) listing (record { limit = 24; rooms = room 2 3; behind = 0x00 ∷ [] }) (stops 2 4)
    ∷ kept 15 (room 2 1) two_keys (record { limit = 16; rooms = room 2 1; behind = 0x00 ∷ [] }) (stops 10 19)
    -- what is read back: two pairs, of which the first has flags; two messages, with two arguments, of which the second has, and with one
    ∷ kv_back (head_of 2 true false 0 0) 18 (0x41 ∷ 0x42 ∷ 0x32 ∷ 0x2E ∷ 0x30 ∷ []) (0 ∷ 1 ∷ 3 ∷ 7 ∷ 0 ∷ 2 ∷ 1 ∷ 1 ∷ 8 ∷ 2 ∷ 3 ∷ 0 ∷ []) 2
    (bytes_of 0x12 2 1 (0x00 ∷ 0x00 ∷ 0x01 ∷ 0x41 ∷ 0x23 ∷ 0x07 ∷ 0x01 ∷ 0x42 ∷ 0x08 ∷ 0x03 ∷ 0x32 ∷ 0x2E ∷ 0x30 ∷ []))
    (record { limit = 19; rooms = room 0 2; behind = 0x00 ∷ 0x00 ∷ [] })
    (accepted 2 0 0 [] (a_pair 12 1 3 7 0 2 ∷ a_pair 16 1 8 19 3 0 ∷ []) 22)
    ∷ notify_back (head_of 3 true false 1 2) 24 (0x6D ∷ 0x6E ∷ 0x61 ∷ 0x62 ∷ []) (0 ∷ 1 ∷ 0 ∷ 2 ∷ 1 ∷ 1 ∷ 2 ∷ 1 ∷ []) 2
    (2 ∷ 1 ∷ 3 ∷ 7 ∷ 0 ∷ 0 ∷ 3 ∷ 1 ∷ 3 ∷ 8 ∷ 0 ∷ 15 ∷ 2 ∷ 1 ∷ 1 ∷ 1 ∷ 0 ∷ 0 ∷ []) 3
    (bytes_of 0x18 3 1 (0x01 ∷ 0x02 ∷ 0x01 ∷ 0x6D ∷ 0x02 ∷ 0x01 ∷ 0x61 ∷ 0x03 ∷ 0x07 ∷ 0x01 ∷ 0x62 ∷ 0xF3 ∷ 0x08
    ∷ 0x01 ∷ 0x6E ∷ 0x01 ∷ 0x01 ∷ 0x61 ∷ 0x11 ∷ []))
    (record { limit = 25; rooms = room 2 3; behind = 0x00 ∷ 0x00 ∷ [] })
    (accepted 3 1 2 (a_message 12 1 0 2 ∷ a_message 23 1 2 1 ∷ []) (a_pair 15 1 3 7 0 0 ∷ a_pair 19 1 3 8 0 15 ∷ a_pair 26 1 1 1 0 0 ∷ []) 28)
    ∷ []

pub marked : All examples
unfolding more number groups number_bytes string typed shape sign_extended four_number in_order some
    rows follow in_range matching row_for step by_steps lossy same_bytes same_text
    pair message_from one_pair one_message so_many to_end payload head cut framed frame_read frame_size
    is_utf8 each_in_order records joined string_bytes value_bytes four_bytes head_bytes frame_bytes message_at pair_at pair_bytes new_key
    name_bytes message_bytes limited kv_allowed kv_answer notify_answer
marked =
    (refl, refl) and (refl, refl) and (refl, refl) and (refl, refl) and (refl, refl) and refl and refl and refl and refl and refl and refl and
    refl and refl and
    refl and refl and refl and refl and refl and refl and refl and refl and refl and refl and refl and refl and refl and refl and refl and
    refl and refl and refl and refl and refl and refl and refl and refl and refl and refl and refl and refl and refl and refl and refl and
    refl and refl and refl and refl and refl and refl and refl and refl and (refl, refl, refl) and (refl, refl, refl) and
    (refl, refl, refl) and (refl, refl, refl) and (refl, refl, refl, refl) and (refl, refl, refl, refl) and tt
