-- The listing's worked examples (docs/RULES.md, "The listing"), proved of the definition: the input of 29 bytes, and its five lines; and an agent's of 32 bytes, with
-- the word `agent`, and its five.
use mathlib.Core.Path.{◌≡◌, refl}
use mathlib.Core.List.{List, [], ◌∷◌, ◌++◌}
use Prim.Native.Nat.{ℕ}
use Rattle.answer.specs.Order.{in_order}
use Rattle.answer.specs.Row.{so_many, to_end}
use Rattle.answer.specs.Table.{joined, some}
use Rattle.varint.specs.Number.{more, number}
use Rattle.types.specs.Value.{string, typed, shape, sign_extended}
use Rattle.frame.specs.Head.{four_number}
use Rattle.frame.specs.declared.Side.TheVariants as side
use Rattle.frame.specs.Read.{cut, head}
use Rattle.payload.specs.Pair.{pair}
use Rattle.payload.specs.Action.{variable, action}
use Rattle.payload.specs.Payload.{message_from, one_pair, one_message, one_action, payload}
use Rattle.parser.specs.Frame.{framed, frame_read}
use Rattle.listing.specs.Digits.{letters, digits, decimal, signed, shown}
use Rattle.listing.specs.Lines.{filled, value_text, frame_line, message_line, pair_line, action_line, end_line}
use Rattle.spoplist.specs.Listing.{stop_from}
use Rattle.listing.proofs.Frames.{pair_lines, item_lines, frame_lines, action_lines}
use Rattle.spoplist.proofs.Inputs.{lines_from, listing}

abbrev pub input : List ℕ
input =
    0x00 ∷ 0x00 ∷ 0x00 ∷ 0x19 ∷ 0x03 ∷ 0x00 ∷ 0x00 ∷ 0x00 ∷ 0x01 ∷ 0x01 ∷ 0x02 ∷ 0x05 ∷ 0x64 ∷ 0x65 ∷ 0x6C ∷ 0x61 ∷ 0x79 ∷ 0x02 ∷ 0x04 ∷
    0x73 ∷ 0x6C ∷ 0x6F ∷ 0x74 ∷ 0x03 ∷ 0x07 ∷ 0x02 ∷ 0x6F ∷ 0x6B ∷ 0x11 ∷ []

abbrev pub lines : List ℕ
lines =
    letters "frame 0 type 3 stream 1 id 2 bytes 29\n"
    ++ letters "message 0 name 64656c6179 args 2\n"
    ++ letters "pair 0 key 736c6f74 kind 3 value 7\n"
    ++ letters "pair 1 key 6f6b kind 1 value 1\n"
    ++ letters "end 29 0 0\n"

pub example : listing side.HAProxy 65532 (record { messages = 64; pairs = 256; actions = 0 }) input ≡ lines
unfolding more number string typed shape sign_extended four_number in_order some joined so_many to_end
    pair message_from one_pair one_message payload head cut framed frame_read
    digits decimal signed shown filled value_text frame_line message_line pair_line end_line pair_lines item_lines action_lines frame_lines stop_from lines_from
example = refl

-- ---- an agent's

abbrev pub sent : List ℕ
sent =
    0x00 ∷ 0x00 ∷ 0x00 ∷ 0x1C ∷ 0x67 ∷ 0x00 ∷ 0x00 ∷ 0x00 ∷ 0x01 ∷ 0x01 ∷ 0x02 ∷ 0x01 ∷ 0x03 ∷ 0x02 ∷ 0x04 ∷ 0x73 ∷ 0x6C ∷ 0x6F ∷ 0x74 ∷ 0x03 ∷ 0x07 ∷
    0x02 ∷ 0x02 ∷ 0x01 ∷ 0x02 ∷ 0x6F ∷ 0x6B ∷ 0x01 ∷ 0x03 ∷ 0x00 ∷ 0x00 ∷ 0x00 ∷ []

abbrev pub sent_lines_of : List ℕ
sent_lines_of =
    letters "frame 0 type 103 stream 1 id 2 bytes 32\n"
    ++ letters "action 0 set scope 2 name 736c6f74 kind 3 value 7\n"
    ++ letters "action 1 unset scope 1 name 6f6b\n"
    ++ letters "action 2 set scope 0 name - kind 0 value -\n"
    ++ letters "end 32 0 0\n"

pub sent_example : listing side.Agents 65532 (record { messages = 0; pairs = 256; actions = 256 }) sent ≡ sent_lines_of
unfolding more number string typed shape sign_extended four_number in_order some joined to_end
    pair variable action one_action payload head cut framed frame_read
    digits decimal signed shown filled value_text frame_line action_line end_line pair_lines item_lines action_lines frame_lines stop_from lines_from
sent_example = refl
