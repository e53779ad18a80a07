-- Frames by the definitions alone: each law on frames that are read back, and that on payloads joined, with an example to which it applies, so there are frames that meet
-- every premise; and frames that are read and written again, of which some come out as they went in, and for each condition one fails it.
use mathlib.Core.Path.{◌≡◌, refl}
use mathlib.Core.Bool.{true, false, cond}
use mathlib.Core.List.{List, [], ◌∷◌, ◌++◌}
use Prim.Native.Nat.{ℕ, ◌≤◌}
use native.Mathlib.Omega.{arith}
use lib.Dec.{eqb}
use lib.ListN.{length, drop}
use Rattle.answer.specs.Answer.{Answer, refused, next, written, done}
use Rattle.answer.specs.Order.{in_order, each_in_order}
use Rattle.answer.specs.Table.{records, joined, some}
use Rattle.answer.specs.Row.{so_many, to_end}
use Rattle.answer.proofs.Output.{writes_whole}
use Rattle.varint.specs.Number.{more, number, groups, number_bytes}
use Rattle.utf8.specs.Text.{rows, follow, in_range, matching, row_for, step, by_steps, is_utf8, lossy, same_bytes, same_text}
use Rattle.types.specs.Value.{string, typed, shape, sign_extended}
use Rattle.types.specs.Form.{string_bytes, value_bytes}
use Rattle.types.proofs.Roundtrip.{means}
use Rattle.frame.specs.Head.{four_bytes, four_number, head_bytes, frame_bytes}
use Rattle.frame.specs.Records.{message_at, message_numbers, pair_at, pair_numbers, action_at, action_numbers}
use Rattle.frame.proofs.Meaning.{pair_meaning}
use Rattle.frame.specs.declared.Side.{Side}
use Rattle.frame.specs.declared.Side.TheVariants as side
use Rattle.frame.specs.Read.{answer_of, cut, head}
use Rattle.payload.specs.declared.Counts.{Counts}
use Rattle.payload.specs.Pair.{pair}
use Rattle.payload.specs.Action.{variable, action}
use Rattle.payload.specs.Payload.{message_from, one_pair, one_message, one_action, payload}
use Rattle.parser.specs.Frame.{framed, frame_read}
use Rattle.writer.specs.Pair.{pair_bytes, new_key}
use Rattle.writer.specs.Action.{action_bytes, action_writable}
use Rattle.writer.specs.Message.{name_bytes, message_bytes}
use Rattle.writer.specs.Frame.{head_of, limited, kv_allowed, kv_answer, actions_answer, notify_answer}
use Rattle.writer.proofs.Joined.{AckCall, ack_payload, actions_joined, acts_in_a_row}
use Rattle.roundtrip.proofs.ReadBack.{ReadBack, kv_read_back, notify_read_back, argument_of, notify_arguments_lem, agent_answer, agent_read_back}

-- ---- records, and the frames that they are written as

-- HAPROXY-DISCONNECT with A, which is 7 and has the flags 2, and B, which is the text 2.0
abbrev text : List ℕ
text = 0x41 ∷ 0x42 ∷ 0x32 ∷ 0x2E ∷ 0x30 ∷ []

abbrev two : List ℕ
two = 0 ∷ 1 ∷ 3 ∷ 7 ∷ 0 ∷ 2 ∷ 1 ∷ 1 ∷ 8 ∷ 2 ∷ 3 ∷ 0 ∷ []

abbrev pairs_frame : List ℕ
pairs_frame =
    0 ∷ 0 ∷ 0 ∷ 18 ∷ 2 ∷ 0 ∷ 0 ∷ 0 ∷ 1 ∷ 0 ∷ 0 ∷ 0x01 ∷ 0x41 ∷ 0x23 ∷ 0x07 ∷ 0x01 ∷ 0x42 ∷ 0x08 ∷ 0x03 ∷ 0x32 ∷ 0x2E ∷ 0x30 ∷ []

-- NOTIFY of m, with a and b, which has all flags, and of n, with a
abbrev names : List ℕ
names = 0x6D ∷ 0x6E ∷ 0x61 ∷ 0x62 ∷ []

abbrev both : List ℕ
both = 0 ∷ 1 ∷ 0 ∷ 2 ∷ 1 ∷ 1 ∷ 2 ∷ 1 ∷ []

abbrev three : List ℕ
three = 2 ∷ 1 ∷ 3 ∷ 7 ∷ 0 ∷ 0 ∷ 3 ∷ 1 ∷ 3 ∷ 8 ∷ 0 ∷ 15 ∷ 2 ∷ 1 ∷ 1 ∷ 1 ∷ 0 ∷ 0 ∷ []

abbrev messages_frame : List ℕ
messages_frame =
    0 ∷ 0 ∷ 0 ∷ 24 ∷ 3 ∷ 0 ∷ 0 ∷ 0 ∷ 1 ∷ 0x01 ∷ 0x02 ∷ 0x01 ∷ 0x6D ∷ 0x02 ∷ 0x01 ∷ 0x61 ∷ 0x03 ∷ 0x07 ∷ 0x01 ∷ 0x62 ∷ 0xF3 ∷ 0x08
    ∷ 0x01 ∷ 0x6E ∷ 0x01 ∷ 0x01 ∷ 0x61 ∷ 0x11 ∷ []

-- ACK that sets a, which is 7; ACK that unsets b; and the ACK of both, with ids of its own
abbrev variables : List ℕ
variables = 0x61 ∷ 0x62 ∷ []

abbrev setting : List ℕ
setting = 1 ∷ 2 ∷ 0 ∷ 1 ∷ 3 ∷ 7 ∷ 0 ∷ 0 ∷ []

abbrev unsetting : List ℕ
unsetting = 2 ∷ 1 ∷ 1 ∷ 1 ∷ 0 ∷ 0 ∷ 0 ∷ 0 ∷ []

abbrev set_frame : List ℕ
set_frame = 0 ∷ 0 ∷ 0 ∷ 14 ∷ 103 ∷ 0 ∷ 0 ∷ 0 ∷ 1 ∷ 1 ∷ 1 ∷ 0x01 ∷ 0x03 ∷ 0x02 ∷ 0x01 ∷ 0x61 ∷ 0x03 ∷ 0x07 ∷ []

abbrev unset_frame : List ℕ
unset_frame = 0 ∷ 0 ∷ 0 ∷ 12 ∷ 103 ∷ 0 ∷ 0 ∷ 0 ∷ 1 ∷ 1 ∷ 2 ∷ 0x02 ∷ 0x02 ∷ 0x01 ∷ 0x01 ∷ 0x62 ∷ []

abbrev both_frame : List ℕ
both_frame =
    0 ∷ 0 ∷ 0 ∷ 20 ∷ 103 ∷ 0 ∷ 0 ∷ 0 ∷ 1 ∷ 240 ∷ 0 ∷ 3 ∷ 0x01 ∷ 0x03 ∷ 0x02 ∷ 0x01 ∷ 0x61 ∷ 0x03 ∷ 0x07 ∷ 0x02 ∷ 0x02 ∷ 0x01 ∷ 0x01 ∷ 0x62 ∷ []

-- ACK that sets A to 7 for the transaction, with the flags 2, and unsets B for the response
abbrev acts : List ℕ
acts = 1 ∷ 2 ∷ 0 ∷ 1 ∷ 3 ∷ 7 ∷ 0 ∷ 2 ∷ 2 ∷ 4 ∷ 1 ∷ 1 ∷ 0 ∷ 0 ∷ 0 ∷ 0 ∷ []

abbrev ack_frame : List ℕ
ack_frame =
    0 ∷ 0 ∷ 0 ∷ 19 ∷ 103 ∷ 0 ∷ 0 ∷ 0 ∷ 1 ∷ 1 ∷ 2 ∷ 1 ∷ 3 ∷ 2 ∷ 0x01 ∷ 0x41 ∷ 0x23 ∷ 0x07 ∷ 2 ∷ 2 ∷ 4 ∷ 0x01 ∷ 0x42 ∷ []

-- what the writers write of these records
pub written_so : (kv_answer (head_of 2 true false 0 0) 18 text two 2 ≡ done pairs_frame 22)
    × (notify_answer (head_of 3 true false 1 2) 24 names both 2 three 3 ≡ done messages_frame 28)
    × (agent_answer (head_of 103 true false 1 2) 19 text [] 0 acts 2 ≡ done ack_frame 23)
    × (actions_answer (head_of 103 true false 1 1) 20 variables setting 1 ≡ written set_frame)
    × (actions_answer (head_of 103 true false 1 2) 20 variables unsetting 1 ≡ written unset_frame)
    × (actions_answer (head_of 103 true false 240 3) 20 variables (setting ++ unsetting) 2 ≡ written both_frame)
unfolding groups number_bytes rows follow in_range matching row_for step by_steps is_utf8 lossy same_bytes same_text shape in_order some each_in_order records joined
    string_bytes value_bytes four_bytes head_bytes frame_bytes message_at pair_at action_at pair_bytes new_key name_bytes message_bytes
    action_bytes action_writable limited kv_allowed kv_answer notify_answer actions_answer
written_so = (refl, refl, refl, refl, refl, refl)

-- ---- read back, and joined

pub kv_example : ReadBack side.HAProxy (head_of 2 true false 0 0) 22 text [] (records (pair_at two) 0 2) [] 19 (record { messages = 0; pairs = 2; actions = 0 }) (pairs_frame ++ (0 ∷ 0 ∷ []))
kv_example =
    kv_read_back (head_of 2 true false 0 0) 18 text pairs_frame 22 (omega arith) (omega arith) (omega arith) 19 (omega arith) _ (0 ∷ 0 ∷ []) two 2 written_so.0 (omega arith)
    (omega arith) refl

abbrev room_for_them : Counts
room_for_them = record { messages = 2; pairs = 3; actions = 0 }

-- Argument 0 of message 1 is a, which is true, and not one of the a and the b of message 0.
abbrev read_again : ReadBack side.HAProxy (head_of 3 true false 1 2) 28 names (records (message_at both) 0 2) (records (pair_at three) 0 3) [] 25 room_for_them (messages_frame ++ (0 ∷ 0 ∷ []))
read_again =
    notify_read_back (head_of 3 true false 1 2) 24 names messages_frame 28 (omega arith) (omega arith) (omega arith) 25 (omega arith) room_for_them (0 ∷ 0 ∷ []) both 2 three 3
    written_so.1 refl (omega arith) (omega arith)

pub notify_example : pair_meaning (messages_frame ++ (0 ∷ 0 ∷ [])) (argument_of read_again.contents 1 0) ≡ (0x61 ∷ [], means 1 1 0 [])
unfolding message_at pair_at shape
notify_example =
    (notify_arguments_lem (head_of 3 true false 1 2) 24 names messages_frame 28 (omega arith) (omega arith) (omega arith) 25 (omega arith) room_for_them (0 ∷ 0 ∷ []) both 2 three 3
    written_so.1 refl (omega arith) (omega arith) 1 0 (omega arith) (omega arith)).1

-- a call that writes such a frame over these bytes
abbrev accepted : (stream frame : ℕ) (actions : List ℕ) (count : ℕ) (bytes old : List ℕ) → length bytes ≤ length old
    → actions_answer (head_of 103 true false stream frame) 20 variables actions count ≡ written bytes → AckCall
accepted stream frame actions count bytes old room is =
    record {
      fin = true;
      abort = false;
      stream = stream;
      frame = frame;
      limit = 20;
      buffer = variables;
      actions = actions;
      count = count;
      n = length bytes;
      old = old;
      new = bytes ++ drop (length bytes) old;
      small = omega arith;
      kept = writes_whole bytes old is (bytes ++ drop (length bytes) old) (length bytes) room refl refl;
    }

-- The payload of both is the first and then the second.
abbrev sets : AckCall
sets = accepted 1 1 setting 1 set_frame both_frame (omega arith) written_so.3

abbrev unsets : AckCall
unsets = accepted 1 2 unsetting 1 unset_frame both_frame (omega arith) written_so.4

abbrev does_both : AckCall
does_both = accepted 240 3 (setting ++ unsetting) 2 both_frame both_frame (omega arith) written_so.5

pub joined_example : ack_payload does_both ≡ ack_payload sets ++ ack_payload unsets
joined_example = (actions_joined sets unsets does_both (acts_in_a_row sets unsets does_both [] refl refl refl refl)).0

pub ack_example : ReadBack side.Agents (head_of 103 true false 1 2) 23 text [] [] (records (action_at acts) 0 2) 20 (record { messages = 0; pairs = 0; actions = 2 }) (ack_frame ++ (0 ∷ 0 ∷ []))
ack_example =
    agent_read_back (head_of 103 true false 1 2) 19 text ack_frame 23 (omega arith) (omega arith) (omega arith) 20 (omega arith) _ (0 ∷ 0 ∷ []) (omega arith)
    [] 0 acts 2 (omega arith) written_so.2 (omega arith) (omega arith)

-- ---- read and written again

-- What comes of a frame that a side sends and that is read under a limit of 64, in tables for four of each, and written again.
abbrev again : Side → List ℕ → Answer (List ℕ)
again from f =
    next (answer_of (frame_read from 64 (record { messages = 4; pairs = 4; actions = 4 }) f))
    (λ x used.
    let h = head_of x.0.frame_type true false x.0.stream x.0.frame in
    let messages = joined message_numbers x.1.messages in
    let pairs = joined pair_numbers x.1.pairs in
    let rows = joined action_numbers x.1.actions in
    cond (eqb x.0.frame_type 3)
    (notify_answer h 64 f messages (length x.1.messages) pairs (length x.1.pairs))
    (cond (eqb x.0.frame_type 103) (actions_answer h 64 f rows (length x.1.actions)) (kv_answer h 64 f pairs (length x.1.pairs))))

-- HAPROXY-DISCONNECT with A alone, of so many bytes and with this value
abbrev one : ℕ → List ℕ → List ℕ
one n v = 0 ∷ 0 ∷ 0 ∷ n ∷ 2 ∷ 0 ∷ 0 ∷ 0 ∷ 1 ∷ 0 ∷ 0 ∷ 0x01 ∷ 0x41 ∷ v

-- ACK of so many bytes with these actions
abbrev ack : ℕ → List ℕ → List ℕ
ack n xs = 0 ∷ 0 ∷ 0 ∷ n ∷ 103 ∷ 0 ∷ 0 ∷ 0 ∷ 1 ∷ 0x01 ∷ 0x02 ∷ xs

-- AGENT-DISCONNECT with A alone, and with this number for its stream
abbrev leave : ℕ → List ℕ
leave n = 0 ∷ 0 ∷ 0 ∷ 11 ∷ 102 ∷ 0 ∷ 0 ∷ 0 ∷ 1 ∷ n ∷ 0 ∷ 0x01 ∷ 0x41 ∷ 0x03 ∷ 0x07 ∷ []

-- Both come out as they went in. A text that is FF is 15, of pair 0. Of a boolean with the flags 3 the lowest comes back, and of a u32 that is 2^32 + 7 the low
-- 32 bits do, each in another frame.
pub examples : (again side.HAProxy pairs_frame ≡ written pairs_frame) × (again side.HAProxy messages_frame ≡ written messages_frame)
    × (again side.HAProxy (one 12 (0x08 ∷ 0x01 ∷ 0xFF ∷ [])) ≡ refused 15 0)
    × (again side.HAProxy (one 10 (0x31 ∷ [])) ≡ written (one 10 (0x11 ∷ [])))
    × (again side.HAProxy (one 15 (0x03 ∷ 0xF7 ∷ 0xF1 ∷ 0xFE ∷ 0xFE ∷ 0x7E ∷ [])) ≡ written (one 11 (0x03 ∷ 0x07 ∷ [])))
unfolding more number groups number_bytes rows follow in_range matching row_for step by_steps is_utf8 lossy same_bytes same_text string typed shape sign_extended in_order some
    each_in_order records joined string_bytes value_bytes four_bytes four_number head_bytes frame_bytes message_at pair_at pair message_from one_pair one_message so_many to_end payload head cut
    framed frame_read pair_bytes new_key name_bytes message_bytes limited kv_allowed kv_answer notify_answer
examples = (refl, refl, refl, refl, refl)

-- The ACK comes out as it went in, and so does the AGENT-DISCONNECT with ids 0; with another it is 14. An unset's name that is FF is 15, of action 0, and of a boolean with the
-- flags 3 the lowest comes back.
pub sent_examples : (again side.Agents ack_frame ≡ written ack_frame) × (again side.Agents (leave 0) ≡ written (leave 0)) × (again side.Agents (leave 1) ≡ refused 14 0)
    × (again side.Agents (ack 12 (0x02 ∷ 0x02 ∷ 0x00 ∷ 0x01 ∷ 0xFF ∷ [])) ≡ refused 15 0)
    × (again side.Agents (ack 13 (0x01 ∷ 0x03 ∷ 0x00 ∷ 0x01 ∷ 0x61 ∷ 0x31 ∷ [])) ≡ written (ack 13 (0x01 ∷ 0x03 ∷ 0x00 ∷ 0x01 ∷ 0x61 ∷ 0x11 ∷ [])))
unfolding more number groups number_bytes rows follow in_range matching row_for step by_steps is_utf8 lossy same_bytes same_text string typed shape sign_extended in_order some
    each_in_order records joined string_bytes value_bytes four_bytes four_number head_bytes frame_bytes pair_at action_at pair one_pair to_end payload variable action one_action
    head cut framed frame_read pair_bytes new_key action_bytes action_writable limited kv_allowed kv_answer actions_answer
sent_examples = (refl, refl, refl, refl, refl)
