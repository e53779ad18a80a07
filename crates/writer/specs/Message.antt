-- Messages: SPOE.txt, section 3.2.
--
--     LIST-OF-MESSAGES : [ <MESSAGE-NAME> <NB-ARGS:1 byte> <KV-LIST> ... ]
--     MESSAGE-NAME     : <STRING>
use Rattle.std.specs.Prelude.{Bool, not, ◌||◌, List, [], ◌∷◌, ◌++◌, ℕ, zero, suc, ◌+◌, eqb, leb}
use Rattle.answer.specs.Order.{Check}
use Rattle.answer.specs.Table.{records, joined}
use Rattle.types.specs.Form.{part, string_bytes}
use Rattle.types.specs.Check.{string_checks}
use Rattle.frame.specs.declared.Message.{Message}
use Rattle.frame.specs.Records.{message_at, pair_at}
use Rattle.writer.specs.Pair.{pair_bytes}

-- its name and how many arguments it has; and then these, in their order
unfoldable pub name_bytes : List ℕ → Message → List ℕ
name_bytes buffer m = string_bytes (part buffer m.start m.len) ++ (m.count ∷ [])

unfoldable pub message_bytes : List ℕ → List ℕ → Message → List ℕ
message_bytes buffer pairs m = name_bytes buffer m ++ joined (pair_bytes buffer) (records (pair_at pairs) m.first m.count)

-- A message whose run has to start at the pair `from`, of all messages' `total` pairs: where its run starts; where it ends, if it is the
-- last; how many arguments it has; its name's range and text.
abbrev pub message_checks : List ℕ → ℕ → ℕ → Bool → Message → List Check
message_checks buffer total from last m =
    (14, eqb m.first from)
    ∷ (14, not last || eqb total (m.first + m.count))
    ∷ (17, leb m.count 255)
    ∷ string_checks buffer m.start m.len

-- the run of message i has to start where the one before it ended, and the first at pair 0
abbrev pub run_start : List ℕ → ℕ → ℕ
run_start messages zero = 0
run_start messages (suc i) = (message_at messages i).first + (message_at messages i).count
