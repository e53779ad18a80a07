-- What a frame has to be for its bytes to come back when its records are written again. A text is to be UTF-8, for the writers refuse another; a
-- number of a 32-bit kind is to be in its range, for the reader keeps its low 32 bits; and a boolean is to have no flag but its lowest, for the reader
-- keeps no other. Whether a value is so is told by its bytes, which stand behind its pair's key.
use mathlib.Core.Path.{◌≡◌}
use mathlib.Core.Bool.{Bool, true, not, ◌&&◌, ◌||◌}
use mathlib.Core.List.{List, [], ◌∷◌}
use Prim.Native.Nat.{ℕ, ◌+◌, ◌%◌, ◌<◌}
use lib.Dec.{ltb, eqb}
use lib.ListN.{drop}
use Rattle.answer.specs.Answer.{Answer, done, refused}
use Rattle.varint.specs.Number.{number}
use Rattle.utf8.specs.Text.{is_utf8}
use Rattle.types.specs.Value.{Shape, nothing, flag, integer, address, text, reserved, Width, shape, upper, in_width}
use Rattle.types.specs.Form.{part}
use Rattle.frame.specs.declared.Pair.{Pair}
use Rattle.frame.specs.declared.Message.{Message}
use Rattle.frame.specs.declared.Action.{Action}
use Rattle.frame.specs.Records.{key_of, pair_at, message_at, action_at}

-- a number of a kind of this width, as it was read, before its low 32 bits are kept
abbrev pub plain_number : Width → Answer ℕ → Bool
plain_number w (done n used) = in_width w n
plain_number w (refused n place) = true

-- the DATA of a kind, with the flags of its type byte
abbrev pub plain_data : Shape → ℕ → List ℕ → Bool
plain_data nothing flags s = true
plain_data flag flags s = ltb flags 2
plain_data (integer w) flags s = plain_number w (number s)
plain_data (address n) flags s = true
plain_data text flags s = true
plain_data reserved flags s = true

-- the value at the front of some bytes
unfoldable pub plain_value : List ℕ → Bool
plain_value [] = true
plain_value (b ∷ s) = plain_data (shape (b % 16)) (upper b) s

-- a pair's value, whose bytes stand behind its key
abbrev pub plain_pair : List ℕ → Pair → Bool
plain_pair f p = plain_value (drop (p.start + p.len) f)

-- a pair's texts, its key and a value of kind 8; and a message's name
abbrev pub well_pair : List ℕ → Pair → Bool
well_pair f p = is_utf8 (key_of f p) && (not (eqb p.value.kind 8) || is_utf8 (part f p.value.a p.value.b))

abbrev pub well_name : List ℕ → Message → Bool
well_name f m = is_utf8 (part f m.start m.len)

-- An action's are those of its variable. An unset has a name alone, and its value's numbers are those of a null.
abbrev pub plain_action : List ℕ → Action → Bool
plain_action f x = not (eqb x.verb 1) || plain_pair f x.pair

abbrev pub well_action : List ℕ → Action → Bool
well_action f x = well_pair f x.pair

-- ---- of the first n records of a table

abbrev pub WellPairs : List ℕ → List ℕ → ℕ → Type 0
WellPairs f pairs n = (i : ℕ) → i < n → well_pair f (pair_at pairs i) ≡ true

abbrev pub WellNames : List ℕ → List ℕ → ℕ → Type 0
WellNames f messages n = (i : ℕ) → i < n → well_name f (message_at messages i) ≡ true

abbrev pub PlainPairs : List ℕ → List ℕ → ℕ → Type 0
PlainPairs f pairs n = (i : ℕ) → i < n → plain_pair f (pair_at pairs i) ≡ true

abbrev pub WellActions : List ℕ → List ℕ → ℕ → Type 0
WellActions f actions n = (i : ℕ) → i < n → well_action f (action_at actions i) ≡ true

abbrev pub PlainActions : List ℕ → List ℕ → ℕ → Type 0
PlainActions f actions n = (i : ℕ) → i < n → plain_action f (action_at actions i) ≡ true
