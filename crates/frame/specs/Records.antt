-- Records of a table, as docs/RULES.md sets out their numbers.
use Rattle.std.specs.Prelude.{Bool, List, [], ◌∷◌, ℕ, ◌+◌}
use Rattle.answer.specs.Table.{number_at}
use Rattle.utf8.specs.Text.{same_text}
use Rattle.types.specs.Form.{part}
use Rattle.frame.specs.declared.Pair.{Pair}
use Rattle.frame.specs.declared.Action.{Action}
use Rattle.frame.specs.declared.Message.{Message}

-- how many numbers each has
abbrev pub message_width : ℕ
message_width = 4

abbrev pub pair_width : ℕ
pair_width = 6

abbrev pub action_width : ℕ
action_width = 8

-- name start, name length, first pair, and how many pairs
unfoldable pub message_at : List ℕ → ℕ → Message
message_at table i =
    let number = number_at message_width table i in
    record { start = number 0; len = number 1; first = number 2; count = number 3 }

-- a pair whose numbers start at number k of a record: key start, key length, and the value's kind, two numbers and flags
abbrev pub pair_in : (ℕ → ℕ) → ℕ → Pair
pair_in number k =
    record {
      start = number k;
      len = number (k + 1);
      value = record { kind = number (k + 2); a = number (k + 3); b = number (k + 4); flags = number (k + 5) };
    }

unfoldable pub pair_at : List ℕ → ℕ → Pair
pair_at table i = pair_in (number_at pair_width table i) 0

-- set or unset, the scope, and a pair for the variable's name and value
unfoldable pub action_at : List ℕ → ℕ → Action
action_at table i =
    let number = number_at action_width table i in
    record { verb = number 0; scope = number 1; pair = pair_in number 2 }

-- the numbers of a record, as its table has them
abbrev pub message_numbers : Message → List ℕ
message_numbers m = m.start ∷ m.len ∷ m.first ∷ m.count ∷ []

abbrev pub pair_numbers : Pair → List ℕ
pair_numbers p = p.start ∷ p.len ∷ p.value.kind ∷ p.value.a ∷ p.value.b ∷ p.value.flags ∷ []

abbrev pub action_numbers : Action → List ℕ
action_numbers x = x.verb ∷ x.scope ∷ pair_numbers x.pair

-- a pair's key, and whether two keys are the same text
abbrev pub key_of : List ℕ → Pair → List ℕ
key_of buffer p = part buffer p.start p.len

abbrev pub same_key : List ℕ → Pair → Pair → Bool
same_key buffer p q = same_text (key_of buffer p) (key_of buffer q)
