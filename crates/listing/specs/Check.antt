-- What a record that is to have a line is refused with, in the order of a writer (docs/RULES.md), and its line where it is not.
use Rattle.std.specs.Prelude.{Bool, ◌&&◌, ◌||◌, List, [], ◌∷◌, ℕ, leb, eqb}
use Rattle.answer.specs.Answer.{Answer, written}
use Rattle.answer.specs.Order.{Check, in_order, lines_at}
use Rattle.types.specs.Form.{inside, writable_record, ranged}
use Rattle.types.specs.Promise.{record_of}
use Rattle.frame.specs.declared.Pair.{Pair}
use Rattle.frame.specs.declared.Message.{Message}
use Rattle.frame.specs.declared.Action.{Action}
use Rattle.listing.specs.Lines.{message_line, pair_line, action_line}

-- these checks, and then this line
abbrev pub checked_line : List Check → List ℕ → Answer (List ℕ)
checked_line checks line = in_order (lines_at 0 checks) (written line)

-- A name that lies outside the frame's bytes.
abbrev pub message_answer : ℕ → List ℕ → Message → Answer (List ℕ)
message_answer index f m = checked_line ((16, inside f m.start m.len) ∷ []) (message_line index f m)

-- Numbers outside their fields, a key that lies outside, and a value that does.
abbrev pub pair_line_checks : List ℕ → Pair → List Check
pair_line_checks f p =
    (14, writable_record (record_of p.value))
    ∷ (16, inside f p.start p.len)
    ∷ (16, ranged f (record_of p.value)) ∷ []

abbrev pub pair_answer : ℕ → List ℕ → Pair → Answer (List ℕ)
pair_answer index f p = checked_line (pair_line_checks f p) (pair_line index f p)

-- A set or an unset, of a scope from 0 to 4 (SPOE.txt, section 3.4). An unset has no value: null without flags stands for it.
abbrev pub is_action : Action → Bool
is_action x = leb x.scope 4 && (eqb x.verb 1 || (eqb x.verb 2 && (eqb x.pair.value.kind 0 && eqb x.pair.value.flags 0)))

-- its own numbers, and then what its name and value are refused with, as a pair
abbrev pub action_answer : ℕ → List ℕ → Action → Answer (List ℕ)
action_answer index f x = checked_line ((14, is_action x) ∷ pair_line_checks f x.pair) (action_line index f x)
