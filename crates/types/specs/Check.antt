-- What a string or a value is refused with before it is written, in the order of docs/RULES.md.
use Rattle.std.specs.Prelude.{not, ◌||◌, List, [], ◌∷◌, ℕ, eqb}
use Rattle.answer.specs.Order.{Check}
use Rattle.utf8.specs.Text.{is_utf8}
use Rattle.types.specs.Value.{Record, value}
use Rattle.types.specs.Form.{part, inside, writable_record, ranged}

-- a string by its start and length: a key, a name, or a value of kind 8
abbrev pub string_checks : List ℕ → ℕ → ℕ → List Check
string_checks buffer start len =
    (16, inside buffer start len)
    ∷ (15, is_utf8 (part buffer start len)) ∷ []

-- a value's range, and a string's text
abbrev pub part_checks : List ℕ → Record → List Check
part_checks buffer (value kind a b flags) =
    (16, ranged buffer (value kind a b flags))
    ∷ (15, not (eqb kind 8) || is_utf8 (part buffer a b)) ∷ []

-- the numbers of its record, and then these
abbrev pub value_checks : List ℕ → Record → List Check
value_checks buffer v = (14, writable_record v) ∷ part_checks buffer v
