-- Actions: SPOE.txt, section 3.4.
--
--     ACTION-SET-VAR    : <SET-VAR:1 byte><NB-ARGS:1 byte><VAR-SCOPE:1 byte><VAR-NAME><VAR-VALUE>
--     SET-VAR           : <1>
--     NB-ARGS           : <3>
--     ACTION-UNSET-VAR  : <UNSET-VAR:1 byte><NB-ARGS:1 byte><VAR-SCOPE:1 byte><VAR-NAME>
--     UNSET-VAR         : <2>
--     NB-ARGS           : <2>
--     VAR-NAME          : <STRING>
--     VAR-VALUE         : <TYPED-DATA>
use Rattle.std.specs.Prelude.{Bool, cond, ◌&&◌, ◌||◌, List, ◌∷◌, ℕ, eqb, leb}
use Rattle.answer.specs.Order.{Check}
use Rattle.types.specs.Value.{Record, value}
use Rattle.types.specs.Form.{string_bytes}
use Rattle.types.specs.Promise.{record_of}
use Rattle.frame.specs.declared.Action.{Action}
use Rattle.frame.specs.Records.{key_of}
use Rattle.writer.specs.Pair.{pair_bytes, pair_checks}

-- a name and its value, where there is one, are written as a pair's key and value
unfoldable pub action_bytes : List ℕ → Action → List ℕ
action_bytes buffer x =
    cond (eqb x.verb 1)
    (1 ∷ 3 ∷ x.scope ∷ pair_bytes buffer x.pair)
    (2 ∷ 2 ∷ x.scope ∷ string_bytes (key_of buffer x.pair))

-- four numbers that are 0
abbrev pub no_value : Record → Bool
no_value (value kind a b flags) = eqb kind 0 && (eqb a 0 && (eqb b 0 && eqb flags 0))

-- a scope from 0 to 4, and a set with any value or an unset with none
unfoldable pub action_writable : Action → Bool
action_writable x = leb x.scope 4 && (eqb x.verb 1 || (eqb x.verb 2 && no_value (record_of x.pair.value)))

-- its own numbers, and then as a pair: an unset's numbers are those of a null without flags, which is refused with none
abbrev pub action_checks : List ℕ → Action → List Check
action_checks buffer x = (14, action_writable x) ∷ pair_checks buffer x.pair
