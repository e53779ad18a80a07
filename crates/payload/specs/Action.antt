-- Actions, read: SPOE.txt, sections 3.2 and 3.4.
--
--     LIST-OF-ACTIONS   : [ <ACTION-TYPE:1 byte> <NB-ARGS:1 byte> <ACTION-ARGS> ... ]
--
--     ACTION-SET-VAR    : <SET-VAR:1 byte><NB-ARGS:1 byte><VAR-SCOPE:1 byte><VAR-NAME><VAR-VALUE>
--     SET-VAR           : <1>
--     NB-ARGS           : <3>
--     VAR-SCOPE         : <PROCESS> | <SESSION> | <TRANSACTION> | <REQUEST> | <RESPONSE>    (0 to 4)
--     ACTION-UNSET-VAR  : <UNSET-VAR:1 byte><NB-ARGS:1 byte><VAR-SCOPE:1 byte><VAR-NAME>
--     UNSET-VAR         : <2>
--     NB-ARGS           : <2>
--     VAR-NAME          : <STRING>
--     VAR-VALUE         : <TYPED-DATA>
use Rattle.std.specs.Prelude.{cond, ◌||◌, List, [], ◌∷◌, ℕ, ltb, leb, eqb, length, drop, get_or}
use Rattle.answer.specs.Answer.{Answer, done, refused, next, behind}
use Rattle.answer.specs.Order.{in_order}
use Rattle.types.specs.Value.{string, value}
use Rattle.frame.specs.declared.Pair.{Pair}
use Rattle.frame.specs.declared.Action.{Action}
use Rattle.payload.specs.Pair.{pair_of, moved_pair, pair}

-- how many arguments a set has, and an unset
abbrev pub argument_count : ℕ → ℕ
argument_count verb = cond (eqb verb 1) 3 2

-- A set's variable is a name and a value, as a pair's key and value are; an unset's is a name alone, with no number but 0 for its value.
unfoldable pub variable : ℕ → List ℕ → Answer Pair
variable verb s = cond (eqb verb 1) (pair s) (next (string s) (λ name used. done (pair_of name (value 0 0 0 0)) used))

-- The action at the front: three bytes, each of which is to be there and to be known before the next is asked for, and the variable.
unfoldable pub action : List ℕ → Answer Action
action s =
    let verb = get_or s 0 0 in
    let scope = get_or s 2 0 in
    in_order (
    (refused 3 0, ltb 0 (length s))
    ∷ (refused 18 1, eqb verb 1 || eqb verb 2)
    ∷ (refused 3 1, ltb 1 (length s))
    ∷ (refused 18 2, eqb (get_or s 1 0) (argument_count verb))
    ∷ (refused 3 2, ltb 2 (length s))
    ∷ (refused 18 3, leb scope 4) ∷ [])
    (next (behind moved_pair 3 (variable verb (drop 3 s))) (λ p used. done (record { verb = verb; scope = scope; pair = p }) used))

-- an action behind n other bytes: its starts move; and the one that stands at a place
abbrev pub moved_action : ℕ → Action → Action
moved_action n x = record { verb = x.verb; scope = x.scope; pair = moved_pair n x.pair }

abbrev pub action_from : ℕ → List ℕ → Answer Action
action_from at s = behind moved_action at (action (drop at s))
