-- Pairs: SPOE.txt, section 3.2.
--
--     KV-LIST          : [ <KV-NAME> <KV-VALUE> ... ]
--     KV-NAME          : <STRING>
--     KV-VALUE         : <TYPED-DATA>
use Rattle.std.specs.Prelude.{Bool, not, List, [], ◌∷◌, ◌++◌, ℕ}
use Rattle.answer.specs.Order.{Check}
use Rattle.answer.specs.Table.{records, some}
use Rattle.types.specs.Form.{string_bytes, value_bytes, writable_record}
use Rattle.types.specs.Check.{string_checks, part_checks}
use Rattle.types.specs.Promise.{record_of}
use Rattle.frame.specs.declared.Pair.{Pair}
use Rattle.frame.specs.Records.{pair_at, key_of, same_key}

unfoldable pub pair_bytes : List ℕ → Pair → List ℕ
pair_bytes buffer p = string_bytes (key_of buffer p) ++ value_bytes buffer (record_of p.value)

-- the value's numbers; the key's range and text; the value's range and text
abbrev pub pair_checks : List ℕ → Pair → List Check
pair_checks buffer p =
    (14, writable_record (record_of p.value))
    ∷ (string_checks buffer p.start p.len ++ part_checks buffer (record_of p.value))

-- whether pair i has a key that none before it has
unfoldable pub new_key : List ℕ → List ℕ → ℕ → Bool
new_key buffer pairs i = not (some (same_key buffer (pair_at pairs i)) (records (pair_at pairs) 0 i))

-- what pair i of a KV list is refused with: its keys are met once
abbrev pub kv_checks : List ℕ → List ℕ → ℕ → List Check
kv_checks buffer pairs i = pair_checks buffer (pair_at pairs i) ++ ((9, new_key buffer pairs i) ∷ [])
