-- What a pair, an action and a message mean, wherever their bytes stand: a key's bytes and a value's meaning; what it does, the scope, and the
-- variable as a pair; a name's bytes, the first pair and how many.
use mathlib.Core.List.{List}
use Prim.Native.Nat.{ℕ}
use Rattle.types.specs.Form.{part}
use Rattle.types.specs.Promise.{record_of}
use Rattle.types.proofs.Roundtrip.{Meaning, meaning}
use Rattle.frame.specs.declared.Pair.{Pair}
use Rattle.frame.specs.declared.Action.{Action}
use Rattle.frame.specs.declared.Message.{Message}
use Rattle.frame.specs.Records.{key_of}

abbrev pub pair_meaning : List ℕ → Pair → List ℕ × Meaning
pair_meaning buffer p = (key_of buffer p, meaning buffer (record_of p.value))

abbrev pub action_meaning : List ℕ → Action → ℕ × ℕ × (List ℕ × Meaning)
action_meaning buffer x = (x.verb, x.scope, pair_meaning buffer x.pair)

abbrev pub message_meaning : List ℕ → Message → List ℕ × ℕ × ℕ
message_meaning buffer m = (part buffer m.start m.len, m.first, m.count)
