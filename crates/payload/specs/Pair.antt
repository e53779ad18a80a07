-- Pairs, read: SPOE.txt, section 3.2.
--
--     KV-LIST          : [ <KV-NAME> <KV-VALUE> ... ]
--     KV-NAME          : <STRING>
--     KV-VALUE         : <TYPED-DATA>
use Rattle.std.specs.Prelude.{List, ℕ, ◌+◌, drop}
use Rattle.answer.specs.Answer.{Answer, done, next, behind}
use Rattle.types.specs.declared.Span.{Span}
use Rattle.types.specs.Value.{span, string, Record, value, moved, typed}
use Rattle.types.specs.Promise.{record_of}
use Rattle.frame.specs.declared.Pair.{Pair}

-- where a key stands and a value, as a record
abbrev pub pair_of : Span → Record → Pair
pair_of key (value kind a b flags) = record { start = key.start; len = key.len; value = record { kind = kind; a = a; b = b; flags = flags } }

-- a pair behind n other bytes: its starts move
abbrev pub moved_pair : ℕ → Pair → Pair
moved_pair n p = pair_of (span (n + p.start) p.len) (moved n (record_of p.value))

-- The pair at the front: its key, and its value behind that. A key that cannot be read answers with its own refusal.
unfoldable pub pair : List ℕ → Answer Pair
pair s = next (string s) (λ key used. next (behind moved used (typed (drop used s))) (λ v all. done (pair_of key v) all))

-- the pair that stands at a place
abbrev pub pair_from : ℕ → List ℕ → Answer Pair
pair_from at s = behind moved_pair at (pair (drop at s))
