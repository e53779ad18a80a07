-- No second result meets a call's promise: it fixes the answer and the lent bytes.
use Rattle.std.specs.Prelude.{◌≡◌, List, ℕ, Result}
use Rattle.answer.specs.declared.Read.{Read}
use Rattle.answer.specs.declared.Refusal.{Refusal}
use Rattle.answer.specs.Writes.{read_said}
use Rattle.answer.proofs.Same.{read_same, one_only}
use Rattle.varint.specs.Promise.{DecodeVarint}

-- answers that say the same are the same
pub number_said_same : (a b : Result (Read ℕ) Refusal) → read_said a ≡ read_said b → a ≡ b
number_said_same a b e = read_same a b e

pub decode_varint_unique : (s : List ℕ) (r q : Result (Read ℕ) Refusal) → DecodeVarint s r → DecodeVarint s q → r ≡ q
decode_varint_unique s r q p o = number_said_same r q (one_only p.says o.says)
