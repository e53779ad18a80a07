-- What those calls promise whose contracts name a promise.
use Rattle.std.specs.Prelude.{◌≡◌, List, ℕ, take, Result}
use Rattle.answer.specs.declared.Read.{Read}
use Rattle.answer.specs.declared.Refusal.{Refusal}
use Rattle.answer.specs.Answer.{Answer, done, refused}
use Rattle.answer.specs.Writes.{read_said}
use Rattle.varint.specs.Number.{number, number_bytes}

-- a number that was read took exactly the bytes that it is written as
abbrev pub Exactly : List ℕ → Answer ℕ → Type 0
Exactly input (done value used) = take used input ≡ number_bytes value
Exactly input (refused why place) = Unit

-- `decode_varint` reads the number at the front of the bytes, and none from other bytes than those that it is written as.
pub record DecodeVarint (input : List ℕ) (r : Result (Read ℕ) Refusal) : Type 0 where
  pub says : read_said r ≡ number input
  pub exact : Exactly input (number input)
