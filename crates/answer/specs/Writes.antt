-- What readers and writers say, and what a writer leaves.
use Rattle.std.specs.Prelude.{◌≡◌, List, ℕ, ◌+◌, ◌-◌, ◌^◌, min, length, Result, Ok, Err}
use Rattle.answer.specs.declared.Read.{Read}
use Rattle.answer.specs.declared.Refusal.{Refusal}
use Rattle.answer.specs.Answer.{Answer, done, refused, within, leaves, tells}
use Rattle.answer.specs.Reason.{number_of}

-- what a refusal says
abbrev pub refusal_said : {A : Type 0} → Refusal → Answer A
refusal_said r = refused (number_of r.reason) r.place

-- what a reader's answer says
abbrev pub read_said : {A : Type 0} → Result (Read A) Refusal → Answer A
read_said (Ok x) = done x.value x.used
read_said (Err r) = refusal_said r

-- the same of bytes that n others stand before, as far as a count goes that has 64 bits
abbrev pub read_behind : {A : Type 0} → ℕ → Result (Read A) Refusal → Result (Read A) Refusal
read_behind n (Ok x) = Ok (record { value = x.value; used = min (n + x.used) (2 ^ 64 - 1) })
read_behind n (Err r) = Err (record { reason = r.reason; place = min (n + r.place) (2 ^ 64 - 1) })

-- what a writer's answer says
abbrev pub said : Result ℕ Refusal → Answer Unit
said (Ok n) = done tt n
said (Err r) = refusal_said r

-- A writer that is to give the answer a, where the bytes lent to it have room: it says so, and these, old before, are new afterwards.
pub record Writes (a : Answer (List ℕ)) (r : Result ℕ Refusal) (old new : List ℕ) : Type 0 where
  pub says : said r ≡ tells (within (length old) a)
  pub holds : new ≡ leaves (within (length old) a) old

-- how many bytes were written: none after a refusal
abbrev pub counted : {E : Type 0} → Result ℕ E → ℕ
counted (Ok n) = n
counted (Err r) = 0
