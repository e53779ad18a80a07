-- No second result meets the promise of a check, a reader or a writer.
use mathlib.Core.Path.{◌≡◌, refl, sym, ap, ◌∙◌}
use mathlib.Core.List.{List, [], ◌∷◌}
use Prim.Native.Nat.{ℕ, ◌-◌}
use native.Mathlib.Omega.{arith}
use Rattle.std.specs.Prelude.{slice_index_or, Result, Ok, Err}
use Rattle.answer.specs.declared.Reason.{Reason}
use Rattle.answer.specs.declared.Reason.TheVariants as reason
use Rattle.answer.specs.declared.Refusal.{Refusal}
use Rattle.answer.specs.declared.Read.{Read}
use Rattle.answer.specs.Reason.{number_of}
use Rattle.answer.specs.Order.{Check, Checked}
use Rattle.answer.specs.Answer.{Answer}
use Rattle.answer.specs.Writes.{read_said, said, Writes}

-- the reason that has a number, from 2 to 19
abbrev reasons : List Reason
reasons =
    reason.Oversize
    ∷ reason.TooSoon
    ∷ reason.Unknown
    ∷ reason.Aborted
    ∷ reason.OtherSide
    ∷ reason.TooLarge
    ∷ reason.NoType
    ∷ reason.MetTwice
    ∷ reason.TableFull
    ∷ reason.NoRoom
    ∷ reason.OverLimit
    ∷ reason.SizeTooSmall
    ∷ reason.NotWritable
    ∷ reason.NotText
    ∷ reason.Outside
    ∷ reason.TooMany
    ∷ reason.UnknownAction
    ∷ reason.NotFitting ∷ []

abbrev reason_of : ℕ → Reason
reason_of n = slice_index_or reasons (n - 2) reason.Oversize

-- a reason is that of its number
named : (r : Reason) → reason_of (number_of r) ≡ r
named reason.Oversize = refl
named reason.TooSoon = refl
named reason.Unknown = refl
named reason.Aborted = refl
named reason.OtherSide = refl
named reason.TooLarge = refl
named reason.NoType = refl
named reason.MetTwice = refl
named reason.TableFull = refl
named reason.NoRoom = refl
named reason.OverLimit = refl
named reason.SizeTooSmall = refl
named reason.NotWritable = refl
named reason.NotText = refl
named reason.Outside = refl
named reason.TooMany = refl
named reason.UnknownAction = refl
named reason.NotFitting = refl

-- no two reasons have one number
pub reason_same : (r q : Reason) → number_of r ≡ number_of q → r ≡ q
reason_same r q e = sym (named r) ∙ ap reason_of e ∙ named q

-- and none has the number 0
pub reason_some : (r : Reason) → number_of r ≡ 0 → ⊥
reason_some reason.Oversize e = absurd (omega arith)
reason_some reason.TooSoon e = absurd (omega arith)
reason_some reason.Unknown e = absurd (omega arith)
reason_some reason.Aborted e = absurd (omega arith)
reason_some reason.OtherSide e = absurd (omega arith)
reason_some reason.TooLarge e = absurd (omega arith)
reason_some reason.NoType e = absurd (omega arith)
reason_some reason.MetTwice e = absurd (omega arith)
reason_some reason.TableFull e = absurd (omega arith)
reason_some reason.NoRoom e = absurd (omega arith)
reason_some reason.OverLimit e = absurd (omega arith)
reason_some reason.SizeTooSmall e = absurd (omega arith)
reason_some reason.NotWritable e = absurd (omega arith)
reason_some reason.NotText e = absurd (omega arith)
reason_some reason.Outside e = absurd (omega arith)
reason_some reason.TooMany e = absurd (omega arith)
reason_some reason.UnknownAction e = absurd (omega arith)
reason_some reason.NotFitting e = absurd (omega arith)

-- of any check
pub checked_unique : (checks : List Check) (r q : Result Unit Reason) → Checked checks r → Checked checks q → r ≡ q
checked_unique checks (Ok u) (Ok v) p s = refl
checked_unique checks (Ok u) (Err e) p s = absurd (reason_some e (s ∙ sym p))
checked_unique checks (Err e) (Ok u) p s = absurd (reason_some e (p ∙ sym s))
checked_unique checks (Err e) (Err g) p s = ap Err (reason_same e g (p ∙ sym s))

-- a refusal is its number and its place
pub refusal_same : (r q : Refusal) → number_of r.reason ≡ number_of q.reason → r.place ≡ q.place → r ≡ q
refusal_same r q e f = let same = reason_same r.reason q.reason e in λ i. record { reason = same i; place = f i }

-- answers that say the same are the same
pub said_same : (a b : Result ℕ Refusal) → said a ≡ said b → a ≡ b
said_same (Ok u) (Ok u') e = let q : u ≡ u' = cc in cc
said_same (Ok u) (Err q) e = let z : ◌≡◌ {A = ℕ} 0 1 = cc in absurd (omega arith)
said_same (Err r) (Ok u) e = let z : ◌≡◌ {A = ℕ} 0 1 = cc in absurd (omega arith)
said_same (Err r) (Err q) e = ap Err (refusal_same r q (cc) (cc))

pub read_same : {A : Type 0} (a b : Result (Read A) Refusal) → read_said a ≡ read_said b → a ≡ b
read_same {A} (Ok x) (Ok y) e =
    let v : x.value ≡ y.value = cc in
    let u : x.used ≡ y.used = cc in
    let same : ◌≡◌ {A = Read A} x y = λ i. record { value = v i; used = u i } in ap Ok same
read_same (Ok x) (Err q) e = let z : ◌≡◌ {A = ℕ} 0 1 = cc in absurd (omega arith)
read_same (Err r) (Ok y) e = let z : ◌≡◌ {A = ℕ} 0 1 = cc in absurd (omega arith)
read_same (Err r) (Err q) e = ap Err (refusal_same r q (cc) (cc))

-- of any writer
pub writes_unique : {a : Answer (List ℕ)} {r q : Result ℕ Refusal} {old new other : List ℕ} → Writes a r old new → Writes a q old other → (r ≡ q) × (new ≡ other)
writes_unique {r = r} {q = q} p s = (said_same r q (p.says ∙ sym s.says), p.holds ∙ sym s.holds)

-- of any call whose answer an equation gives
pub one_only : {A : Type 0} {r q x : A} → r ≡ x → q ≡ x → r ≡ q
one_only p s = p ∙ sym s
