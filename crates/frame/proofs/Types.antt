-- Laws about types of frame and their numbers.
use Rattle.std.specs.Prelude.{◌≡◌, true, cond, ℕ, eqb, Result, Ok, Err}
use mathlib.Core.Path.{refl, sym, ap, ◌∙◌}
use Rattle.answer.specs.Table.{some}
use Rattle.answer.proofs.Cases.{true_false}
use Rattle.frame.specs.declared.kind.FrameType.{FrameType}
use Rattle.frame.specs.declared.kind.FrameType.TheVariants as type
use Rattle.frame.specs.declared.kind.UnknownType.{UnknownType}
use Rattle.frame.specs.Kind.{number_of_type, Numbered}
use Rattle.frame.specs.Read.{frame_types}

-- a type's number is known
known : (t : FrameType) → some (eqb (number_of_type t)) frame_types ≡ true
unfolding some
known type.HAProxyHello = refl
known type.HAProxyDisconnect = refl
known type.Notify = refl
known type.AgentHello = refl
known type.AgentDisconnect = refl
known type.Ack = refl

pub type_known : (t : FrameType) (n : ℕ) → number_of_type t ≡ n → some (eqb n) frame_types ≡ true
type_known t n e = ap (λ (k : ℕ). some (eqb k) frame_types) (sym e) ∙ known t

-- a type is that of its number
abbrev type_of : ℕ → FrameType
type_of n =
    cond (eqb n 1) type.HAProxyHello
    (cond (eqb n 2) type.HAProxyDisconnect
    (cond (eqb n 3) type.Notify
    (cond (eqb n 101) type.AgentHello
    (cond (eqb n 102) type.AgentDisconnect type.Ack))))

numbered : (t : FrameType) → type_of (number_of_type t) ≡ t
numbered type.HAProxyHello = refl
numbered type.HAProxyDisconnect = refl
numbered type.Notify = refl
numbered type.AgentHello = refl
numbered type.AgentDisconnect = refl
numbered type.Ack = refl

-- no second answer meets what the conversion promises
pub numbered_unique : (n : ℕ) (r q : Result FrameType UnknownType) → Numbered n r → Numbered n q → r ≡ q
numbered_unique n (Ok t) (Ok u) p s = ap Ok (sym (numbered t) ∙ ap type_of (p ∙ sym s) ∙ numbered u)
numbered_unique n (Ok t) (Err e) p s = absurd (true_false (type_known t n p) s.1)
numbered_unique n (Err e) (Ok u) p s = absurd (true_false (type_known u n s) p.1)
numbered_unique n (Err e) (Err f) p s = ap (λ (k : ℕ). Err (record { 0 = k })) (p.0 ∙ sym s.0)
