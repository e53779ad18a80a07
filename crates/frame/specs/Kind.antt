-- Types of frame and their numbers (SPOE.txt, section 3.2.2).
use Rattle.std.specs.Prelude.{◌≡◌, false, ℕ, eqb, Result, MatchResult}
use Rattle.answer.specs.Table.{some}
use Rattle.frame.specs.declared.kind.FrameType.{FrameType}
use Rattle.frame.specs.declared.kind.FrameType.TheVariants as type
use Rattle.frame.specs.declared.kind.UnknownType.{UnknownType}
use Rattle.frame.specs.Read.{frame_types}

abbrev pub number_of_type : FrameType → ℕ
number_of_type type.HAProxyHello = 1
number_of_type type.HAProxyDisconnect = 2
number_of_type type.Notify = 3
number_of_type type.AgentHello = 101
number_of_type type.AgentDisconnect = 102
number_of_type type.Ack = 103

-- the type that has a number, or the number, which none has
abbrev pub Numbered : ℕ → Result FrameType UnknownType → Type 0
Numbered n r = MatchResult r (λ t. number_of_type t ≡ n) (λ e. (e.0 ≡ n) × (some (eqb n) frame_types ≡ false))
