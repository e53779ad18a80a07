-- The number of each reason that a call refuses for (docs/RULES.md, "Numbers of refusal").
use Rattle.std.specs.Prelude.{ℕ, Result, Ok, Err}
use Rattle.answer.specs.declared.Reason.{Reason}
use Rattle.answer.specs.declared.Reason.TheVariants as reason

abbrev pub number_of : Reason → ℕ
number_of reason.Oversize = 2
number_of reason.TooSoon = 3
number_of reason.Unknown = 4
number_of reason.Aborted = 5
number_of reason.OtherSide = 6
number_of reason.TooLarge = 7
number_of reason.NoType = 8
number_of reason.MetTwice = 9
number_of reason.TableFull = 10
number_of reason.NoRoom = 11
number_of reason.OverLimit = 12
number_of reason.SizeTooSmall = 13
number_of reason.NotWritable = 14
number_of reason.NotText = 15
number_of reason.Outside = 16
number_of reason.TooMany = 17
number_of reason.UnknownAction = 18
number_of reason.NotFitting = 19

-- what a check says: the number of its reason, or 0
abbrev pub reason_said : {A : Type 0} → Result A Reason → ℕ
reason_said (Ok x) = 0
reason_said (Err reason) = number_of reason
