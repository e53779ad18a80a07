-- What only private contracts cite. No public promise rests on anything in this file.
use Rattle.std.specs.Prelude.{cond, List, [], ◌∷◌, ℕ, eqb, Result, Ok, Err}
use Rattle.frame.specs.declared.Head.{Head}
use Rattle.payload.specs.declared.Counts.{Counts}
use Rattle.answer.specs.declared.Read.{Read}
use Rattle.answer.specs.declared.Reason.TheVariants as reason
use Rattle.frame.specs.declared.Stop.{Stop}
use Rattle.frame.specs.declared.Stop.TheVariants as stop
use Rattle.parser.specs.declared.Frame.{Frame}
use Rattle.buffer.specs.declared.Totals.{Totals}

-- what stops it where there is no row left, by what is said of the frame there
abbrev pub stop_of : Result (Read Frame) Stop → Stop
stop_of (Ok x) = stop.Refused (record { reason = reason.TableFull; place = x.used })
stop_of (Err e) = e

-- the numbers of a row, where counts stand for the records
abbrev pub numbers_of : Totals → Head → Counts → ℕ → List ℕ
numbers_of x h counts used =
    let messages = eqb h.frame_type 3 in
    x.bytes ∷ used ∷ h.frame_type ∷ h.stream ∷ h.frame
    ∷ cond messages x.messages x.pairs ∷ cond messages counts.messages counts.pairs ∷ []
