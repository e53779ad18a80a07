-- What those calls promise whose contracts name a promise.
use Rattle.std.specs.Prelude.{◌≡◌, List, ℕ, Option, Result}
use Rattle.std.specs.Borrow.{Bor}
use Rattle.answer.specs.declared.Refusal.{Refusal}
use Rattle.payload.specs.Item.{next_said}
use Rattle.walker.specs.declared.Found.{Found}
use Rattle.walker.specs.declared.Place.{Place}
use Rattle.walker.specs.declared.Walker.{Walker}
use Rattle.walker.specs.Walk.{walk_step}

-- a walker holds the borrow that was lent, and the place
abbrev pub New : Bor (List ℕ) → Place → Walker → Type 0
New frame place r = r ≡ record { frame = frame; place = place }

abbrev pub Moved : Walker → Place → Walker → Type 0
Moved w place r = r ≡ record { frame = w.frame; place = place }

-- `step_from` takes the step at a place, and `next` that at the walker's.
abbrev pub StepFrom : List ℕ → Place → Result (Option Found) Refusal → Type 0
StepFrom frame place r = next_said r ≡ walk_step frame place

abbrev pub Next : Walker → Result (Option Found) Refusal → Type 0
Next w r = StepFrom w.frame.now w.place r
