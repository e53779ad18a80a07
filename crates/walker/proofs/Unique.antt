-- No second result meets a promise.
use mathlib.Core.Path.{◌≡◌, sym, ◌∙◌}
use mathlib.Core.List.{List}
use Prim.Native.Nat.{ℕ}
use denote.Ref.{Bor}
use Rattle.std.specs.Prelude.{Option, Result}
use Rattle.answer.specs.declared.Refusal.{Refusal}
use Rattle.payload.proofs.Unique.{next_same}
use Rattle.walker.specs.declared.Found.{Found}
use Rattle.walker.specs.declared.Place.{Place}
use Rattle.walker.specs.declared.Walker.{Walker}
use Rattle.walker.specs.Promise.{New, Moved, StepFrom, Next}

pub new_unique : (frame : Bor (List ℕ)) (place : Place) (r q : Walker) → New frame place r → New frame place q → r ≡ q
new_unique frame place r q p s = p ∙ sym s

pub moved_unique : (w : Walker) (place : Place) (r q : Walker) → Moved w place r → Moved w place q → r ≡ q
moved_unique w place r q p s = p ∙ sym s

pub step_from_unique : (frame : List ℕ) (place : Place) (r q : Result (Option Found) Refusal) → StepFrom frame place r → StepFrom frame place q → r ≡ q
step_from_unique frame place r q p s = next_same r q (p ∙ sym s)

pub next_unique : (w : Walker) (r q : Result (Option Found) Refusal) → Next w r → Next w q → r ≡ q
next_unique w r q p s = next_same r q (p ∙ sym s)
