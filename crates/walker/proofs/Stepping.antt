-- Laws about a step: what it comes to, by what stands at its place.
use mathlib.Core.Path.{◌≡◌, refl, sym, ap, ◌∙◌}
use mathlib.Core.Bool.{true, false}
use mathlib.Core.List.{List}
use Prim.Native.Nat.{ℕ, ◌≤◌}
use lib.ListN.{length, drop, drop_of_length-le}
use Rattle.std.specs.Prelude.{Option}
use Rattle.answer.specs.Answer.{Answer, done, refused, behind}
use Rattle.answer.proofs.Cases.{bool_cases, not_both}
use Rattle.varint.specs.Number.{number}
use Rattle.varint.proofs.Reading.{number_none}
use Rattle.frame.specs.declared.Pair.{Pair}
use Rattle.frame.specs.Read.{still}
use Rattle.payload.specs.Pair.{pair_from}
use Rattle.payload.specs.Item.{one, no_more}
use Rattle.walker.specs.declared.Found.{Found}
use Rattle.walker.specs.declared.Place.{Place}
use Rattle.walker.specs.Walk.{end_or, behind_number, comes, after_place, step_said, walk_step}

-- no number stands behind the end
pub number_past : (s : List ℕ) (at : ℕ) → length s ≤ at → number (drop at s) ≡ refused 3 0
number_past s at h = ap number (drop_of_length-le s h) ∙ number_none

pub none_past : (s : List ℕ) (at : ℕ) → length s ≤ at → length s ≡ behind_number s at
none_past s at h = sym (ap (λ (a : Answer ℕ). end_or (length s) (behind still at a)) (number_past s at h))

module _ (s : List ℕ) (x : Place) where
  pub step_end : comes s x ≡ false → walk_step s x ≡ no_more
  unfolding walk_step
  step_end e = rw e

  module _ (e : comes s x ≡ true) where
    pub step_is : (a : Answer Pair) → pair_from x.at s ≡ a → walk_step s x ≡ step_said x a
    unfolding walk_step
    step_is a f = rw (e, f)

  -- A step that finds a pair found the one that stands there.
  pub record StepFound (p : Pair) (y : Place) : Type 0 where
    pub end : ℕ
    pub from : pair_from x.at s ≡ done p end
    pub next : y ≡ after_place x end

  pub step_found : (p : Pair) (y : Place) → walk_step s x ≡ one (record { pair = p; next = y }) → StepFound p y
  step_found p y e = bool_cases (comes s x) (λ t. on t (pair_from x.at s) refl) (λ t. no_end (sym (step_end t) ∙ e))
    where
      no_end : ◌≡◌ {A = Answer (Option Found)} no_more (one (record { pair = p; next = y })) → StepFound p y
      no_end g = absurd (cc g)

      on : comes s x ≡ true → (a : Answer Pair) → pair_from x.at s ≡ a → StepFound p y
      on t (done q end) f =
          let g : ◌≡◌ {A = Answer (Option Found)} (one (record { pair = q; next = after_place x end })) (one (record { pair = p; next = y })) = sym (step_is t (done q end) f) ∙ e in
          let both : ◌≡◌ {A = Found} (record { pair = q; next = after_place x end }) (record { pair = p; next = y }) = cc in
          let same : q ≡ p = ap (λ (z : Found). z.pair) both in
          record { end = end; from = f ∙ ap (λ (r : Pair). done r end) same; next = sym (ap (λ (z : Found). z.next) both) }
      on t (refused n place) f = not_both e (step_is t (refused n place) f)
