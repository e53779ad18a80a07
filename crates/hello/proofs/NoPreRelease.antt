-- The wording that was: an announced version is three numbers, and the major number 2 is enough. It stays true of versions without a
-- pre-release part.
use mathlib.Core.Path.{◌≡◌, refl, sym, ap, ap₂, ◌∙◌}
use mathlib.Core.Bool.{Bool, false, cond, ◌||◌}
use mathlib.Core.List.{List, [], ◌∷◌}
use Prim.Native.Nat.{ℕ, zero, suc, ◌+◌, ◌/◌, ◌<◌}
use native.Mathlib.Omega.{arith}
use Rattle.std.specs.Prelude.{Option, Some, None}
use lib.Dec.{eqb}
use lib.ListN.{length}
use borrow.Author.Tests.{eqb-true, eqb-false}
use Rattle.answer.specs.Table.{records, joined, some}
use Rattle.answer.proofs.Cases.{bool_cases}
use Rattle.hello.specs.declared.Announced.{Announced}
use Rattle.hello.specs.declared.Version.{Version}
use Rattle.hello.specs.Hello.{version_width, version_at, covers, announced, choice}
use Rattle.hello.proofs.Laws.{covers_other, covers_normal, announced_none, announced_on}

-- the definition that was
unfoldable pub major_two : List ℕ → Bool
major_two [] = false
major_two (major ∷ []) = false
major_two (major ∷ minor ∷ []) = false
major_two (major ∷ minor ∷ patch ∷ others) = eqb major 2 || major_two others

unfoldable pub choice_by_major : List ℕ → Option Version
choice_by_major versions = cond (major_two versions) (Some (record { major = 2; minor = 0; patch = 0 })) None

-- the first three numbers of each version of a table
abbrev pub first_three : Announced → List ℕ
first_three v = v.major ∷ v.minor ∷ v.patch ∷ []

abbrev pub in_threes : List ℕ → List ℕ
in_threes versions = joined first_three (records (version_at versions) 0 (length versions / version_width))

-- without a pre-release part the major number decides
normal_covers : (v : Announced) → v.pre ≡ 0 → covers v ≡ eqb v.major 2
normal_covers v normal =
    bool_cases (eqb v.major 2)
    (λ t. covers_normal v (eqb-true _ _ t) normal ∙ sym t)
    (λ t. covers_other v (eqb-false _ _ t) ∙ sym t)

-- by one version after the other
records_three : (at : ℕ → Announced) (n first : ℕ) → ((i : ℕ) → i < n → (at (first + i)).pre ≡ 0)
    → some covers (records at first n) ≡ major_two (joined first_three (records at first n))
unfolding records joined some major_two
records_three at zero first normal = refl
records_three at (suc n) first normal =
    let here : first + 0 ≡ first = omega arith in
    let now : covers (at first) ≡ eqb (at first).major 2 = normal_covers (at first) (rw here at (normal 0 (omega arith))) in
    let later = records_three at n (suc first) (λ i h. ap (λ (k : ℕ). (at k).pre) (omega arith) ∙ normal (suc i) (omega arith)) in
    bool_cases (eqb (at first).major 2)
    (λ t. simp (now, t))
    (λ t. simp (now, t, later))

-- Law: where no announced version has a pre-release part, it is as it was, of the first three numbers of each.
module _ (versions : List ℕ) (normal : (i : ℕ) → i < length versions / version_width → (version_at versions i).pre ≡ 0) where
  pub no_pre_release : announced versions ≡ major_two (in_threes versions)
  unfolding announced
  no_pre_release = records_three (version_at versions) (length versions / version_width) 0 (λ i h. ap (λ (k : ℕ). (version_at versions k).pre) (omega arith) ∙ normal i h)

  pub no_pre_release_choice : choice versions ≡ choice_by_major (in_threes versions)
  unfolding choice choice_by_major
  no_pre_release_choice = ap (λ (t : Bool). cond t (Some (record { major = 2; minor = 0; patch = 0 })) None) no_pre_release

  -- what `negotiate_version` answers
  pub no_pre_release_answer : (r : Option Version) → r ≡ choice versions → r ≡ choice_by_major (in_threes versions)
  no_pre_release_answer r p = p ∙ no_pre_release_choice

-- The same from three numbers to four: with 0 behind each version of a list it is as it was.
abbrev pub as_three : Version → List ℕ
as_three v = v.major ∷ v.minor ∷ v.patch ∷ []

abbrev pub as_four : Version → List ℕ
as_four v = v.major ∷ v.minor ∷ v.patch ∷ 0 ∷ []

pub zero_behind : (vs : List Version) → announced (joined as_four vs) ≡ major_two (joined as_three vs)
unfolding joined major_two
zero_behind [] = announced_none [] (omega arith)
zero_behind (v ∷ vs) =
    let four : Announced = record { major = v.major; minor = v.minor; patch = v.patch; pre = 0 } in
    announced_on four (joined as_four vs) ∙ ap₂ ◌||◌ (normal_covers four refl) (zero_behind vs)
