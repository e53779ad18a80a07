-- Laws about the negotiations: what each test decides, how the versions are looked at, and what a choice says.
use mathlib.Core.Path.{◌≡◌, refl, sym, ap, ap₂, ◌∙◌}
use mathlib.Core.Bool.{Bool, true, false, cond, ◌||◌}
use mathlib.Core.List.{List, [], ◌∷◌}
use Prim.Native.Nat.{ℕ, zero, suc, ◌+◌, ◌*◌, ◌/◌, ◌≤◌, ◌<◌, min}
use native.Mathlib.Omega.{arith}
use Rattle.std.specs.Prelude.{Some, None}
use lib.Dec.{ltb}
use lib.ListN.{length}
use borrow.Author.Tests.{le-leb, lt-leb, eq-eqb, ne_eqb}
use Rattle.answer.specs.Answer.{done, refused}
use Rattle.answer.specs.Table.{number_at, records, some}
use Rattle.answer.proofs.Cases.{bool_cases}
use Rattle.answer.proofs.Rows.{number_later}
use Rattle.answer.proofs.Records.{records_none, records_run, some_none}
use Rattle.hello.specs.declared.Announced.{Announced}
use Rattle.hello.specs.declared.Version.{Version}
use Rattle.std.specs.Bool.{then_some}
use Rattle.std.specs.List.{list_any}
use Rattle.std.specs.Simd.{first_chunks}
use Rattle.hello.specs.Hello.{frame_size, version_width, version_at, covers, announced, choice}

module _ (theirs ours : ℕ) where
  pub size_theirs : theirs < 256 → frame_size theirs ours ≡ refused 13 0
  unfolding frame_size
  size_theirs h = simp (lt-leb 256 theirs h)

  pub size_ours : 256 ≤ theirs → ours < 256 → frame_size theirs ours ≡ refused 13 0
  unfolding frame_size
  size_ours g h = simp (le-leb 256 theirs g, lt-leb 256 ours h)

  pub size_both : 256 ≤ theirs → 256 ≤ ours → frame_size theirs ours ≡ done tt (min theirs ours)
  unfolding frame_size
  size_both g h = simp (le-leb 256 theirs g, le-leb 256 ours h)

-- which announced versions cover 2.0.0
module _ (v : Announced) where
  pub covers_other : (v.major ≡ 2 → ⊥) → covers v ≡ false
  unfolding covers
  covers_other other = simp (ne_eqb v.major 2 other)

  pub covers_normal : v.major ≡ 2 → v.pre ≡ 0 → covers v ≡ true
  unfolding covers
  covers_normal two normal = simp (eq-eqb v.major 2 two, eq-eqb v.pre 0 normal)

  pub covers_candidate : v.major ≡ 2 → (v.pre ≡ 0 → ⊥) → covers v ≡ (ltb 0 v.minor || ltb 0 v.patch)
  unfolding covers
  covers_candidate two candidate = simp (eq-eqb v.major 2 two, ne_eqb v.pre 0 candidate)

-- Law: fewer numbers than a version has announce nothing.
pub announced_none : (s : List ℕ) → length s < version_width → announced s ≡ false
unfolding announced
announced_none s h =
    let none : length s / version_width ≡ 0 = omega arith in
    ap (λ (n : ℕ). some covers (records (version_at s) 0 n)) none ∙ ap (some covers) (records_none (version_at s) 0) ∙ some_none covers

-- Law: the first version is enough, or those behind it decide.
module _ (v : Announced) (others : List ℕ) where
  abbrev with_first : List ℕ
  with_first = v.major ∷ v.minor ∷ v.patch ∷ v.pre ∷ others

  -- a version behind the first stands there without the first too, one earlier
  number_behind : (i k : ℕ) → number_at version_width with_first (1 + i) k ≡ number_at version_width others i k
  number_behind i k = number_later version_width 1 (v.major ∷ v.minor ∷ v.patch ∷ v.pre ∷ []) others refl i k

  behind_first : (i : ℕ) → version_at with_first (1 + i) ≡ version_at others i
  unfolding version_at
  behind_first i =
      let on = number_behind i in
      λ j. record { major = on 0 j; minor = on 1 j; patch = on 2 j; pre = on 3 j }

  first_is : version_at with_first 0 ≡ v
  unfolding version_at
  first_is = simp (le-leb ((0 + 1) * version_width) (length with_first) (omega arith))

  pub announced_on : announced with_first ≡ (covers v || announced others)
  unfolding announced records some
  announced_on =
      let n = length others / version_width in
      let more : length with_first / version_width ≡ suc n = omega arith in
      let same : records (version_at with_first) 1 n ≡ records (version_at others) 0 n =
      records_run (version_at with_first) 1 n ∙ ap (λ (at : ℕ → Announced). records at 0 n) (λ j i. behind_first i j)
      in
      ap (λ (m : ℕ). some covers (records (version_at with_first) 0 m)) more
      ∙ ap₂ (λ (x : Announced) (l : List Announced). cond (covers x) true (some covers l)) first_is same
      ∙ bool_cases (covers v) (λ t. rw t) (λ t. rw t)

-- Law: so one is announced where one of the table's chunks covers 2.0.0, each read by itself.
abbrev pub one_covers : List (List ℕ) → Bool
one_covers = list_any (λ (numbers : List ℕ). covers (version_at numbers 0))

chunks_cover : (n : ℕ) (s : List ℕ) → length s / version_width ≡ n → one_covers (first_chunks version_width n s) ≡ announced s
chunks_cover zero s e = sym (announced_none s (omega arith))
chunks_cover (suc n) [] e = absurd (omega arith)
chunks_cover (suc n) (a ∷ []) e = absurd (omega arith)
chunks_cover (suc n) (a ∷ b ∷ []) e = absurd (omega arith)
chunks_cover (suc n) (a ∷ b ∷ c ∷ []) e = absurd (omega arith)
chunks_cover (suc n) (a ∷ b ∷ c ∷ d ∷ s) e =
    let first : Announced = record { major = a; minor = b; patch = c; pre = d } in
    ap₂ ◌||◌ (ap covers (first_is first [])) (chunks_cover n s (omega arith)) ∙ sym (announced_on first s)

pub announced_chunks : (s : List ℕ) → one_covers (first_chunks version_width (length s / version_width) s) ≡ announced s
announced_chunks s = chunks_cover (length s / version_width) s refl

pub choice_some : (s : List ℕ) → announced s ≡ true → choice s ≡ Some (record { major = 2; minor = 0; patch = 0 })
unfolding choice
choice_some s e = simp e

pub choice_none : (s : List ℕ) → announced s ≡ false → choice s ≡ None
unfolding choice
choice_none s e = simp e

-- so the choice is as `then_some` gives it
pub choice_then : (s : List ℕ) (b : Bool) → b ≡ announced s → then_some b (record { major = 2; minor = 0; patch = 0 }) ≡ choice s
choice_then s true e = sym (choice_some s (sym e))
choice_then s false e = sym (choice_none s (sym e))

-- what a choice says of the announced versions
module _ (s : List ℕ) where
  go_some : (b : Bool) → announced s ≡ b → {v : Version} → choice s ≡ Some v → announced s ≡ true
  go_some true e p = e
  go_some false e p = let q = choice_none s e in let z : ◌≡◌ {A = ℕ} 0 1 = cc in absurd (omega arith)

  pub some_announced : {v : Version} → choice s ≡ Some v → announced s ≡ true
  some_announced p = go_some (announced s) refl p

  go_none : (b : Bool) → announced s ≡ b → choice s ≡ None → announced s ≡ false
  go_none true e p = let q = choice_some s e in let z : ◌≡◌ {A = ℕ} 0 1 = cc in absurd (omega arith)
  go_none false e p = e

  pub none_announced : choice s ≡ None → announced s ≡ false
  none_announced p = go_none (announced s) refl p
