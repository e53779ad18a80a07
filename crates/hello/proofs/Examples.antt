-- Announced versions, worked out. The fourth number stands for any pre-release part.
use mathlib.Core.Path.{◌≡◌, refl}
use mathlib.Core.Bool.{true, false}
use mathlib.Core.List.{[], ◌∷◌}
use Rattle.answer.specs.Table.{records, some}
use Rattle.hello.specs.Hello.{version_at, covers, announced}

-- 2.0.0-rc.1
pub candidate : announced (2 ∷ 0 ∷ 0 ∷ 1 ∷ []) ≡ false
unfolding announced records some version_at covers
candidate = refl

-- 2.0.1-0, 2.1.0-rc.1
pub patch_candidate : announced (2 ∷ 0 ∷ 1 ∷ 1 ∷ []) ≡ true
unfolding announced records some version_at covers
patch_candidate = refl

pub minor_candidate : announced (2 ∷ 1 ∷ 0 ∷ 1 ∷ []) ≡ true
unfolding announced records some version_at covers
minor_candidate = refl

-- 3.0.0-2
pub other_candidate : announced (3 ∷ 0 ∷ 0 ∷ 1 ∷ []) ≡ false
unfolding announced records some version_at covers
other_candidate = refl

-- 2.0.0-rc.1, and 2.0.0 behind it
pub candidate_and_version : announced (2 ∷ 0 ∷ 0 ∷ 1 ∷ 2 ∷ 0 ∷ 0 ∷ 0 ∷ []) ≡ true
unfolding announced records some version_at covers
candidate_and_version = refl

-- 2.0.0 in three numbers alone
pub three_alone : announced (2 ∷ 0 ∷ 0 ∷ []) ≡ false
unfolding announced records some version_at covers
three_alone = refl
