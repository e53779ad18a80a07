-- Laws about the tests of what comes next.
use mathlib.Core.Path.{◌≡◌}
use mathlib.Core.Bool.{true, false, ◌&&◌}
use mathlib.Core.List.{List, [], ◌∷◌}
use Prim.Native.Nat.{ℕ, ◌≤◌, ◌<◌}
use lib.Dec.{ltb, eqb}
use borrow.Author.Tests.{lt-ltb, le-ltb, eq-eqb}
use Rattle.answer.specs.Order.{in_order}
use Rattle.frame.specs.declared.Pair.{Pair}
use Rattle.payload.specs.declared.Counts.{Counts}
use Rattle.payload.specs.declared.Cursor.{Cursor}
use Rattle.payload.specs.declared.Item.TheVariants as i
use Rattle.payload.specs.Payload.{Contents, met}
use Rattle.payload.specs.Inner.{after_item, tests}
use Rattle.payload.specs.Item.{one}
use Rattle.answer.specs.Answer.{refused}

-- The last test is for room: there is none for one more than n, or there is.
module _ {A : Type 0} (full on : A) (n room : ℕ) where
  pub no_room : room ≤ n → in_order ((full, ltb n room) ∷ []) on ≡ full
  unfolding in_order
  no_room h = simp (le-ltb n room h)

  pub has_room : n < room → in_order ((full, ltb n room) ∷ []) on ≡ on
  unfolding in_order
  has_room h = simp (lt-ltb n room h)

-- A pair's key is tested before.
module _ (rooms : Counts) (s : List ℕ) (x : Cursor) (c : Contents) (p : Pair) (end : ℕ) where
  pub pair_met : x.left ≡ 0 → met s c.pairs p ≡ true → tests rooms s x c (one (i.Pair p end)) ≡ refused 9 end
  unfolding tests in_order
  pair_met z m = simp (eq-eqb x.left 0 z, m)

  module _ (new : (eqb x.left 0 && met s c.pairs p) ≡ false) where
    pub pair_full : rooms.pairs ≤ x.pairs → tests rooms s x c (one (i.Pair p end)) ≡ refused 10 end
    unfolding tests in_order
    pair_full h = rw new (no_room _ _ x.pairs rooms.pairs h)

    pub pair_taken : x.pairs < rooms.pairs → tests rooms s x c (one (i.Pair p end)) ≡ one (after_item x (i.Pair p end))
    unfolding tests in_order
    pair_taken h = rw new (has_room _ _ x.pairs rooms.pairs h)
