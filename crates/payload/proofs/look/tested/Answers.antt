-- `payload::look::tested` meets its contract, item by item: a pair has its own tests, a message and an action want room.
use Rattle.answer.specs.Writes.{refusal_said}
use mathlib.Core.Path.{sym, ◌∙◌, ap}
use Rattle.payload.specs.Inner.{tests}
use Rattle.payload.proofs.Tests.{no_room, has_room}
use Rattle.payload.proofs.look.tested.Goals as goal

pub pair_tested-requires : goal.pair_tested-requires
pair_tested-requires c =
    record { at_in_bounds = c.requires.at_in_bounds; len_in_bounds = rw c.in-Pair.is at c.requires.key_inside; low = c.requires.low }

pub returns-in-Pair : goal.returns-in-Pair
returns-in-Pair c d r =
    rw c.in-Pair.is (c.pair_tested.ensures d (λ z. r _ _ c.in-Pair.is z))

pub returns-then-rooms-x : goal.returns-then-rooms-x
unfolding tests
returns-then-rooms-x c d r =
    rw c.in-Message.is (ap refusal_said c.at.ensures ∙ sym (no_room _ _ _ _ c.if-rooms-x.true))

pub returns-else-rooms-x : goal.returns-else-rooms-x
unfolding tests
returns-else-rooms-x c d r =
    rw (c.after.ensures, c.in-Message.is) (sym (has_room _ _ _ _ c.if-rooms-x.false))

pub returns-then-rooms-x-2 : goal.returns-then-rooms-x-2
unfolding tests
returns-then-rooms-x-2 c d r =
    rw c.in-Action.is (ap refusal_said c.at-then-rooms-x-2.ensures ∙ sym (no_room _ _ _ _ c.if-rooms-x-2.true))

pub returns-else-rooms-x-2 : goal.returns-else-rooms-x-2
unfolding tests
returns-else-rooms-x-2 c d r =
    rw (c.after-in-Action.ensures, c.in-Action.is) (sym (has_room _ _ _ _ c.if-rooms-x-2.false))
