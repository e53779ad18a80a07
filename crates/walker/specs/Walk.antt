-- A walk over the pairs of a frame, one step at a time: of a KV list, or of a message's arguments (SPOE.txt, sections 3.2 and 3.2.6). Starts and places
-- count from the frame's first byte.
use Rattle.std.specs.Prelude.{Bool, true, false, cond, List, ℕ, ◌+◌, ◌-◌, ◌^◌, ltb, length, Option}
use Rattle.answer.specs.Answer.{Answer, done, refused}
use Rattle.frame.specs.declared.Pair.{Pair}
use Rattle.frame.specs.declared.Message.{Message}
use Rattle.frame.specs.Read.{number_from}
use Rattle.payload.specs.Pair.{pair_from}
use Rattle.payload.specs.Item.{one, no_more}
use Rattle.walker.specs.declared.Found.{Found}
use Rattle.walker.specs.declared.Place.{Place}

-- where a number ends that stands at a place; the end of the bytes where none can be read
abbrev pub end_or : ℕ → Answer ℕ → ℕ
end_or last (done x end) = end
end_or last (refused n place) = last

abbrev pub behind_number : List ℕ → ℕ → ℕ
behind_number s at = end_or (length s) (number_from at s)

-- A frame's KV list starts behind its two numbers, the first of which stands behind the length bytes, the type and the flags.
unfoldable pub kv_of : List ℕ → Place
kv_of s = record { at = behind_number s (behind_number s 9); left = 0; kv = true }

-- A message's arguments start behind its name and its count byte. Places are 64-bit numbers.
unfoldable pub arguments_place : Message → Place
arguments_place m =
    let at = m.start + m.len + 1 in
    record { at = cond (ltb at (2 ^ 64)) at (2 ^ 64 - 1); left = m.count; kv = false }

-- A KV list goes on to the end of the bytes, and a message has so many arguments.
abbrev pub comes : List ℕ → Place → Bool
comes s x = cond x.kv (ltb x.at (length s)) (ltb 0 x.left)

-- where the walk goes on behind a pair that ends there
abbrev pub after_place : Place → ℕ → Place
after_place x end = record { at = end; left = x.left - 1; kv = x.kv }

-- what was read as a step
abbrev pub step_said : Place → Answer Pair → Answer (Option Found)
step_said x (done p end) = one (record { pair = p; next = after_place x end })
step_said x (refused n place) = refused n place

-- The step: the pair that stands at the place, where one is to come.
unfoldable pub walk_step : List ℕ → Place → Answer (Option Found)
walk_step s x = cond (comes s x) (step_said x (pair_from x.at s)) no_more
