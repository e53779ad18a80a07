-- What a C program has in numbers: a value is four of them, kind, a, b and flags; a pair and a frame's head are six each.
use Rattle.std.specs.Prelude.{List, [], ◌∷◌, ℕ, get_or}
use Rattle.types.specs.Value.{Record, value}
use Rattle.frame.specs.declared.Head.{Head}
use Rattle.frame.specs.declared.Side.{Side}
use Rattle.frame.specs.declared.Side.TheVariants as side
use Rattle.payload.specs.declared.Counts.{Counts}
use Rattle.buffer.specs.declared.Totals.{Totals}

-- the record that the numbers are, and its numbers
abbrev pub record_in : List ℕ → Record
record_in l = value (get_or l 0 0) (get_or l 1 0) (get_or l 2 0) (get_or l 3 0)

abbrev pub record_numbers : Record → List ℕ
record_numbers (value kind a b flags) = kind ∷ a ∷ b ∷ flags ∷ []

-- how many records a frame holds, of the two sorts that its side sends
abbrev pub two_counts : Side → Counts → List ℕ
two_counts side.HAProxy n = n.messages ∷ n.pairs ∷ []
two_counts side.Agents n = n.pairs ∷ n.actions ∷ []

-- frames, messages, pairs and bytes
abbrev pub total_numbers : Totals → List ℕ
total_numbers x = x.frames ∷ x.messages ∷ x.pairs ∷ x.bytes ∷ []

-- type, flags, stream id, frame id, and the two counts
abbrev pub head_numbers : Side → Head → Counts → List ℕ
head_numbers side h n = h.frame_type ∷ h.flags ∷ h.stream ∷ h.frame ∷ two_counts side n
