-- The order of what is read: in an accepted frame the keys' starts rise, so the pairs come out in the order of their bytes.
use mathlib.Core.Path.{◌≡◌}
use mathlib.Core.List.{List}
use Prim.Native.Nat.{ℕ, ◌<◌}
use lib.ListN.{length, take, get_or}
use Rattle.answer.specs.Answer.{done}
use Rattle.frame.specs.declared.Head.{Head}
use Rattle.frame.specs.declared.Side.{Side}
use Rattle.frame.specs.Read.{answered}
use Rattle.payload.specs.declared.Counts.{Counts}
use Rattle.payload.specs.Payload.{Contents}
use Rattle.payload.proofs.Order.{key_starts, payload_rises, rises_by}
use Rattle.parser.specs.Frame.{payload_of, frame_read}
use Rattle.parser.proofs.Frames.{frame_cut}

-- Law: in an accepted frame the starts of the keys rise strictly, so no two arguments have changed places.
pub keys_rise : (x : Side) (limit : ℕ) (rooms : Counts) (s : List ℕ) (h : Head) (c : Contents) (used : ℕ) → frame_read x limit rooms s ≡ answered (done (h, c) used)
    → (i j : ℕ) → i < j → j < length c.pairs → get_or (key_starts c.pairs) i 0 < get_or (key_starts c.pairs) j 0
keys_rise x limit rooms s h c used e i j l m =
    let q = (frame_cut x limit rooms s h c used e).held in
    rises_by q.start c.pairs used i j (payload_rises (payload_of h.frame_type) rooms q.start (take used s) c used q.holds) l m
