-- No second result meets the promise.
use mathlib.Core.Path.{◌≡◌, sym, ap, ◌∙◌}
use mathlib.Core.List.{List}
use Prim.Native.Nat.{ℕ}
use Rattle.frame.proofs.Unique.{stop_same}
use Rattle.buffer.specs.declared.FramesRead.{FramesRead}
use Rattle.buffer.specs.Buffer.{FramesTold}
use Rattle.buffer.specs.Promise.{frames_said, ReadFrames}

-- answers that say the same are the same
pub frames_same : (r q : FramesRead) → frames_said r ≡ frames_said q → r ≡ q
frames_same r q e =
    let totals : r.totals ≡ q.totals = ap (λ (x : FramesTold). x.totals) e in
    let stop = stop_same r.stop q.stop (ap (λ (x : FramesTold). x.stop) e) in
    λ i. record { totals = totals i; stop = stop i }

pub read_frames_unique : (input : List ℕ) (limit : ℕ) (r q : FramesRead) (old_rows new_rows other_rows old_messages new_messages other_messages old_pairs new_pairs other_pairs : List ℕ)
    → ReadFrames input limit r old_rows new_rows old_messages new_messages old_pairs new_pairs → ReadFrames input limit q old_rows other_rows old_messages other_messages old_pairs other_pairs
    → (r ≡ q) × (new_rows ≡ other_rows) × (new_messages ≡ other_messages) × (new_pairs ≡ other_pairs)
read_frames_unique input limit r q old_rows new_rows other_rows old_messages new_messages other_messages old_pairs new_pairs other_pairs p s =
    (frames_same r q (p.says ∙ sym s.says), p.fills.rows ∙ sym s.fills.rows, p.fills.messages ∙ sym s.fills.messages, p.fills.pairs ∙ sym s.fills.pairs)
