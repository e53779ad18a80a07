-- Law: a frame that was written, with any bytes behind it, is read as its head and then as its payload where that starts.
use mathlib.Core.Path.{◌≡◌, ap, ◌∙◌}
use mathlib.Core.List.{List, ◌++◌}
use Prim.Native.Nat.{ℕ, ◌≤◌}
use Rattle.frame.specs.declared.Head.{Head}
use Rattle.frame.specs.declared.Side.{Side}
use Rattle.frame.specs.Read.{answered, sender}
use Rattle.frame.proofs.Laws.{Framed}
use Rattle.frame.proofs.Back.{Sendable, FrameBack, frame_back}
use Rattle.payload.specs.declared.Counts.{Counts}
use Rattle.payload.specs.Payload.{payload}
use Rattle.parser.specs.Frame.{payload_of, frame_read}
use Rattle.parser.proofs.Frames.{in_frame_lem, framed_payload, frame_on}

module _ (x : Side) (h : Head) (limit : ℕ) (p bytes : List ℕ) (f : Framed h limit p bytes) (r : Sendable (sender x) h)
    (higher : ℕ) (up : limit ≤ higher) (t : List ℕ) where
  -- where its payload stands
  pub back : FrameBack (sender x) h p bytes higher t
  back = frame_back (sender x) h limit p bytes f r higher up t

  pub read_back : (rooms : Counts) → frame_read x higher rooms (bytes ++ t) ≡ answered (in_frame_lem h (payload (payload_of h.frame_type) rooms back.start bytes))
  read_back rooms =
      frame_on x higher rooms (bytes ++ t) back.cuts
      ∙ ap answered (framed_payload (sender x) rooms bytes h back.start back.reads)
