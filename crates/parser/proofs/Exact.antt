-- Laws about a frame's numbers, its two ids and those inside its payload: each took exactly the bytes that it is written as, so different bytes never give one stream
-- id, nor one frame id, whichever side sent them.
use mathlib.Core.Path.{◌≡◌, sym, ap, ap₂, subst, ◌∙◌}
use mathlib.Core.List.{List, ◌++◌}
use Prim.Native.Nat.{ℕ, ◌+◌}
use lib.ListN.{length, take, drop, take-append-drop}
use lib.Seq.{drop-drop, take-add, length-take-le}
use Rattle.answer.specs.Answer.{done}
use Rattle.varint.specs.Number.{number, number_bytes}
use Rattle.varint.proofs.Reading.{Bytes, accepted, number_exact}
use Rattle.frame.specs.declared.Head.{Head}
use Rattle.frame.specs.declared.Side.{Side}
use Rattle.frame.specs.Read.{answered, sender}
use Rattle.frame.proofs.Heads.{HeadSays, head_says, head_longer}
use Rattle.payload.specs.declared.Counts.{Counts}
use Rattle.payload.specs.Payload.{Contents}
use Rattle.payload.proofs.Exact.{bytes_drop, NumbersExact, payload_exact}
use Rattle.parser.specs.Frame.{payload_of, frame_read}
use Rattle.parser.proofs.Frames.{frame_cut}

-- a number that was read took as many bytes as it is written as
exact_long : (s : List ℕ) (n used : ℕ) → Bytes s → number s ≡ done n used → used ≡ length (number_bytes n)
exact_long s n used small e = sym (length-take-le used s (accepted s n used e).2) ∙ ap length (number_exact s n used small e)

module _ (x : Side) (limit : ℕ) (rooms : Counts) (s : List ℕ) (h : Head) (c : Contents) (used : ℕ) (small : Bytes s)
    (e : frame_read x limit rooms s ≡ answered (done (h, c) used)) where
  -- Law: the head of an accepted frame says the same of the bytes that the frame was read from.
  pub frame_head : (start : ℕ) × HeadSays (sender x) s h start
  frame_head =
      let q = (frame_cut x limit rooms s h c used e).held in
      let p = head_says (sender x) (take used s) h q.start q.reads in
      (q.start, subst (λ (l : List ℕ). HeadSays (sender x) l h q.start) (take-append-drop used s) (head_longer (sender x) (take used s) (drop used s) h q.start p))

  -- Law: behind its nine bytes of length, type and flags it has exactly the bytes that its stream id is written as, and behind these those of its frame id.
  pub stream_exact : take (length (number_bytes h.stream)) (drop 9 s) ≡ number_bytes h.stream
  stream_exact =
      let i = frame_head.1 in
      let t = bytes_drop 9 s small in
      ap (λ (n : ℕ). take n (drop 9 s)) (sym (exact_long (drop 9 s) h.stream i.first t i.stream)) ∙ number_exact (drop 9 s) h.stream i.first t i.stream

  pub frame_exact : take (length (number_bytes h.frame)) (drop (9 + length (number_bytes h.stream)) s) ≡ number_bytes h.frame
  frame_exact =
      let i = frame_head.1 in
      let at : 9 + i.first ≡ 9 + length (number_bytes h.stream) = ap (λ (n : ℕ). 9 + n) (exact_long (drop 9 s) h.stream i.first (bytes_drop 9 s small) i.stream) in
      let t = bytes_drop (9 + i.first) s small in
      ap₂ (λ (n m : ℕ). take n (drop m s)) (sym (exact_long (drop (9 + i.first) s) h.frame i.second t i.frame)) (sym at)
      ∙ number_exact (drop (9 + i.first) s) h.frame i.second t i.frame

  pub ids_exact : (n : ℕ) × (take n (drop 9 s) ≡ number_bytes h.stream ++ number_bytes h.frame)
  ids_exact =
      let first = length (number_bytes h.stream) in
      let second = length (number_bytes h.frame) in
      (first + second, take-add first second (drop 9 s) ∙ ap₂ ◌++◌ stream_exact (ap (take second) (drop-drop first 9 s) ∙ frame_exact))

  -- Law: and in its payload, whatever its values are, exactly those that its keys', names' and texts' length numbers and its integers are written as.
  pub numbers_exact : NumbersExact s c
  numbers_exact =
      let q = (frame_cut x limit rooms s h c used e).held in
      let whole = take-append-drop used s in
      subst (λ (l : List ℕ). NumbersExact l c) whole
      (payload_exact (take used s) (drop used s) (subst Bytes (sym whole) small) (payload_of h.frame_type) rooms q.start c used q.holds)

-- Law: so of two accepted frames with one stream id the bytes of the id are the same, whichever side sent each; and so it is with one frame id.
module _ (x y : Side) (limit other : ℕ) (rooms others : Counts) (s t : List ℕ) (h k : Head) (c d : Contents) (used taken : ℕ) (small : Bytes s) (smalls : Bytes t)
    (e : frame_read x limit rooms s ≡ answered (done (h, c) used)) (f : frame_read y other others t ≡ answered (done (k, d) taken)) where
  pub one_stream : h.stream ≡ k.stream
      → (n : ℕ) × (take n (drop 9 s) ≡ number_bytes h.stream) × (take n (drop 9 t) ≡ take n (drop 9 s))
  one_stream same =
      let one = stream_exact x limit rooms s h c used small e in
      let two = stream_exact y other others t k d taken smalls f in (
        length (number_bytes h.stream),
        one,
        ap (λ (n : ℕ). take (length (number_bytes n)) (drop 9 t)) same ∙ two ∙ ap number_bytes (sym same) ∙ sym one,
      )

  pub one_frame : h.frame ≡ k.frame
      → (n a b : ℕ) × (take n (drop a s) ≡ number_bytes h.frame) × (take n (drop b t) ≡ take n (drop a s))
  one_frame same =
      let one = frame_exact x limit rooms s h c used small e in
      let two = frame_exact y other others t k d taken smalls f in
      let b = 9 + length (number_bytes k.stream) in (
        length (number_bytes h.frame),
        9 + length (number_bytes h.stream),
        b,
        one,
        ap (λ (n : ℕ). take (length (number_bytes n)) (drop b t)) same ∙ two ∙ ap number_bytes (sym same) ∙ sym one,
      )
