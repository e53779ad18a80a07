-- A whole listing loses nothing but flags of values, which no line shows: inputs with the same listing have the same frames, one by one, and stop at
-- the same place for the same reason, whichever side sent them.
use mathlib.Core.Path.{◌≡◌, refl, sym, ap₂, ◌∙◌}
use mathlib.Core.Logic.{◌⊎◌, inl, inr, ⊎_elim}
use mathlib.Core.List.{List, [], ◌∷◌, ◌++◌, append_assoc, head-eq_of_cons-eq, map}
use Prim.Native.Nat.{ℕ, zero, suc}
use native.Mathlib.Omega.{arith}
use lib.ListN.{length, take, drop}
use Rattle.answer.specs.Answer.{done, refused}
use Rattle.types.proofs.Roundtrip.{Meaning}
use Rattle.frame.specs.declared.Head.{Head}
use Rattle.frame.specs.declared.Side.{Side}
use Rattle.frame.specs.Read.{Reading, wait, answered, answer_of, sender}
use Rattle.payload.specs.declared.Counts.{Counts}
use Rattle.payload.specs.Payload.{Contents}
use Rattle.parser.specs.Frame.{frame_read}
use Rattle.parser.proofs.Frames.{frame_cut}
use Rattle.listing.specs.Lines.{filled, frame_line, end_line}
use Rattle.listing.proofs.Frames.{frame_lines}
use Rattle.listing.proofs.Apart.{message_means, pair_means, action_means, end_apart}
use Rattle.listing.proofs.Lossless.{Over, listing_apart_then, frame_over, end_over}
use Rattle.spoplist.specs.Listing.{Stop, taken, goes_on, stop_of}

-- ---- the listing of an input

-- how a frame at the front is read
abbrev Reader : Type 0
Reader = List ℕ → Reading (Head × Contents)

-- The lines of the frames from this index on, in order.
unfoldable pub lines_from : Reader → ℕ → ℕ → List ℕ → List ℕ
lines_from read zero index s = []
lines_from read (suc k) index s =
    goes_on (answer_of (read s)) (λ x n. frame_lines index (take n s) x.0 x.1 ++ lines_from read k (suc index) (drop n s)) (λ number place. [])

abbrev pub stop_by : Reader → List ℕ → Stop
stop_by read s = stop_of (λ t. taken (read t)) s

-- All lines of the frames that a side sends, and the last one.
abbrev listing_by : Reader → List ℕ → List ℕ
listing_by read s = lines_from read (length s) 0 s ++ end_line (stop_by read s).used (stop_by read s).number (stop_by read s).at

abbrev pub listing : Side → ℕ → Counts → List ℕ → List ℕ
listing side limit rooms s = listing_by (frame_read side limit rooms) s

-- ---- what its frames mean

-- What a frame means as far as lines say it: its type and ids, how many bytes it takes, and what its records mean but for flags.
pub record FrameMeans : Type 0 where
  pub type : ℕ
  pub stream : ℕ
  pub id : ℕ
  pub bytes : ℕ
  pub messages : List (List ℕ × ℕ)
  pub pairs : List (List ℕ × Meaning)
  pub actions : List (ℕ × ℕ × (List ℕ × Meaning))

abbrev pub frame_means : List ℕ → Head → Contents → FrameMeans
frame_means f m c =
    record {
      type = m.frame_type;
      stream = m.stream;
      id = m.frame;
      bytes = length f;
      messages = map (message_means f) c.messages;
      pairs = map (pair_means f) c.pairs;
      actions = map (action_means f) c.actions;
    }

-- the frames of an input, as many as are counted down at most
unfoldable pub meanings_from : Reader → ℕ → List ℕ → List FrameMeans
meanings_from read zero s = []
meanings_from read (suc k) s =
    goes_on (answer_of (read s)) (λ x n. frame_means (take n s) x.0 x.1 ∷ meanings_from read k (drop n s)) (λ number place. [])

-- ---- one frame after the other

frame_starts : (index : ℕ) (m : Head) (bytes : ℕ) → (t : List ℕ) × (frame_line index m bytes ≡ 102 ∷ t)
unfolding frame_line filled
frame_starts index m bytes = (_, refl)

end_starts : (used number at : ℕ) → (t : List ℕ) × (end_line used number at ≡ 101 ∷ t)
unfolding end_line filled
end_starts used number at = (_, refl)

-- a frame's lines begin with its own
begins : (index : ℕ) (f : List ℕ) (m : Head) (c : Contents) (t : List ℕ) → (r : List ℕ) × (frame_lines index f m c ++ t ≡ frame_line index m (length f) ++ r)
unfolding frame_lines
begins index f m c t = (_, append_assoc (frame_line index m (length f)) _ t)

-- a last line
abbrev last : Stop → List ℕ
last z = end_line z.used z.number z.at

module _ (read : Reader) where
  -- no frame is at the front, or one is and others follow
  record Ended (k index : ℕ) (s : List ℕ) : Type 0 where
    none : lines_from read k index s ≡ []
    meanings : meanings_from read k s ≡ []

  record Going (k index : ℕ) (s : List ℕ) : Type 0 where
    head : Head
    contents : Contents
    used : ℕ
    is : read s ≡ answered (done (head, contents) used)
    on : lines_from read (suc k) index s ≡ frame_lines index (take used s) head contents ++ lines_from read k (suc index) (drop used s)
    meanings : meanings_from read (suc k) s ≡ frame_means (take used s) head contents ∷ meanings_from read k (drop used s)

  ended_zero : (index : ℕ) (s : List ℕ) → Ended 0 index s
  unfolding lines_from meanings_from
  ended_zero index s = record { none = refl; meanings = refl }

  view : (k index : ℕ) (s : List ℕ) → Ended (suc k) index s ⊎ Going k index s
  unfolding lines_from meanings_from
  view k index s = by_answer (read s) refl
    where
      by_answer : (x : Reading (Head × Contents)) → read s ≡ x → Ended (suc k) index s ⊎ Going k index s
      by_answer (wait n) is = inl (record { none = rw is; meanings = rw is })
      by_answer (answered (refused n place)) is = inl (record { none = rw is; meanings = rw is })
      by_answer (answered (done (m, c) n)) is = inr (record { head = m; contents = c; used = n; is = is; on = rw is; meanings = rw is })

  -- the lines of the frames, and a last line
  abbrev closed : Stop → ℕ → ℕ → List ℕ → List ℕ
  closed z k index s = lines_from read k index s ++ last z

  module _ (z : Stop) where
    closed_ended : (k index : ℕ) (s : List ℕ) → Ended k index s → closed z k index s ≡ last z
    closed_ended k index s v = rw v.none

    closed_going : (k index : ℕ) (s : List ℕ) (g : Going k index s)
        → closed z (suc k) index s ≡ frame_lines index (take g.used s) g.head g.contents ++ closed z k (suc index) (drop g.used s)
    closed_going k index s g =
        rw g.on (append_assoc (frame_lines index (take g.used s) g.head g.contents) (lines_from read k (suc index) (drop g.used s)) (last z))

    closed_over : (k index : ℕ) (s : List ℕ) → Over (closed z k index s)
    closed_over zero index s = rw (closed_ended 0 index s (ended_zero index s)) (end_over z.used z.number z.at)
    closed_over (suc k) index s =
        ⊎_elim (λ v. rw (closed_ended (suc k) index s v) (end_over z.used z.number z.at))
        (λ (g : Going k index s).
        let b = begins index (take g.used s) g.head g.contents (closed z k (suc index) (drop g.used s)) in
        rw (closed_going k index s g, b.1) (frame_over index g.head (length (take g.used s)) b.0))
        (view k index s)

not_end : {G : Type 0} (index : ℕ) (f : List ℕ) (m : Head) (c : Contents) (t : List ℕ) (z : Stop) → frame_lines index f m c ++ t ≡ last z → G
not_end index f m c t z e =
    let b = begins index f m c t in
    let q = rw (b.1, (frame_starts index m (length f)).1, (end_starts z.used z.number z.at).1) at e in
    absurd (omega (arith, head-eq_of_cons-eq q))

-- ---- two inputs

-- Readers of frames that a side sends.
module _ (x y : Side) (limit higher : ℕ) (rooms others : Counts) where
  abbrev read : Reader
  read = frame_read x limit rooms

  abbrev other : Reader
  other = frame_read y higher others

  -- frames with the same lines mean the same
  same : (index : ℕ) (s t : List ℕ) (m n : Head) (c d : Contents) (used bytes : ℕ) → read s ≡ answered (done (m, c) used) → other t ≡ answered (done (n, d) bytes)
      → (u v : List ℕ) → Over u → Over v → frame_lines index (take used s) m c ++ u ≡ frame_lines index (take bytes t) n d ++ v
      → (frame_means (take used s) m c ≡ frame_means (take bytes t) n d) × (u ≡ v)
  same index s t m n c d used bytes is also u v h l e =
      let o = listing_apart_then (sender x) (sender y) rooms others (take used s) (take bytes t) m n c d used bytes
      (frame_cut x limit rooms s m c used is).is (frame_cut y higher others t n d bytes also).is index index u v h l e in
      let a = o.0 in
      ((λ i. record { type = a.type i; stream = a.stream i; id = a.id i; bytes = a.bytes i; messages = a.messages i; pairs = a.pairs i; actions = a.actions i }), o.1)

  module _ (p z : Stop) where
    -- where the first has no frame left, neither has the second
    apart_ended : (j index : ℕ) (t : List ℕ) → last p ≡ closed other z j index t → (meanings_from other j t ≡ []) × (last p ≡ last z)
    apart_ended zero index t e = let v = ended_zero other index t in (v.meanings, e ∙ closed_ended other z 0 index t v)
    apart_ended (suc j) index t e =
        ⊎_elim (λ v. (v.meanings, e ∙ closed_ended other z (suc j) index t v))
        (λ g. not_end index (take g.used t) g.head g.contents _ p (sym (e ∙ closed_going other z j index t g)))
        (view other j index t)

    -- Law: the same lines have the same frames, and the same last line.
    lines_apart : (k j index : ℕ) (s t : List ℕ) → closed read p k index s ≡ closed other z j index t
        → (meanings_from read k s ≡ meanings_from other j t) × (last p ≡ last z)
    lines_apart zero j index s t e =
        let v = ended_zero read index s in
        let o = apart_ended j index t (sym (closed_ended read p 0 index s v) ∙ e) in
        (v.meanings ∙ sym o.0, o.1)
    lines_apart (suc k) zero index s t e =
        let w = ended_zero other index t in
        ⊎_elim (λ v. (v.meanings ∙ sym w.meanings, sym (closed_ended read p (suc k) index s v) ∙ e ∙ closed_ended other z 0 index t w))
        (λ g.
        not_end index (take g.used s) g.head g.contents _ z (sym (closed_going read p k index s g) ∙ e ∙ closed_ended other z 0 index t w))
        (view read k index s)
    lines_apart (suc k) (suc j) index s t e =
        ⊎_elim
        (λ v. let o = apart_ended (suc j) index t (sym (closed_ended read p (suc k) index s v) ∙ e) in (v.meanings ∙ sym o.0, o.1))
        (λ g.
        ⊎_elim
        (λ w. not_end index (take g.used s) g.head g.contents _ z (sym (closed_going read p k index s g) ∙ e ∙ closed_ended other z (suc j) index t w))
        (λ h.
        let o = same index s t g.head h.head g.contents h.contents g.used h.used g.is h.is _ _
        (closed_over read p k (suc index) (drop g.used s)) (closed_over other z j (suc index) (drop h.used t))
        (sym (closed_going read p k index s g) ∙ e ∙ closed_going other z j index t h) in
        let r = lines_apart k j (suc index) (drop g.used s) (drop h.used t) o.1 in
        (g.meanings ∙ ap₂ ◌∷◌ o.0 r.0 ∙ sym h.meanings, r.1))
        (view other j index t))
        (view read k index s)

  -- Law: two inputs with the same listing have the same frames, in order, and stop at the same place for the same reason.
  pub listings_apart : (s t : List ℕ) → listing x limit rooms s ≡ listing y higher others t
      → (meanings_from read (length s) s ≡ meanings_from other (length t) t) × (stop_by read s ≡ stop_by other t)
  listings_apart s t e =
      let p = stop_by read s in
      let z = stop_by other t in
      let o = lines_apart p z (length s) (length t) 0 s t e in
      let q = end_apart p.used p.number p.at z.used z.number z.at o.1 in
      (o.0, λ i. record { used = q.0 i; number = q.1 i; at = q.2 i })
