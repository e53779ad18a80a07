-- The one law about a frame around its payload: an accepted frame is its head, as it is written, and behind it its payload.
use mathlib.Core.Path.{◌≡◌, sym, ap, ap₂, ◌∙◌}
use mathlib.Core.Bool.{true, false}
use mathlib.Core.List.{List, [], ◌∷◌, ◌++◌, append_assoc}
use Prim.Native.Nat.{ℕ, ◌+◌, ◌*◌, ◌/◌, ◌%◌, ◌^◌, ◌≤◌, ◌<◌}
use native.Mathlib.Omega.{arith}
use lib.Dec.{eqb}
use lib.ListN.{length, take, drop, length-drop, take-append-drop}
use lib.Seq.{drop-cons, drop-drop, length-take-le}
use Rattle.answer.specs.Answer.{done}
use Rattle.answer.specs.Table.{some}
use Rattle.varint.specs.Number.{number_bytes}
use Rattle.varint.proofs.Reading.{Bytes, number_exact}
use Rattle.frame.specs.declared.Head.{Head}
use Rattle.frame.specs.Head.{four_bytes, four_number, head_bytes, frame_bytes}
use Rattle.frame.proofs.Laws.{four_kept}
use Rattle.frame.specs.declared.Side.{Side}
use Rattle.frame.specs.Read.{answered, Sender, sender}
use Rattle.frame.proofs.Heads.{HeadSays, head_says, fin_alone_lem}
use Rattle.payload.specs.declared.Counts.{Counts}
use Rattle.payload.specs.Payload.{Contents, payload}
use Rattle.payload.proofs.Exact.{bytes_drop}
use Rattle.parser.specs.Frame.{payload_of, frame_read}
use Rattle.parser.proofs.Frames.{Cut, frame_cut}
use Rattle.writer.specs.Frame.{head_of}
use Rattle.roundtrip.proofs.Value.{form_rest}
use Rattle.roundtrip.proofs.Rows.{cancel}

-- ---- four bytes

-- Four bytes are those of the number that they say.
four_exact : (s : List ℕ) → Bytes s → 4 ≤ length s → take 4 s ≡ four_bytes (four_number s)
unfolding four_bytes four_number
four_exact [] small h = absurd (omega arith)
four_exact (a ∷ []) small h = absurd (omega arith)
four_exact (a ∷ b ∷ []) small h = absurd (omega arith)
four_exact (a ∷ b ∷ c ∷ []) small h = absurd (omega arith)
four_exact (a ∷ b ∷ c ∷ d ∷ s) small h =
    let n = a * 2 ^ 24 + b * 2 ^ 16 + c * 2 ^ 8 + d in
    let ha : a < 256 = small 0 (omega arith) in
    let hb : b < 256 = small 1 (omega arith) in
    let hc : c < 256 = small 2 (omega arith) in
    let hd : d < 256 = small 3 (omega arith) in
    let w : a ≡ n / 2 ^ 24 % 256 = omega arith in
    let x : b ≡ n / 2 ^ 16 % 256 = omega arith in
    let y : c ≡ n / 2 ^ 8 % 256 = omega arith in
    let z : d ≡ n % 256 = omega arith in
    ap₂ (λ (i : ℕ) (l : List ℕ). i ∷ l) w (ap₂ (λ (i : ℕ) (l : List ℕ). i ∷ l) x (ap₂ (λ (i : ℕ) (l : List ℕ). i ∷ l) y (ap (λ (i : ℕ). i ∷ []) z)))

-- ---- what stands before the payload

-- the head that a frame that was read is written with again: FIN alone
abbrev pub head_again : Head → Head
head_again m = head_of m.frame_type true false m.stream m.frame

fin_only : (m : Head) → m.flags ≡ 1 → m ≡ head_again m
fin_only m e = λ i. record { frame_type = m.frame_type; flags = e i; stream = m.stream; frame = m.frame }

-- behind its length bytes a frame is its head, as it is written, and then its payload
head_form : (sent : Sender) (f : List ℕ) (m : Head) (start : ℕ) → Bytes f → HeadSays sent f m start → drop 4 f ≡ head_bytes m ++ drop start f
unfolding head_bytes
head_form sent f m start small p =
    let n = p.first in
    let one = number_bytes m.stream in
    let two = number_bytes m.frame in
    let four = four_bytes m.flags in
    let flags : take 4 (drop 5 f) ≡ four = four_exact (drop 5 f) (bytes_drop 5 f small) (omega (arith, length-drop 5 f, p.long)) ∙ ap four_bytes p.flags in
    let stream : drop 9 f ≡ one ++ drop (9 + n) f =
    form_rest one (drop 9 f) n (number_exact (drop 9 f) m.stream n (bytes_drop 9 f small) p.stream) ∙ ap (λ (l : List ℕ). one ++ l) (drop-drop n 9 f) in
    let frame : drop (9 + n) f ≡ two ++ drop start f =
    form_rest two (drop (9 + n) f) p.second (number_exact (drop (9 + n) f) m.frame p.second (bytes_drop (9 + n) f small) p.frame)
    ∙ ap (λ (l : List ℕ). two ++ l) (drop-drop p.second (9 + n) f ∙ ap (λ (k : ℕ). drop k f) p.ends) in
    drop-cons f 4 0 (omega (arith, p.long))
    ∙ ap₂ (λ (k : ℕ) (l : List ℕ). k ∷ l) p.type
    (form_rest four (drop 5 f) 4 flags
    ∙ ap (λ (l : List ℕ). four ++ l) (drop-drop 4 5 f ∙ stream ∙ ap (λ (l : List ℕ). one ++ l) frame ∙ sym (append_assoc one two (drop start f)))
    ∙ sym (append_assoc four (one ++ two) (drop start f)))

-- ---- a frame with two payloads

-- a frame's payload is told by its bytes
pub payload_same : (h : Head) (p q : List ℕ) → frame_bytes h p ≡ frame_bytes h q → p ≡ q
unfolding frame_bytes four_bytes
payload_same h p q e = cancel (head_bytes h) p q (ap (drop 4) e)

-- ---- an accepted frame

-- An accepted frame, of its own bytes: its head, as it is written, and its payload, which was read from where it starts to its end.
pub record Accepted (x : Side) (limit : ℕ) (rooms : Counts) (f : List ℕ) (m : Head) (c : Contents) : Type 0 where
  pub start : ℕ
  pub fits : length f ≤ 4 + limit
  pub own : some (eqb m.frame_type) (sender x).own ≡ true
  pub form : f ≡ frame_bytes (head_again m) (drop start f)
  pub read : payload (payload_of m.frame_type) rooms start f ≡ done c (length f)

module _ (x : Side) (limit : ℕ) (rooms : Counts) (s : List ℕ) (m : Head) (c : Contents) (used : ℕ) (small : Bytes (take used s))
    (e : frame_read x limit rooms s ≡ answered (done (m, c) used)) where
  abbrev f : List ℕ
  f = take used s

  o : Cut x limit rooms s m c used
  o = frame_cut x limit rooms s m c used e

  pub frame_long : length f ≡ used
  frame_long = length-take-le used s o.there

  four : four_number f ≡ length (drop 4 f)
  four =
      let same : four_number f ≡ four_number s = sym (four_kept f (drop used s) (omega (arith, frame_long, o.four))) ∙ ap four_number (take-append-drop used s) in
      omega (arith, same, o.says, frame_long, length-drop 4 f)

  framed : (h : Head) (start : ℕ) → drop 4 f ≡ head_bytes h ++ drop start f → f ≡ frame_bytes h (drop start f)
  unfolding frame_bytes
  framed h start behind =
      form_rest (four_bytes (four_number f)) f 4 (four_exact f small (omega (arith, frame_long, o.four)))
      ∙ ap₂ (λ (k : ℕ) (l : List ℕ). four_bytes k ++ l) (four ∙ ap length behind) behind

  -- Law: every accepted frame is so, whichever side sent it.
  pub frame_accepted : Accepted x limit rooms f m c
  frame_accepted =
      let h = o.held in
      let p = head_says (sender x) f m h.start h.reads in
      record {
        start = h.start;
        fits = omega (arith, frame_long, o.says, o.fits);
        own = p.own;
        form =
            framed m h.start (head_form (sender x) f m h.start small p)
            ∙ ap (λ (y : Head). frame_bytes y (drop h.start f)) (fin_only m (fin_alone_lem x f m h.start p));
        read = h.holds ∙ ap (done c) (sym frame_long);
      }
