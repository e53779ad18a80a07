-- Laws about a frame that was written: it is cut out as it stands, and the head written is the head read. Bytes behind it do not matter.
use mathlib.Core.Path.{◌≡◌, refl, sym, ap, ◌∙◌}
use mathlib.Core.Bool.{true}
use mathlib.Core.List.{List, ◌++◌}
use Prim.Native.Nat.{ℕ, ◌+◌, ◌/◌, ◌%◌, ◌^◌, ◌≤◌, ◌<◌}
use native.Mathlib.Omega.{arith}
use lib.Dec.{eqb}
use lib.ListN.{length, take, drop, get_or, length-append, length-drop, take-append-drop}
use lib.Seq.{drop-drop, drop_at, take_at, get_or-drop, get_or-take, length-take-le}
use Rattle.answer.specs.Answer.{done}
use Rattle.answer.specs.Table.{some}
use Rattle.varint.specs.Number.{number, number_bytes}
use Rattle.varint.proofs.Reading.{accepted, reads_back}
use Rattle.frame.specs.declared.Head.{Head}
use Rattle.frame.specs.Head.{four_number}
use Rattle.frame.specs.declared.Side.{Side}
use Rattle.frame.specs.Read.{Sender, fin_set, sender, answered, cut, head}
use Rattle.frame.proofs.Laws.{four_says, four_kept, Framed}
use Rattle.frame.proofs.Cutting.{cut_whole}
use Rattle.frame.proofs.Heads.{head_so, own_known, sides}

-- a head that a side may send: a type of its own that is known, flags that are allowed and fit, without ABORT, and two numbers of 64 bits
pub record Sendable (sent : Sender) (h : Head) : Type 0 where
  pub known : some (eqb h.frame_type) sent.known ≡ true
  pub own : some (eqb h.frame_type) sent.own ≡ true
  pub allowed : some (eqb h.flags) sent.flags ≡ true
  pub whole : h.flags / 2 % 2 ≡ 0
  pub small : h.flags < 2 ^ 32
  pub stream : h.stream < 2 ^ 64
  pub frame : h.frame < 2 ^ 64

-- Such a frame, with t behind it: its head is read, its payload stands where that ends, and all of it is cut out.
pub record FrameBack (sent : Sender) (h : Head) (payload bytes : List ℕ) (limit : ℕ) (t : List ℕ) : Type 0 where
  pub start : ℕ
  pub there : drop start bytes ≡ payload
  pub long : start + length payload ≡ length bytes
  pub reads : head sent bytes ≡ done h start
  pub cuts : cut limit (bytes ++ t) ≡ answered (done bytes (length bytes))

-- four bytes at the front, of which the number is known
four_front : (s : List ℕ) (n : ℕ) → 4 ≤ length s → four_number (take 4 s) ≡ n → four_number s ≡ n
four_front s n h e =
    ap four_number (sym (take-append-drop 4 s)) ∙ four_kept (take 4 s) (drop 4 s) (omega (arith, length-take-le 4 s h)) ∙ e

module _ (sent : Sender) (h : Head) (limit : ℕ) (p bytes : List ℕ) (f : Framed h limit p bytes) (r : Sendable sent h) where
  abbrev first : List ℕ
  first = number_bytes h.stream

  abbrev second : List ℕ
  second = number_bytes h.frame

  abbrev start : ℕ
  start = 9 + length first + length second

  number_first : number (drop 9 bytes) ≡ done h.stream (length first)
  number_first = ap number f.rest ∙ reads_back h.stream (second ++ p) r.stream

  behind_first : drop (9 + length first) bytes ≡ second ++ p
  behind_first = sym (drop-drop (length first) 9 bytes) ∙ ap (drop (length first)) f.rest ∙ drop_at first (second ++ p) (length first) refl

  number_second : number (drop (9 + length first) bytes) ≡ done h.frame (length second)
  number_second = ap number behind_first ∙ reads_back h.frame p r.frame

  behind_second : drop start bytes ≡ p
  behind_second = sym (drop-drop (length second) (9 + length first) bytes) ∙ ap (drop (length second)) behind_first ∙ drop_at second p (length second) refl

  long : (9 < length bytes) × (start + length p ≡ length bytes)
  long =
      let all = length-append first (second ++ p) in
      let rest = length-append second p in
      let cut = length-drop 9 bytes in
      let is : length (drop 9 bytes) ≡ length (first ++ (second ++ p)) = ap length f.rest in
      let one = (accepted (drop 9 bytes) h.stream (length first) number_first).0 in
      (omega arith, omega arith)

  -- Law: the head that was written is the head that is read.
  pub head_back : head sent bytes ≡ done h start
  head_back =
      head_so sent bytes h start
      record {
        long = omega (arith, long.0);
        type = sym (get_or-drop 4 bytes 0 0) ∙ sym (get_or-take 1 (drop 4 bytes) 0 0 (omega arith)) ∙ ap (λ (l : List ℕ). get_or l 0 0) f.type;
        known = r.known;
        own = r.own;
        flags = four_front (drop 5 bytes) h.flags (omega (arith, length-drop 5 bytes, long.0)) (ap four_number f.flags ∙ four_says h.flags r.small);
        allowed = r.allowed;
        whole = r.whole;
        first = length first;
        second = length second;
        stream = number_first;
        frame = number_second;
        ends = refl;
      }

  -- Law: so it is of every frame that was written, under a limit no lower.
  pub frame_back : (higher : ℕ) → limit ≤ higher → (t : List ℕ) → FrameBack sent h p bytes higher t
  frame_back higher up t =
      let n = long in
      let says : four_number bytes ≡ length (drop 4 bytes) = four_front bytes _ (omega (arith, n.0)) f.says in
      let same = four_kept bytes t (omega (arith, n.0)) in
      let part = length-drop 4 bytes in
      let all = length-append bytes t in
      let end : 4 + four_number (bytes ++ t) ≡ length bytes = omega (arith, n.0) in
      record {
        start = start;
        there = behind_second;
        long = n.1;
        reads = head_back;
        cuts =
            cut_whole higher (bytes ++ t) (omega (arith, n.0)) (omega (arith, f.fits)) (omega (arith, n.0))
            ∙ ap (λ (k : ℕ). answered (done (take k (bytes ++ t)) k)) end
            ∙ ap (λ (l : List ℕ). answered (done l (length bytes))) (take_at bytes t (length bytes) refl);
      }

-- a head of a type that a side sends, with FIN alone, may be sent
pub sendable : (from : Side) (h : Head) → some (eqb h.frame_type) (sender from).own ≡ true → h.flags ≡ 1 → h.stream < 2 ^ 64 → h.frame < 2 ^ 64
    → Sendable (sender from) h
unfolding some
sendable from h own one stream frame =
    record {
      known = own_known from h.frame_type own;
      own = own;
      allowed = ap (some (eqb h.flags)) (sides from).1 ∙ ap (λ (n : ℕ). some (eqb n) fin_set) one;
      whole = ap (λ (n : ℕ). n / 2 % 2) one;
      small = omega (arith, one);
      stream = stream;
      frame = frame;
    }
