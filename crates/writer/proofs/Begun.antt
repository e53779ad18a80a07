-- Laws about the front of a frame, and about the whole of it: where its parts stand, and what whoever begins one has then to do.
use mathlib.Core.Path.{◌≡◌, refl, sym, ap, ◌∙◌}
use mathlib.Core.Logic.{⊎_elim}
use mathlib.Core.List.{List, ◌++◌, append_assoc}
use Prim.Native.Nat.{ℕ, ◌+◌, ◌-◌, ◌≤◌, ◌<◌}
use native.Mathlib.Omega.{arith}
use lib.ListN.{length, take, drop, length-append}
use borrow.Rule.Slice.PartMut.{put_mid}
use borrow.Author.Tests.{le-leb, lt-leb}
use Rattle.answer.specs.declared.Refusal.{Refusal}
use Rattle.std.specs.Prelude.{Ok, Err}
use Rattle.answer.specs.Answer.{Answer, done, refused, written, within, tells, leaves}
use Rattle.answer.specs.Writes.{refusal_said, Writes}
use Rattle.answer.specs.Order.{in_order}
use Rattle.answer.proofs.Cases.{lt_or_le, not_both}
use Rattle.answer.proofs.Output.{writes_as, writes_whole}
use Rattle.answer.proofs.Parts.{both_start, both_room, both_leaves}
use Rattle.frame.specs.declared.Head.{Head}
use Rattle.frame.specs.Head.{four_bytes, head_bytes, frame_bytes}
use Rattle.frame.proofs.Laws.{four_long}
use Rattle.writer.specs.Frame.{limited}
use Rattle.writer.specs.Inner.{capped, begun, Begins}
use Rattle.writer.proofs.Capped.{capped_in, capped_below}

-- ---- the limit

-- the length bytes and the head, where so many bytes of payload follow
abbrev pub front : Head → ℕ → List ℕ
front h len = four_bytes (length (head_bytes h) + len) ++ head_bytes h

pub front_length : (h : Head) (len : ℕ) → length (front h len) ≡ 4 + length (head_bytes h)
front_length h len = omega (arith, length-append (four_bytes (length (head_bytes h) + len)) (head_bytes h), four_long (length (head_bytes h) + len))

module _ (limit : ℕ) (h : Head) (payload : List ℕ) where
  behind_length : length (head_bytes h ++ payload) ≡ length (head_bytes h) + length payload
  behind_length = length-append (head_bytes h) payload

  pub limited_over : limit < length (head_bytes h) + length payload → limited limit h payload ≡ refused 12 0
  unfolding limited in_order
  limited_over l = simp (lt-leb (length (head_bytes h ++ payload)) limit (omega (arith, behind_length)))

  pub limited_in : length (head_bytes h) + length payload ≤ limit → limited limit h payload ≡ written (frame_bytes h payload)
  unfolding limited in_order
  limited_in l = simp (le-leb (length (head_bytes h ++ payload)) limit (omega (arith, behind_length)))

  -- the length bytes and the head, and the payload behind them
  pub frame_parts : frame_bytes h payload ≡ front h (length payload) ++ payload
  unfolding frame_bytes
  frame_parts =
      ap (λ (n : ℕ). four_bytes n ++ (head_bytes h ++ payload)) behind_length
      ∙ sym (append_assoc (four_bytes (length (head_bytes h) + length payload)) (head_bytes h) payload)

  pub frame_length : length (frame_bytes h payload) ≡ 4 + length (head_bytes h) + length payload
  frame_length =
      ap length frame_parts
      ∙ length-append (front h (length payload)) payload
      ∙ ap (λ (n : ℕ). n + length payload) (front_length h (length payload))

-- ---- the front of a frame: 12, 11, or the length bytes and the head

module _ (room limit : ℕ) (h : Head) (len : ℕ) where
  pub begun_over : limit < length (head_bytes h) + len → begun room limit h len ≡ refused 12 0
  unfolding begun in_order
  begun_over l = rw (lt-leb (length (head_bytes h) + len) limit l)

  pub begun_short : length (head_bytes h) + len ≤ limit → room < 4 + (length (head_bytes h) + len) → begun room limit h len ≡ refused 11 0
  unfolding begun in_order
  begun_short l g = rw (le-leb (length (head_bytes h) + len) limit l, lt-leb (4 + (length (head_bytes h) + len)) room g)

  pub begun_in : length (head_bytes h) + len ≤ limit → 4 + (length (head_bytes h) + len) ≤ room
      → begun room limit h len ≡ written (front h len)
  unfolding begun in_order
  begun_in l g = rw (le-leb (length (head_bytes h) + len) limit l, le-leb (4 + (length (head_bytes h) + len)) room g)

-- a refusal, as such an answer is kept
pub begins_refused : {a : Answer (List ℕ)} (r : Refusal) (old : List ℕ) → a ≡ refusal_said r → Begins a (Err r) old old
begins_refused r old e = rw e (record { says = refl; holds = refl })

-- A frame that is begun: its payload's length is the measured one, its front is written, and there is room for all.
pub record Begun (limit : ℕ) (h : Head) (payload old : List ℕ) (len start : ℕ) (out : List ℕ) : Type 0 where
  pub measured : len ≡ length payload
  pub fits : length (head_bytes h) + length payload ≤ limit
  pub whole : frame_bytes h payload ≡ front h len ++ payload
  pub count : start ≡ length (front h len)
  pub first : out ≡ leaves (written (front h len)) old
  pub room : length (front h len ++ payload) ≤ length old

-- What whoever begins a frame learns, where the payload was measured as far as the limit.
module _ (limit : ℕ) (h : Head) (payload : List ℕ) (room len : ℕ) (is : len ≡ capped limit (length payload)) where
  within_limit : length (head_bytes h) + len ≤ limit → len ≡ length payload
  within_limit l = is ∙ capped_below limit (length payload) (omega arith)

  over_limit : limit < length (head_bytes h) + len → limit < length (head_bytes h) + length payload
  over_limit l = ⊎_elim (λ g. omega arith) (λ g. omega (arith, capped_in limit (length payload) g)) (lt_or_le limit (length payload))

  -- by the front's answer: over the limit, without room, or begun
  begun_cases : {G : Type 0} → (begun room limit h len ≡ refused 12 0 → limit < length (head_bytes h) + length payload → G)
      → (begun room limit h len ≡ refused 11 0 → length (head_bytes h) + length payload ≤ limit → room < 4 + (length (head_bytes h) + length payload) → G)
      → (begun room limit h len ≡ written (front h len) → len ≡ length payload → length (head_bytes h) + length payload ≤ limit
      → 4 + (length (head_bytes h) + length payload) ≤ room → G)
      → G
  begun_cases over short in' =
      ⊎_elim (λ l. over (begun_over room limit h len l) (over_limit l))
      (λ l.
      let m = within_limit l in
      ⊎_elim (λ g. short (begun_short room limit h len l g) (omega arith) (omega arith)) (λ g. in' (begun_in room limit h len l g) m (omega arith) (omega arith))
      (lt_or_le room (4 + (length (head_bytes h) + len))))
      (lt_or_le limit (length (head_bytes h) + len))

module _ (limit : ℕ) (h : Head) (payload : List ℕ) {old out : List ℕ} (len : ℕ) (is : len ≡ capped limit (length payload)) where
  -- a refusal is the frame's
  pub begun_refused : (x : Refusal) → Begins (begun (length old) limit h len) (Err x) old out → Writes (limited limit h payload) (Err x) old out
  begun_refused x p =
      begun_cases limit h payload (length old) len is
      (λ a l. refused_as 12 a (rw (limited_over limit h payload l)))
      (λ a l g. refused_as 11 a (rw (limited_in limit h payload l) (simp (lt-leb (length (frame_bytes h payload)) (length old) (omega (arith, frame_length limit h payload))))))
      (λ a m l g. not_both (ap tells a) (sym p.says))
    where
      refused_as : (n : ℕ) → begun (length old) limit h len ≡ refused n 0 → within (length old) (limited limit h payload) ≡ refused n 0
          → Writes (limited limit h payload) (Err x) old out
      refused_as n a b = writes_as b (p.says ∙ ap tells a) (p.holds ∙ ap (λ (y : Answer (List ℕ)). leaves y old) a)

  -- and else it is begun
  pub begun_done : (start : ℕ) → Begins (begun (length old) limit h len) (Ok start) old out → Begun limit h payload old len start out
  begun_done start p =
      begun_cases limit h payload (length old) len is
      (λ a l. not_both refl (p.says ∙ ap tells a))
      (λ a l g. not_both refl (p.says ∙ ap tells a))
      (λ a m l g.
      let long = front_length h len in
      let said : done tt start ≡ done tt (length (front h len)) = p.says ∙ ap tells a in
      record {
        measured = m;
        fits = l;
        whole = frame_parts limit h payload ∙ ap (λ (k : ℕ). front h k ++ payload) (sym m);
        count = cc said;
        first = p.holds ∙ ap (λ (y : Answer (List ℕ)). leaves y old) a;
        room = omega (arith, long, length-append (front h len) payload);
      })

-- What it then has to do: lend the tail behind the front to a writer of the payload, which finds its room.
module _ {limit : ℕ} {h : Head} {payload old : List ℕ} {len start : ℕ} {out : List ℕ} (b : Begun limit h payload old len start out) where
  pub begun_start : start ≤ length out
  begun_start = both_start (front h len) payload old out start b.count b.first b.room

  pub begun_room : length payload ≤ length (take (length out - start) (drop start out))
  begun_room = both_room (front h len) payload old out start b.count b.first b.room

  pub begun_most : start + len ≤ length old
  begun_most = omega (arith, b.measured, b.count, b.room, length-append (front h len) payload)

  pub begun_whole : (tail : List ℕ) → tail ≡ leaves (written payload) (take (length out - start) (drop start out))
      → Writes (limited limit h payload) (Ok (start + len)) old (put_mid start (length out - start) out tail)
  begun_whole tail e =
      writes_whole (frame_bytes h payload) old (limited_in limit h payload b.fits) _ _
      (rw b.whole b.room)
      (omega (arith, ap length b.whole, length-append (front h len) payload, b.count, b.measured))
      (both_leaves (front h len) payload old out start b.count b.first b.room tail e ∙ ap (λ (l : List ℕ). leaves (written l) old) (sym b.whole))
