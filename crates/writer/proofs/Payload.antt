-- Laws about what an accepted writer of records left: its frame, and the payload, which is its records spelled out.
use mathlib.Core.Path.{◌≡◌, sym, ap, ap₂, ◌∙◌}
use mathlib.Core.List.{List, [], ◌++◌}
use Prim.Native.Nat.{ℕ, ◌+◌, ◌^◌, ◌≤◌, ◌<◌}
use native.Mathlib.Omega.{arith}
use lib.ListN.{length, take, drop}
use lib.Seq.{take_at}
use Rattle.answer.specs.Answer.{Answer}
use Rattle.answer.specs.Table.{records, joined}
use Rattle.answer.proofs.Output.{Given}
use Rattle.answer.proofs.Records.{joined_none, joined_both, joined_same, one_of_all}
use Rattle.answer.proofs.Each.{Each, each_record}
use Rattle.answer.proofs.Apart.{joined_apart}
use Rattle.frame.specs.declared.Head.{Head}
use Rattle.frame.specs.Head.{head_bytes, frame_bytes}
use Rattle.frame.proofs.Laws.{payload_of, frame_payload, payload_fits}
use Rattle.writer.proofs.Laws.{Wrote}

-- The n bytes at the front of `new` are a frame, and its payload is these things written one after the other, each as it is to be.
pub record Spelled {A : Type 0} (bytes : A → List ℕ) (P : A → Type 0) (h : Head) (n : ℕ) (new : List ℕ) (xs : List A) : Type 0 where
  pub payload : payload_of h n new ≡ joined bytes xs
  pub frame : take n new ≡ frame_bytes h (payload_of h n new)
  pub each : Each P xs

-- Law: so is what an accepted writer of records left, where each record is written as what it says. The frame is at the front, the payload is
-- what was written behind the head, and no record is longer than the payload, which is within a limit of 32 bits.
module _ {A B : Type 0} (form : B → List ℕ) (at : ℕ → B) (bytes : A → List ℕ) (P : A → Type 0) (to : ℕ → A)
    (same : (i : ℕ) → form (at i) ≡ bytes (to i)) (count : ℕ) (ok : (i : ℕ) → i < count → length (form (at i)) < 2 ^ 64 → P (to i))
    (h : Head) (limit : ℕ) (small : limit < 2 ^ 32) {a : Answer (List ℕ)} {n : ℕ} {old new : List ℕ} (g : Given a n old new)
    (wrote : Wrote h limit (joined form (records at 0 count)) g.bytes n) where
  abbrev all : List ℕ
  all = joined form (records at 0 count)

  whole : take n new ≡ frame_bytes h all
  whole = ap (take n) g.left ∙ take_at g.bytes (drop n old) n (sym wrote.count) ∙ wrote.frame

  payload_is : payload_of h n new ≡ all
  payload_is = ap (drop (4 + length (head_bytes h))) whole ∙ frame_payload h all

  short : length all < 2 ^ 64
  short = omega (arith, (wrote.parts small).fits, ap (λ (l : List ℕ). length (drop 4 l)) wrote.frame, payload_fits h all)

  pub spelled : Spelled bytes P h n new (records to 0 count)
  spelled =
      record {
        payload = payload_is ∙ joined_same form bytes at to same count 0;
        frame = whole ∙ ap (frame_bytes h) (sym payload_is);
        each = each_record P to count 0 (λ i z l. ok i (omega arith) (omega (arith, short, one_of_all form at count 0 i z l)));
      }

-- ---- two and three calls

module _ {A : Type 0} {bytes : A → List ℕ} {P : A → Type 0} {h k : Head} {n m : ℕ} {new out : List ℕ} {xs ys : List A}
    (a : Spelled bytes P h n new xs) (b : Spelled bytes P k m out ys) where
  -- Law: with both lists one after the other the payload is the first and then the second, and the frame is the head and both.
  pub spelled_joined : {f : Head} {l : ℕ} {both : List ℕ} {zs : List A} → Spelled bytes P f l both zs → zs ≡ xs ++ ys
      → (payload_of f l both ≡ payload_of h n new ++ payload_of k m out)
      × (take l both ≡ frame_bytes f (payload_of h n new ++ payload_of k m out))
  spelled_joined {f} {l} {both} c e = (is, c.frame ∙ ap (frame_bytes f) is)
    where
      is : payload_of f l both ≡ payload_of h n new ++ payload_of k m out
      is = c.payload ∙ ap (joined bytes) e ∙ joined_both bytes xs ys ∙ ap₂ ◌++◌ (sym a.payload) (sym b.payload)

  -- Law: with the same payload the lists are the same, where no form is empty or the start of another.
  pub spelled_apart : ((x : A) → P x → 1 ≤ length (bytes x))
      → ((x y : A) (t u : List ℕ) → P x → P y → bytes x ++ t ≡ bytes y ++ u → (x ≡ y) × (t ≡ u))
      → payload_of h n new ≡ payload_of k m out → xs ≡ ys
  spelled_apart some front e = joined_apart bytes P some front xs ys a.each b.each (sym a.payload ∙ e ∙ b.payload)

-- Law: no record gives no byte.
pub spelled_none : {A : Type 0} {bytes : A → List ℕ} {P : A → Type 0} {h : Head} {n : ℕ} {new : List ℕ} {xs : List A}
    → Spelled bytes P h n new xs → xs ≡ [] → payload_of h n new ≡ []
spelled_none {bytes = bytes} a e = a.payload ∙ ap (joined bytes) e ∙ joined_none bytes
