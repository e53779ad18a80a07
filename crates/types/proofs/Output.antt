-- Laws about the writers inside: what each leaves where a value has no form or no room, where another writer wrote, after a copy, and in
-- two parts one behind the other.
use mathlib.Core.Path.{◌≡◌, refl, ap, ◌∙◌}
use mathlib.Core.List.{List, [], ◌∷◌, ◌++◌}
use mathlib.Core.Logic.{⊎_elim}
use Prim.Native.Nat.{ℕ, ◌+◌, ◌-◌, ◌≤◌, ◌<◌}
use native.Mathlib.Omega.{arith}
use lib.ListN.{length, take, drop, set}
use borrow.Rule.Slice.PartMut.{put_mid}
use borrow.Author.Tests.{le-leb, lt-leb}
use Rattle.std.specs.Prelude.{Result}
use Rattle.answer.specs.declared.Refusal.{Refusal}
use Rattle.answer.specs.Answer.{Answer, done, refused, written, within, tells}
use Rattle.answer.specs.Writes.{counted, Writes}
use Rattle.answer.proofs.Cases.{lt_or_le}
use Rattle.answer.proofs.Output.{leaves_length, leaves_byte}
use Rattle.answer.proofs.Parts.{room_counted, room_leaves, both_start, both_room, both_count, both_leaves}
use Rattle.types.specs.Form.{length_of}
use Rattle.types.specs.Inner.{Puts}

-- what has no written form is not written
pub puts_refusal : {a : Answer (List ℕ)} (room n : ℕ) (old : List ℕ) → a ≡ refused n 0 → Puts (within room a) 0 old old
puts_refusal room n old e = rw e (record { counts = refl; holds = refl })

-- what has one is written, or finds no room
module _ {a : Answer (List ℕ)} (bytes old : List ℕ) (is : a ≡ written bytes) where
  pub puts_short : length old < length bytes → Puts (within (length old) a) 0 old old
  puts_short h = rw is (simp (lt-leb (length bytes) (length old) h) (record { counts = refl; holds = refl }))

  pub puts_whole : {new : List ℕ} {n : ℕ} → length bytes ≤ length old → Puts (written bytes) n old new → Puts (within (length old) a) n old new
  puts_whole h p = rw is (simp (le-leb (length bytes) (length old) h) p)

-- what another writer wrote, where there is room
pub puts_wrote : (bytes : List ℕ) {old new : List ℕ} {r : Result ℕ Refusal} {n : ℕ}
    → Writes (written bytes) r old new → length bytes ≤ length old → n ≡ counted r → Puts (written bytes) n old new
puts_wrote bytes p room e = record { counts = e ∙ room_counted bytes p room; holds = room_leaves bytes p room }

-- a count that is not 0 is told as it is
pub told : (a : Answer (List ℕ)) (n : ℕ) → n ≡ length_of a → (n ≡ 0 → ⊥) → done tt n ≡ tells a
told (done bytes m) n e some = ap (done tt) e
told (refused number place) n e some = absurd (some e)

-- a form that is not empty and has no count finds no room
pub told_short : {a : Answer (List ℕ)} (bytes : List ℕ) (room : ℕ) → a ≡ written bytes → 1 ≤ length bytes → length_of (within room a) ≡ 0
    → tells (within room a) ≡ refused 11 0
told_short {a} bytes room is some none =
    ⊎_elim
    (λ h. rw is (simp (lt-leb (length bytes) room h)))
    (λ h. let z : length bytes ≡ 0 = simp (le-leb (length bytes) room h) at (rw is at none) in absurd (omega arith))
    (lt_or_le room (length bytes))

-- Of two parts the first is written, n bytes, which made out of old, and there is room for both.
pub record Begun (front rest old : List ℕ) (n : ℕ) (out : List ℕ) : Type 0 where
  pub first : Puts (written front) n old out
  pub room : length (front ++ rest) ≤ length old

-- the first is a byte, as a store leaves it
pub begun_byte : (b : ℕ) (rest old : List ℕ) → length (b ∷ rest) ≤ length old → Begun (b ∷ []) rest old 1 (set old 0 b)
begun_byte b rest old room = record { first = record { counts = refl; holds = leaves_byte b old (omega arith) }; room = room }

-- by what the byte is
pub begun_known : {b t : ℕ} (rest old : List ℕ) → b ≡ t → length (t ∷ rest) ≤ length old → Begun (t ∷ []) rest old 1 (set old 0 b)
begun_known rest old e room = rw e (begun_byte _ rest old room)

-- the second goes behind it, by whoever is lent `&mut out[n..]`
module _ {front rest old out : List ℕ} {n : ℕ} (b : Begun front rest old n out) where
  pub begun_start : n ≤ length out
  begun_start = both_start front rest old out n b.first.counts b.first.holds b.room

  pub begun_room : length rest ≤ length (take (length out - n) (drop n out))
  begun_room = both_room front rest old out n b.first.counts b.first.holds b.room

  module _ {k : ℕ} {tail : List ℕ} (p : Puts (written rest) k (take (length out - n) (drop n out)) tail) where
    pub begun_both : Puts (written (front ++ rest)) (n + k) old (put_mid n (length out - n) out tail)
    begun_both =
        record {
          counts = both_count front rest old out n b.first.counts b.first.holds b.room k p.counts;
          holds = both_leaves front rest old out n b.first.counts b.first.holds b.room tail p.holds;
        }

    pub begun_most : n + k ≤ length old
    begun_most = omega (arith, begun_both.counts, b.room)

    pub begun_length : length (put_mid n (length out - n) out tail) ≡ length old
    begun_length = ap length begun_both.holds ∙ leaves_length (front ++ rest) old b.room
