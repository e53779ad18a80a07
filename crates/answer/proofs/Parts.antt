-- Laws about what is written in parts: where there is room for all, two parts one behind the other, a part in the tail behind what is
-- written, and a copy byte by byte.
use mathlib.Core.Path.{◌≡◌, refl, sym, ap, ◌∙◌}
use mathlib.Core.List.{List, [], ◌∷◌, ◌++◌}
use Prim.Native.Nat.{ℕ, suc, ◌+◌, ◌-◌, ◌≤◌, ◌<◌}
use native.Mathlib.Numerals.{add-one}
use native.Mathlib.Omega.{arith}
use lib.ListN.{length, take, drop, get_or, set, length-append, length-drop, drop_of_length-le}
use lib.Seq.{length-take-le, drop-cons, drop-drop, take-add, take_at, drop_at}
use borrow.Rule.Slice.PartMut.{put_mid}
use borrow.Author.Tests.{le-leb}
use Rattle.answer.specs.declared.Refusal.{Refusal}
use Rattle.std.specs.Prelude.{Result, Ok, Err}
use Rattle.answer.specs.Answer.{done, written, leaves}
use Rattle.answer.specs.Writes.{refusal_said, said, counted, Writes}
use Rattle.answer.proofs.Output.{Partly, partly_next, partly_place, partly_length, lent_tail_lem, leaves_length, leaves_tail}

-- ---- one writer

-- where there is room, all is written
module _ (bytes : List ℕ) {old new : List ℕ} {r : Result ℕ Refusal} (p : Writes (written bytes) r old new) (room : length bytes ≤ length old) where
  pub room_count : said r ≡ done tt (length bytes)
  room_count = simp (le-leb (length bytes) (length old) room) at p.says

  pub room_leaves : new ≡ leaves (written bytes) old
  room_leaves = simp (le-leb (length bytes) (length old) room) at p.holds

  pub room_done : (n : ℕ) → r ≡ Ok n → n ≡ length bytes
  room_done n is = let e : done tt n ≡ done tt (length bytes) = sym (ap said is) ∙ room_count in cc

  pub room_refused : {G : Type 0} (x : Refusal) → r ≡ Err x → G
  room_refused x is =
      let e : refusal_said x ≡ done tt (length bytes) = sym (ap said is) ∙ room_count in
      let z : ◌≡◌ {A = ℕ} 0 1 = cc in
      absurd (omega arith)

  pub room_counted : counted r ≡ length bytes
  room_counted = by_answer r refl
    where
      by_answer : (x : Result ℕ Refusal) → r ≡ x → counted x ≡ length bytes
      by_answer (Ok n) is = room_done n is
      by_answer (Err x) is = room_refused x is

-- ---- two parts

-- Two parts: `front` is written, which made out of old, and n bytes long; `rest` goes behind it, by whoever is lent `&mut out[n..]`.
module _ (front rest old out : List ℕ) (n : ℕ) (count : n ≡ length front) (first : out ≡ leaves (written front) old)
    (room : length (front ++ rest) ≤ length old) where
  long : length front + length rest ≤ length old
  long = omega (arith, length-append front rest)

  pub both_length : length out ≡ length old
  both_length = ap length first ∙ leaves_length front old (omega (arith, long))

  pub both_start : n ≤ length out
  both_start = omega (arith, long, both_length)

  pub both_room : length rest ≤ length (take (length out - n) (drop n out))
  both_room = rw (lent_tail_lem n out) (simp length-drop (omega (arith, long, both_length)))

  pub both_count : (k : ℕ) → k ≡ length rest → n + k ≡ length (front ++ rest)
  both_count k e = omega (arith, length-append front rest)

  pub both_leaves : (tail : List ℕ) → tail ≡ leaves (written rest) (take (length out - n) (drop n out))
      → put_mid n (length out - n) out tail ≡ leaves (written (front ++ rest)) old
  both_leaves tail e = leaves_tail front rest old out tail n (sym count) first e

  -- where another writer is lent them
  module _ {r : Result ℕ Refusal} (tail : List ℕ) (then : Writes (written rest) r (take (length out - n) (drop n out)) tail) where
    pub both_wrote : counted r ≡ length rest
    both_wrote = room_counted rest then both_room

    pub both_written : put_mid n (length out - n) out tail ≡ leaves (written (front ++ rest)) old
    both_written = both_leaves tail (room_leaves rest then both_room)

-- ---- a part that another writer wrote into the tail behind what is written, `&mut out[at..]`

module _ {bytes old : List ℕ} {at : ℕ} {out : List ℕ} (front rest : List ℕ) (p : Partly bytes old at (front ++ rest) out) where
  counts : length bytes ≡ at + length front + length rest
  counts = omega (arith, p.at_most, length-drop at bytes, ap length p.to_do, length-append front rest)

  pub part_start : at ≤ length out
  part_start = omega (arith, p.room, counts, partly_length p)

  pub part_room : length front ≤ length (take (length out - at) (drop at out))
  part_room = rw (lent_tail_lem at out) (simp length-drop (omega (arith, p.room, counts, partly_length p)))

  pub part_fits : at + length front ≤ length out
  part_fits = omega (arith, p.room, counts, partly_length p)

  pub part_most : at + length front ≤ length old
  part_most = omega (arith, p.room, counts)

  front_long : length (take at bytes) ≡ at
  front_long = length-take-le at bytes p.at_most

  front_new : take (at + length front) bytes ≡ take at bytes ++ front
  front_new =
      take-add at (length front) bytes
      ∙ ap (λ (l : List ℕ). take at bytes ++ take (length front) l) p.to_do
      ∙ ap (λ (l : List ℕ). take at bytes ++ l) (take_at front rest (length front) refl)

  front_old : out ≡ leaves (written (take at bytes)) old
  front_old = p.so_far ∙ ap (λ (n : ℕ). take at bytes ++ drop n old) (sym front_long)

  module _ (tail : List ℕ) (then : tail ≡ leaves (written front) (take (length out - at) (drop at out))) where
    made : put_mid at (length out - at) out tail ≡ take (at + length front) bytes ++ drop (at + length front) old
    made =
        leaves_tail (take at bytes) front old out tail at front_long front_old then
        ∙ ap (λ (n : ℕ). (take at bytes ++ front) ++ drop n old) (length-append (take at bytes) front ∙ ap (λ (n : ℕ). n + length front) front_long)
        ∙ ap (λ (l : List ℕ). l ++ drop (at + length front) old) (sym front_new)

    pub partly_part : Partly bytes old (at + length front) rest (put_mid at (length out - at) out tail)
    partly_part =
        record {
          room = p.room;
          so_far = made;
          to_do = sym (drop-drop (length front) at bytes) ∙ ap (drop (length front)) p.to_do ∙ drop_at front rest (length front) refl;
          at_most = omega (arith, counts);
        }

-- or a part is written, and one byte behind it is left to write
pub one_left : (front : List ℕ) (b : ℕ) (old out : List ℕ) (n : ℕ) → n ≡ length front → out ≡ leaves (written front) old
    → length (front ++ (b ∷ [])) ≤ length old → Partly (front ++ (b ∷ [])) old n (b ∷ []) out
one_left front b old out n count first room =
    record {
      room = room;
      so_far = rw count (first ∙ ap (λ (l : List ℕ). l ++ drop (length front) old) (sym (take_at front (b ∷ []) (length front) refl)));
      to_do = drop_at front (b ∷ []) n (sym count);
      at_most = omega (arith, length-append front (b ∷ []));
    }

-- ---- a copy

-- a copy, one byte more
module _ {bytes old out : List ℕ} {at : ℕ} (p : Partly bytes old at (drop at bytes) out) (h : at < length bytes) where
  copied : Partly bytes old at (get_or bytes at 0 ∷ drop (suc at) bytes) out
  copied = rw (drop-cons bytes at 0 h) at p

  pub copy_place : at < length out
  copy_place = partly_place copied

  pub copy_next : Partly bytes old (at + 1) (drop (at + 1) bytes) (set out at (get_or bytes at 0))
  copy_next = rw (add-one at) (rw (add-one at) at (partly_next copied))

-- and at its end
pub copy_all : {bytes old out : List ℕ} {at : ℕ} → Partly bytes old at (drop at bytes) out → length bytes ≤ at → Partly bytes old at [] out
copy_all {bytes} p h = rw (drop_of_length-le bytes h) at p
