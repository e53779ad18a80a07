-- Laws about writing bytes one after the other at the front of lent ones: what every writer's loop is made of.
use mathlib.Core.Path.{◌≡◌, refl, sym, ap, ap₂, ◌∙◌}
use mathlib.Core.List.{List, [], ◌∷◌, ◌++◌, append-nil, append_assoc, head-eq_of_cons-eq, tail-eq_of_cons-eq}
use mathlib.Core.Logic.{⊎_elim}
use Prim.Native.Nat.{ℕ, suc, ◌+◌, ◌-◌, ◌≤◌, ◌<◌, zero-le}
use native.Mathlib.Numerals.{add-one}
use native.Mathlib.Omega.{arith}
use lib.Dec.{leb}
use lib.ListN.{length, take, drop, set, get_or, length-append, length-take, length-drop, drop_of_length-le}
use lib.Seq.{drop-cons, take-suc, append_snoc, set_at, take_all, length-take-le, drop-drop, take_at, drop_at}
use borrow.Rule.Slice.PartMut.{put_mid}
use borrow.Author.Tests.{le-leb, lt-leb}
use Rattle.std.specs.Prelude.{Result, Ok, Err}
use Rattle.answer.specs.declared.Reason.TheVariants as reason
use Rattle.answer.specs.declared.Refusal.{Refusal}
use Rattle.answer.specs.Answer.{Answer, done, refused, written, within, leaves, tells}
use Rattle.answer.specs.Writes.{refusal_said, said, Writes}
use Rattle.answer.proofs.Cases.{lt_or_le, bool_cases}

-- Of `bytes`, which old has room for, the first `at` are written, which makes out of old, and rest is left to write.
pub record Partly (bytes old : List ℕ) (at : ℕ) (rest out : List ℕ) : Type 0 where
  pub room : length bytes ≤ length old
  pub so_far : out ≡ take at bytes ++ drop at old
  pub to_do : drop at bytes ≡ rest
  pub at_most : at ≤ length bytes

pub partly_none : (bytes old : List ℕ) → length bytes ≤ length old → Partly bytes old 0 bytes old
partly_none bytes old room = record { room = room; so_far = refl; to_do = refl; at_most = zero-le }

pub partly_length : {bytes old : List ℕ} {at : ℕ} {rest out : List ℕ} → Partly bytes old at rest out → length out ≡ length old
partly_length p = rw p.so_far (simp (length-append, length-take, length-drop) (omega (arith, p.room, p.at_most)))

module _ {bytes old : List ℕ} {at b : ℕ} {rest out : List ℕ} (p : Partly bytes old at (b ∷ rest) out) where
  -- what is left to write says that there is one more
  below : at < length bytes
  below =
      ⊎_elim (λ h. h)
      (λ h. let n : 0 ≡ suc (length rest) = ap length (sym (drop_of_length-le bytes h) ∙ p.to_do) in absurd (omega arith))
      (lt_or_le at (length bytes))

  next : get_or bytes at 0 ∷ drop (suc at) bytes ≡ b ∷ rest
  next = sym (drop-cons bytes at 0 below) ∙ p.to_do

  -- the next byte goes to its place
  stored : set (take at bytes ++ drop at old) at b ≡ take (suc at) bytes ++ drop (suc at) old
  stored =
      let h = below in
      let r = p.room in
      rw (drop-cons old at 0 (omega arith))
      (set_at (take at bytes) (get_or old at 0) (drop (suc at) old) b at (length-take-le at bytes (omega arith))
      ∙ sym (append_snoc (take at bytes) b (drop (suc at) old))
      ∙ ap (λ (l : List ℕ). l ++ drop (suc at) old)
      (ap (λ (x : ℕ). take at bytes ++ (x ∷ [])) (sym (head-eq_of_cons-eq next)) ∙ sym (take-suc bytes at 0 h)))

  pub partly_next : Partly bytes old (at + 1) rest (set out at b)
  partly_next = record { room = p.room; so_far = rw (add-one, p.so_far) stored; to_do = rw add-one (tail-eq_of_cons-eq next); at_most = (let h = below in omega arith) }

  pub partly_place : at < length out
  partly_place = omega (arith, below, p.room, partly_length p)

-- nothing is left: all is written
module _ {bytes old : List ℕ} {at : ℕ} {out : List ℕ} (p : Partly bytes old at [] out) where
  pub partly_count : at ≡ length bytes
  partly_count = omega (arith, p.at_most, sym (length-drop at bytes) ∙ ap length p.to_do)

  pub partly_all : out ≡ leaves (written bytes) old
  partly_all =
      p.so_far
      ∙ rw partly_count
      (ap (λ (l : List ℕ). l ++ drop (length bytes) old) (take_all (length bytes) bytes (omega arith)))

-- ---- a part in front, and the rest by whoever was lent the tail behind it, `&mut out[n..]`

-- the tail that was lent, as the callee has it
pub lent_tail_lem : (n : ℕ) (out : List ℕ) → take (length out - n) (drop n out) ≡ drop n out
lent_tail_lem n out = take_all (length out - n) (drop n out) (omega (arith, length-drop n out))

-- nothing lies behind it
behind_tail : (n : ℕ) (out : List ℕ) → drop (length out - n) (drop n out) ≡ []
behind_tail n out = drop_of_length-le (drop n out) {i = length out - n} (omega (arith, length-drop n out))

-- a success keeps the lent bytes' count
pub leaves_length : (bytes old : List ℕ) → length bytes ≤ length old → length (leaves (written bytes) old) ≡ length old
leaves_length bytes old h = simp (length-append, length-drop) (omega arith)

-- one byte in front
pub leaves_byte : (b : ℕ) (old : List ℕ) → 1 ≤ length old → set old 0 b ≡ leaves (written (b ∷ [])) old
leaves_byte b [] h = absurd (omega arith)
leaves_byte b (x ∷ old) h = refl

-- writing one part and then the other behind it is writing both
pub leaves_both : (front rest old : List ℕ)
    → front ++ leaves (written rest) (drop (length front) old) ≡ leaves (written (front ++ rest)) old
leaves_both front rest old = simp (append_assoc, length-append, drop-drop)

module _ (front rest old out tail : List ℕ) (n : ℕ) (count : length front ≡ n)
    (first : out ≡ leaves (written front) old)
    (then : tail ≡ leaves (written rest) (take (length out - n) (drop n out))) where
  front_is : take n out ≡ front
  front_is = ap (take n) first ∙ take_at front (drop (length front) old) n count

  tail_is : tail ≡ leaves (written rest) (drop (length front) old)
  tail_is =
      then
      ∙ ap (leaves (written rest)) (lent_tail_lem n out ∙ ap (drop n) first ∙ drop_at front (drop (length front) old) n count)

  pub leaves_tail : put_mid n (length out - n) out tail ≡ leaves (written (front ++ rest)) old
  leaves_tail =
      ap (λ (l : List ℕ). take n out ++ (tail ++ l)) (behind_tail n out)
      ∙ ap (λ (l : List ℕ). take n out ++ l) (append-nil tail)
      ∙ ap₂ ◌++◌ front_is tail_is
      ∙ leaves_both front rest old

-- ---- what a writer promises: by the answer within the lent bytes, and the two ways to keep it

pub writes_as : {a b : Answer (List ℕ)} {r : Result ℕ Refusal} {old new : List ℕ} → within (length old) a ≡ b → said r ≡ tells b → new ≡ leaves b old → Writes a r old new
writes_as {old = old} e says holds = record { says = says ∙ ap tells (sym e); holds = holds ∙ ap (λ (x : Answer (List ℕ)). leaves x old) (sym e) }

pub writes_none : (bytes old : List ℕ) {r : Refusal} → r ≡ record { reason = reason.NoRoom; place = 0 } → length old < length bytes
    → Writes (written bytes) (Err r) old old
writes_none bytes old {r} e h = writes_as {b = refused 11 0} (simp (lt-leb (length bytes) (length old) h)) (ap refusal_said e) refl

pub writes_all : (bytes old new : List ℕ) (n : ℕ) → length bytes ≤ length old → n ≡ length bytes → new ≡ leaves (written bytes) old
    → Writes (written bytes) (Ok n) old new
writes_all bytes old new n h count e = writes_as {b = written bytes} (simp (le-leb (length bytes) (length old) h)) (ap (done tt) count) e

-- the same of an answer that has other refusals before these
pub writes_refusal : {a : Answer (List ℕ)} (r : Refusal) (old : List ℕ) → a ≡ refusal_said r → Writes a (Err r) old old
writes_refusal r old e = rw e (record { says = refl; holds = refl })

module _ {a : Answer (List ℕ)} (bytes old : List ℕ) (is : a ≡ written bytes) where
  pub writes_whole : (new : List ℕ) (n : ℕ) → length bytes ≤ length old → n ≡ length bytes → new ≡ leaves (written bytes) old
      → Writes a (Ok n) old new
  writes_whole new n room m e = rw is (writes_all bytes old new n room m e)

-- What a caller learns where it was told that n bytes were written: they are there, at the front.
pub writes_done : (bytes : List ℕ) {old new : List ℕ} {r : Result ℕ Refusal} {n : ℕ}
    → Writes (written bytes) r old new → r ≡ Ok n
    → (n ≡ length bytes) × (n ≤ length new) × (take n new ≡ bytes)
writes_done bytes {old} {new} {r} {n} p is =
    ⊎_elim
    (λ h. let none = sym (ap said is) ∙ simp (lt-leb (length bytes) (length old) h) at p.says in let z : ◌≡◌ {A = ℕ} 0 1 = cc none in absurd (omega arith))
    (λ h.
    let all = sym (ap said is) ∙ simp (le-leb (length bytes) (length old) h) at p.says in
    let e = simp (le-leb (length bytes) (length old) h) at p.holds in
    let m : n ≡ length bytes = cc all in (
      m,
      rw (m, e) (omega (arith, leaves_length bytes old h)),
      rw (m, e) (take_at bytes (drop (length bytes) old) (length bytes) refl),
    ))
    (lt_or_le (length old) (length bytes))

-- A writer that counts n bytes: what it answered, and what it left.
pub record Given (a : Answer (List ℕ)) (n : ℕ) (old new : List ℕ) : Type 0 where
  pub bytes : List ℕ
  pub is : a ≡ done bytes n
  pub left : new ≡ bytes ++ drop n old

pub given : (a : Answer (List ℕ)) {n : ℕ} {old new : List ℕ} → Writes a (Ok n) old new → Given a n old new
given (done bytes m) {n} {old} {new} p =
    bool_cases (leb m (length old))
    (λ t.
    let s : done tt n ≡ done tt m = simp t at p.says in
    let l : new ≡ bytes ++ drop m old = simp t at p.holds in
    let k : m ≡ n = cc in
    record { bytes = bytes; is = ap (done bytes) k; left = l ∙ ap (λ (i : ℕ). bytes ++ drop i old) k })
    (λ t. let s = simp t at p.says in let z : ◌≡◌ {A = ℕ} 0 1 = cc s in absurd (omega arith))
given (refused number place) p = let s = p.says in let z : ◌≡◌ {A = ℕ} 0 1 = cc s in absurd (omega arith)

-- What it leaves where the caller knows that there is room.
pub writes_room : (bytes : List ℕ) {old new : List ℕ} {r : Result ℕ Refusal}
    → Writes (written bytes) r old new → length bytes ≤ length old → new ≡ leaves (written bytes) old
writes_room bytes {old} p h = simp (le-leb (length bytes) (length old) h) at p.holds

-- ---- a writer that lends the tail of its output to another writer

module _ (front bytes old out tail : List ℕ) (n : ℕ) {r : Result ℕ Refusal} (count : length front ≡ n)
    (first : out ≡ leaves (written front) old)
    (fit : length front + length bytes ≤ length old)
    (then : Writes (written bytes) r (take (length out - n) (drop n out)) tail) where
  tail_room : length bytes ≤ length (take (length out - n) (drop n out))
  tail_room =
      rw (lent_tail_lem n out)
      (omega (arith, length-drop n out, ap length first, leaves_length front old (omega arith)))

  pub leaves_writes : put_mid n (length out - n) out tail ≡ leaves (written (front ++ bytes)) old
  leaves_writes = leaves_tail front bytes old out tail n count first (writes_room bytes then tail_room)
