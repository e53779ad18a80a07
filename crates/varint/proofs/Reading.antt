-- Laws about reading a number: what one byte more does, that what was written is read back, what an accepted number and a
-- refusal say of the bytes, where a number is refused, and that bytes appended change no answer but 3.
use mathlib.Core.Path.{◌≡◌, refl, sym, ap, ap₂, ◌∙◌}
use mathlib.Core.Logic.{⊎_elim}
use mathlib.Core.List.{List, [], ◌∷◌, ◌++◌, append_cancel_left}
use Prim.Native.Nat.{ℕ, zero, suc, ◌+◌, ◌-◌, ◌*◌, ◌/◌, ◌%◌, ◌^◌, ◌≤◌, ◌<◌}
use mathlib.Core.Bool.{false}
use native.Mathlib.Nat.{mul_comm, mul_assoc, add-mul}
use native.Mathlib.Omega.{arith}
use lib.Dec.{eqb}
use lib.Pow.{pow-add, shl_exact}
use lib.ListN.{length, take, get_or}
use borrow.Author.Tests.{lt-ltb, le-ltb, le-leb, lt-leb, eqb-true, eqb-false}
use Rattle.std.specs.Prelude.{Result}
use Rattle.answer.specs.declared.Read.{Read}
use Rattle.answer.specs.declared.Refusal.{Refusal}
use Rattle.answer.specs.Answer.{Answer, done, refused}
use Rattle.answer.specs.Writes.{read_said}
use Rattle.answer.proofs.Answers.{ends}
use Rattle.answer.proofs.Cases.{bool_cases, answer_cases, not_both, lt_or_le}
use Rattle.varint.specs.Number.{worth, tenth_too_high, more, number, groups, number_bytes}
use Rattle.varint.specs.Promise.{Exactly, DecodeVarint}
use Rattle.varint.proofs.Writing.{reach, reach_down, groups_last, groups_on, bytes_one, bytes_more, steps_reach}

-- ---- one byte

-- a byte that is no tenth one, or one of four bits
pub fits_so : (k b : ℕ) → (k ≡ 9 → b ≤ 15) → tenth_too_high k b ≡ false
fits_so k b h = bool_cases (eqb k 9) (λ t. rw (t, le-ltb 15 b (h (eqb-true k 9 t)))) (λ t. rw t)

module _ (sum k b : ℕ) where
  pub more_tenth : k ≡ 9 → 15 < b → (s : List ℕ) → more sum k (b ∷ s) ≡ refused 19 (suc k)
  unfolding more
  more_tenth e h s = rw (e, lt-ltb 15 b h)

  module _ (fits : k ≡ 9 → b ≤ 15) where
    pub more_over : 2 ^ 64 ≤ sum + worth k b → (s : List ℕ) → more sum k (b ∷ s) ≡ refused 7 (suc k)
    unfolding more
    more_over o s = simp (fits_so k b fits, le-leb (2 ^ 64) (sum + worth k b) o)

    pub more_last : sum + worth k b < 2 ^ 64 → b < 128 → (s : List ℕ) → more sum k (b ∷ s) ≡ done (sum + worth k b) (suc k)
    unfolding more
    more_last o l s = simp (fits_so k b fits, lt-leb (2 ^ 64) (sum + worth k b) o, lt-ltb b 128 l)

    pub more_on : sum + worth k b < 2 ^ 64 → 128 ≤ b → (s : List ℕ) → more sum k (b ∷ s) ≡ more (sum + worth k b) (suc k) s
    unfolding more
    more_on o l s = simp (fits_so k b fits, lt-leb (2 ^ 64) (sum + worth k b) o, le-ltb b 128 l)

  -- A law about one more byte goes by three cases: it breaks the number, ends it or is followed by others, and then it is no tenth one. Which one
  -- it is does not depend on the bytes after it.
  more_cases : {G : Type 0}
      → ((n : ℕ) → (n ≡ 3 → ⊥) → ((s : List ℕ) → more sum k (b ∷ s) ≡ refused n (suc k)) → G)
      → (sum + worth k b < 2 ^ 64 → b < 128 → ((s : List ℕ) → more sum k (b ∷ s) ≡ done (sum + worth k b) (suc k)) → G)
      → (128 ≤ b → (k ≡ 9 → ⊥) → ((s : List ℕ) → more sum k (b ∷ s) ≡ more (sum + worth k b) (suc k) s) → G)
      → G
  more_cases {G} broke ends goes =
      bool_cases (eqb k 9)
      (λ t. let e = eqb-true k 9 t in ⊎_elim (λ h. broke 19 (λ z. omega arith) (more_tenth e h)) (λ h. fitting (λ z. h)) (lt_or_le 15 b))
      (λ t. fitting (λ z. absurd (eqb-false k 9 t z)))
    where
      fitting : (k ≡ 9 → b ≤ 15) → G
      fitting f =
          ⊎_elim
          (λ o. ⊎_elim (λ l. ends o l (more_last f o l)) (λ l. goes l (λ e. let h = f e in omega arith) (more_on f o l)) (lt_or_le b 128))
          (λ o. broke 7 (λ z. omega arith) (more_over f o))
          (lt_or_le (sum + worth k b) (2 ^ 64))

pub number_one : (b : ℕ) (s : List ℕ) → b < 240 → number (b ∷ s) ≡ done b 1
unfolding number
number_one b s h = simp (lt-ltb b 240 h)

pub number_more : (b : ℕ) (s : List ℕ) → 240 ≤ b → number (b ∷ s) ≡ more b 1 s
unfolding number
number_more b s h = simp (le-ltb b 240 h)

-- ---- what a byte is worth

-- each place is worth 128 times the one before
worth_next : (k : ℕ) → 1 ≤ k → 2 ^ (7 * suc k - 3) ≡ 2 ^ (7 * k - 3) * 128
worth_next k h = ap (λ (e : ℕ). 2 ^ e) (omega arith) ∙ pow-add 2 (7 * k - 3) 7

-- a shift leaves all of it in 64 bits
pub worth_shift : (k b : ℕ) → k < 9 → b < 256 → (b * 2 ^ (7 * k - 3)) % 2 ^ 64 ≡ worth k b
worth_shift k b h l = shl_exact 8 (7 * k - 3) 64 l (omega arith)

-- ---- what was written is read back

-- a byte that is not the last, and what follows it, are worth what they stand for
step_worth : (v k : ℕ) → 128 ≤ v → 1 ≤ k
    → (128 + v % 128) * 2 ^ (7 * k - 3) + (v - 128) / 128 * 2 ^ (7 * suc k - 3) ≡ v * 2 ^ (7 * k - 3)
step_worth v k l p =
    let w = 2 ^ (7 * k - 3) in
    let u = (v - 128) / 128 in
    ap (λ (x : ℕ). (128 + v % 128) * w + x) (ap (λ (x : ℕ). u * x) (worth_next k p ∙ mul_comm w 128) ∙ sym (mul_assoc u 128 w))
    ∙ sym (add-mul (128 + v % 128) (u * 128) w)
    ∙ ap (λ (x : ℕ). x * w) (omega arith)

-- a tenth byte has four bits of 64
tenth_fits : (sum k b : ℕ) → sum + b * 2 ^ (7 * k - 3) < 2 ^ 64 → k ≡ 9 → b ≤ 15
tenth_fits sum k b o e = let g : sum + b * 2 ^ 60 < 2 ^ 64 = rw e at o in omega arith

-- read after k bytes that add up to sum, where as many are left as ten allow
more_groups : (left v k sum : ℕ) (t : List ℕ) → v < reach left → 1 ≤ k → k + left ≡ 10 → sum + v * 2 ^ (7 * k - 3) < 2 ^ 64
    → more sum k (groups left v ++ t) ≡ done (sum + v * 2 ^ (7 * k - 3)) (k + length (groups left v))
unfolding reach
more_groups zero v k sum t h p e o = absurd (omega arith)
more_groups (suc left) v k sum t h p e o =
    ⊎_elim
    (λ l. rw (groups_last left v l) (more_last sum k v (tenth_fits sum k v o) o l t ∙ ap (done (sum + worth k v)) (omega arith)))
    (λ l.
    let b = 128 + v % 128 in
    let u = (v - 128) / 128 in
    let both = step_worth v k l p in
    let first : sum + b * 2 ^ (7 * k - 3) < 2 ^ 64 = omega arith in
    let next = more_groups left u (suc k) (sum + worth k b) t (reach_down left v l h) (omega arith) (omega arith) (omega arith) in
    rw (groups_on left v l)
    (more_on sum k b (tenth_fits sum k b first) first (omega arith) (groups left u ++ t) ∙ next ∙ ap₂ done (omega arith) (omega arith)))
    (lt_or_le v 128)

-- Law: at the front of any bytes, the written form of n reads as n and takes its own bytes.
pub reads_back : (n : ℕ) (t : List ℕ) → n < 2 ^ 64 → number (number_bytes n ++ t) ≡ done n (length (number_bytes n))
reads_back n t h =
    ⊎_elim
    (λ l. rw (bytes_one n l) (number_one n t l))
    (λ l.
    let b = 240 + n % 16 in
    let v = (n - 240) / 16 in
    rw (bytes_more n l)
    (number_more b (groups 9 v ++ t) (omega arith)
    ∙ more_groups 9 v 1 b t (steps_reach n h) (omega arith) refl (omega arith)
    ∙ ap₂ done (omega arith) (omega arith)))
    (lt_or_le n 240)

-- So different numbers have different written forms, and none is the start of another.
pub apart : (m n : ℕ) (t u : List ℕ) → m < 2 ^ 64 → n < 2 ^ 64 → number_bytes m ++ t ≡ number_bytes n ++ u → (m ≡ n) × (t ≡ u)
apart m n t u hm hn e = (same, append_cancel_left (number_bytes n) t u (rw same at e))
  where
    one : done m (length (number_bytes m)) ≡ done n (length (number_bytes n))
    one = sym (reads_back m t hm) ∙ ap number e ∙ reads_back n u hn

    same : m ≡ n
    same = cc one

-- ---- what an answer says of the bytes

pub more_none : (sum k : ℕ) → more sum k [] ≡ refused 3 k
unfolding more
more_none sum k = refl

pub number_none : number [] ≡ refused 3 0
unfolding number
number_none = refl

-- byte by byte, as more-cases has it: a tenth byte is the last, so no eleventh is met
more_accepted : (s : List ℕ) (sum k v used : ℕ) → k ≤ 9 → more sum k s ≡ done v used
    → (k < used) × (used ≤ 10) × (used ≤ k + length s) × (v < 2 ^ 64)
more_accepted [] sum k v used h e = not_both e (more_none sum k)
more_accepted (b ∷ s) sum k v used h e =
    more_cases sum k b
    (λ n ne broke. not_both e (broke s))
    (λ o l ends.
    let one : done (sum + worth k b) (suc k) ≡ done v used = sym (ends s) ∙ e in
    let p : sum + worth k b ≡ v = cc in
    let q : suc k ≡ used = cc in
    omega arith)
    (λ l ne goes.
    let next = more_accepted s (sum + worth k b) (suc k) v used (⊎_elim (λ g. omega arith) (λ g. absurd (ne (omega arith))) (lt_or_le k 9)) (sym (goes s) ∙ e) in
    omega arith)

-- Law: an accepted number takes at least one byte and at most ten, no more than are there, and is below 2^64.
pub accepted : (s : List ℕ) (v used : ℕ) → number s ≡ done v used → (1 ≤ used) × (used ≤ 10) × (used ≤ length s) × (v < 2 ^ 64)
accepted [] v used e = not_both e number_none
accepted (b ∷ s) v used e =
    ⊎_elim
    (λ l.
    let one : done b 1 ≡ done v used = sym (number_one b s l) ∙ e in
    let p : b ≡ v = cc in
    let q : 1 ≡ used = cc in
    omega arith)
    (λ l. let next = more_accepted s b 1 v used (omega arith) (sym (number_more b s l) ∙ e) in omega arith)
    (lt_or_le b 240)

-- The bytes that are there end inside a number: there are none, or the first is at least 240 and the rest at least 128, so
-- that the last one announces another.
abbrev pub Unfinished : List ℕ → Type 0
Unfinished [] = Unit
Unfinished (b ∷ s) = (240 ≤ b) × ((i : ℕ) → i < length s → 128 ≤ get_or s i 0)

-- only the end of the bytes gives 3, so each byte before it announced another
more_short : (s : List ℕ) (sum k place : ℕ) → more sum k s ≡ refused 3 place
    → (place ≡ k + length s) × ((i : ℕ) → i < length s → 128 ≤ get_or s i 0)
more_short [] sum k place e =
    let one : refused 3 k ≡ refused 3 place = sym (more_none sum k) ∙ e in
    let p : k ≡ place = cc in
    (omega arith, λ i h. absurd (omega arith))
more_short (b ∷ s) sum k place e =
    more_cases sum k b
    (λ n ne broke. let one : refused n (suc k) ≡ refused 3 place = sym (broke s) ∙ e in absurd (ne (cc)))
    (λ o h ends. not_both (ends s) e)
    (λ l ne goes.
    let next = more_short s (sum + worth k b) (suc k) place (sym (goes s) ∙ e) in
    (omega arith, all l next.1))
  where
    all : 128 ≤ b → ((i : ℕ) → i < length s → 128 ≤ get_or s i 0) → (i : ℕ) → i < suc (length s) → 128 ≤ get_or (b ∷ s) i 0
    all l rest zero h = l
    all l rest (suc i) h = rest i (omega arith)

-- Law: 3 is given at the end of the bytes, and only where they end inside a number.
pub short : (s : List ℕ) (place : ℕ) → number s ≡ refused 3 place → (place ≡ length s) × Unfinished s
short [] place e =
    let one : refused 3 0 ≡ refused 3 place = sym number_none ∙ e in
    let p : 0 ≡ place = cc in
    (omega arith, tt)
short (b ∷ s) place e =
    ⊎_elim (λ l. not_both (number_one b s l) e)
    (λ l. let rest = more_short s b 1 place (sym (number_more b s l) ∙ e) in (omega arith, (l, rest.1)))
    (lt_or_le b 240)

-- ---- where a number is refused

-- at the end of the bytes, or right behind the byte that breaks the number
pub more_place : (s : List ℕ) (sum k n place : ℕ) → more sum k s ≡ refused n place → place ≤ k + length s
more_place [] sum k n place e =
    let one : refused 3 k ≡ refused n place = sym (more_none sum k) ∙ e in
    let p : k ≡ place = cc in
    omega arith
more_place (b ∷ s) sum k n place e =
    more_cases sum k b
    (λ m ne broke.
    let one : refused m (suc k) ≡ refused n place = sym (broke s) ∙ e in
    let p : suc k ≡ place = cc in
    omega arith)
    (λ o h ends. not_both (ends s) e)
    (λ l ne goes. let next = more_place s (sum + worth k b) (suc k) n place (sym (goes s) ∙ e) in omega arith)

-- Law: a number is refused at a place within the bytes, their end included.
pub number_place : (s : List ℕ) (n place : ℕ) → number s ≡ refused n place → place ≤ length s
number_place [] n place e =
    let one : refused 3 0 ≡ refused n place = sym number_none ∙ e in
    let p : 0 ≡ place = cc in
    omega arith
number_place (b ∷ s) n place e =
    ⊎_elim (λ l. not_both (number_one b s l) e)
    (λ l. let next = more_place s b 1 n place (sym (number_more b s l) ∙ e) in omega arith)
    (lt_or_le b 240)

-- So it ends within the bytes, whichever answer it is.
pub number_ends : (s : List ℕ) → ends (number s) ≤ length s
number_ends s =
    answer_cases (number s)
    (λ n used e. rw e (accepted s n used e).2)
    (λ n place e. rw e (number_place s n place e))

-- ---- bytes appended

-- the byte that decides is there before and after
more_kept : (s t : List ℕ) (sum k : ℕ) (a : Answer ℕ) → more sum k s ≡ a → ((place : ℕ) → a ≡ refused 3 place → ⊥) → more sum k (s ++ t) ≡ a
more_kept [] t sum k a e no3 = absurd (no3 k (sym e ∙ more_none sum k))
more_kept (b ∷ s) t sum k a e no3 =
    more_cases sum k b
    (λ n ne broke. broke (s ++ t) ∙ sym (broke s) ∙ e)
    (λ o h ends. ends (s ++ t) ∙ sym (ends s) ∙ e)
    (λ l ne goes. goes (s ++ t) ∙ more_kept s t (sum + worth k b) (suc k) a (sym (goes s) ∙ e) no3)

-- Law: with bytes appended, every answer but 3 stays as it was: an accepted number, a 7 and a 19.
pub number_kept : (s t : List ℕ) (a : Answer ℕ) → number s ≡ a → ((place : ℕ) → a ≡ refused 3 place → ⊥) → number (s ++ t) ≡ a
number_kept [] t a e no3 = absurd (no3 0 (sym e ∙ number_none))
number_kept (b ∷ s) t a e no3 =
    ⊎_elim (λ l. number_one b (s ++ t) l ∙ sym (number_one b s l) ∙ e)
    (λ l. number_more b (s ++ t) l ∙ more_kept s t b 1 a (sym (number_more b s l) ∙ e) no3)
    (lt_or_le b 240)

pub accepted_kept : (s t : List ℕ) (v used : ℕ) → number s ≡ done v used → number (s ++ t) ≡ done v used
accepted_kept s t v used e = number_kept s t (done v used) e (λ place p. not_both refl p)

pub fitting_kept : (s t : List ℕ) (place : ℕ) → number s ≡ refused 19 place → number (s ++ t) ≡ refused 19 place
fitting_kept s t place e = number_kept s t (refused 19 place) e (λ p q. let z : ◌≡◌ {A = ℕ} 19 3 = cc in omega arith)

pub large_kept : (s t : List ℕ) (place : ℕ) → number s ≡ refused 7 place → number (s ++ t) ≡ refused 7 place
large_kept s t place e = number_kept s t (refused 7 place) e (λ p q. let z : ◌≡◌ {A = ℕ} 7 3 = cc in omega arith)

-- ---- the bytes of an accepted number

-- each is one of eight bits
abbrev pub Bytes : List ℕ → Type 0
Bytes s = (i : ℕ) → i < length s → get_or s i 0 < 256

bytes_rest : (b : ℕ) (s : List ℕ) → Bytes (b ∷ s) → (b < 256) × Bytes s
bytes_rest b s h = (h 0 (omega arith), λ i l. h (suc i) (omega arith))

-- what is read after k bytes are the groups of some steps, of which each byte but the last takes its seven bits off
more_exact : (s : List ℕ) (sum k left v used : ℕ) → Bytes s → 1 ≤ k → k + left ≡ 10 → k ≤ 9 → more sum k s ≡ done v used
    → (w : ℕ) × (take (used - k) s ≡ groups left w) × (v ≡ sum + w * 2 ^ (7 * k - 3))
more_exact [] sum k left v used small p e h is = not_both is (more_none sum k)
more_exact (b ∷ s) sum k zero v used small p e h is = absurd (omega arith)
more_exact (b ∷ s) sum k (suc left) v used small p e h is =
    more_cases sum k b
    (λ n ne broke. not_both is (broke s))
    (λ o l ends.
    let one : done (sum + worth k b) (suc k) ≡ done v used = sym (ends s) ∙ is in
    let p : sum + worth k b ≡ v = cc in
    let q : suc k ≡ used = cc in
    let n : used - k ≡ 1 = omega arith in
    (b, ap (λ (m : ℕ). take m (b ∷ s)) n ∙ sym (groups_last left b l), sym p))
    (λ l ne goes.
    let small-rest = bytes_rest b s small in
    let early : suc k ≤ 9 = ⊎_elim (λ g. omega arith) (λ g. absurd (ne (omega arith))) (lt_or_le k 9) in
    let rest = sym (goes s) ∙ is in
    let more-used = more_accepted s (sum + worth k b) (suc k) v used early rest in
    let next = more_exact s (sum + worth k b) (suc k) left v used small-rest.1 (omega arith) (omega arith) early rest in
    let w = b + 128 * next.0 in
    let n : used - k ≡ suc (used - suc k) = omega arith in
    let low : 128 + w % 128 ≡ b = omega (arith, small-rest.0) in
    let high : (w - 128) / 128 ≡ next.0 = omega (arith, small-rest.0) in
    let both = step_worth w k (omega arith) p in (
      w,
      ap (λ (m : ℕ). take m (b ∷ s)) n
          ∙ ap₂ (λ (x : ℕ) (y : List ℕ). x ∷ y) (sym low) (next.1 ∙ ap (groups left) (sym high))
          ∙ sym (groups_on left w (omega arith)),
      next.2 ∙ values w next.0 (2 ^ (7 * k - 3)) (2 ^ (7 * suc k - 3)) both low high,
    ))
  where
    values : (w u W X : ℕ) → (128 + w % 128) * W + (w - 128) / 128 * X ≡ w * W → 128 + w % 128 ≡ b → (w - 128) / 128 ≡ u → sum + b * W + u * X ≡ sum + w * W
    values w u W X both low high =
        let e : b * W + u * X ≡ w * W = ap₂ (λ (x y : ℕ). x * W + y * X) (sym low) (sym high) ∙ both in
        omega arith

-- Law: an accepted number took exactly the bytes that it is written as.
pub number_exact : (s : List ℕ) (n used : ℕ) → Bytes s → number s ≡ done n used → take used s ≡ number_bytes n
number_exact [] n used small is = not_both is number_none
number_exact (b ∷ s) n used small is =
    ⊎_elim
    (λ l.
    let one : done b 1 ≡ done n used = sym (number_one b s l) ∙ is in
    let p : b ≡ n = cc in
    let q : 1 ≡ used = cc in
    ap (λ (m : ℕ). take m (b ∷ s)) (sym q) ∙ sym (bytes_one b l) ∙ ap number_bytes p)
    (λ l.
    let small-rest = bytes_rest b s small in
    let rest = sym (number_more b s l) ∙ is in
    let more-used = more_accepted s b 1 n used (omega arith) rest in
    let next = more_exact s b 1 9 n used small-rest.1 (omega arith) (omega arith) (omega arith) rest in
    let m : used ≡ suc (used - 1) = omega arith in
    let low : 240 + n % 16 ≡ b = omega (arith, small-rest.0, next.2) in
    let high : (n - 240) / 16 ≡ next.0 = omega (arith, small-rest.0, next.2) in
    ap (λ (x : ℕ). take x (b ∷ s)) m
    ∙ ap₂ (λ (x : ℕ) (y : List ℕ). x ∷ y) (sym low) (next.1 ∙ ap (groups 9) (sym high))
    ∙ sym (bytes_more n (omega (arith, next.2))))
    (lt_or_le b 240)

-- So different bytes never give one number.
pub one_form : (s t : List ℕ) (n u v : ℕ) → Bytes s → Bytes t → number s ≡ done n u → number t ≡ done n v → take u s ≡ take v t
one_form s t n u v small other e f = number_exact s n u small e ∙ sym (number_exact t n v other f)

-- so the number reader keeps its promise, of lent bytes, where it answers as the definition does
pub decoded : (s : List ℕ) (r : Result (Read ℕ) Refusal) → Bytes s → read_said r ≡ number s → DecodeVarint s r
decoded s r small says = record { says = says; exact = go (number s) refl }
  where
    go : (a : Answer ℕ) → number s ≡ a → Exactly s a
    go (done n used) e = number_exact s n used small e
    go (refused n place) e = tt
