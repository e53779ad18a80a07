-- How the call comes to its answer: a text that has no room ends it, and else both stand in their buffers and are compared.
use mathlib.Core.Path.{◌≡◌, sym, ap, ap₂, ◌∙◌}
use mathlib.Core.Bool.{Bool, true, false, and-false}
use mathlib.Core.List.{List, []}
use mathlib.Core.Logic.{◌⊎◌, ⊎_elim}
use Prim.Native.Nat.{ℕ, ◌+◌, ◌≤◌, ◌<◌}
use native.Mathlib.Omega.{arith}
use lib.ListN.{length, take, drop, get_or, drop_of_length-le, get_or-append}
use lib.Seq.{take_at}
use borrow.Author.Tests.{le-leb, lt-leb}
use Rattle.std.specs.Str.{bytes_eq}
use Rattle.std.proofs.lemmas.Bool.Decides.{same_from_decides}
use Rattle.std.proofs.lemmas.Slice.Eq.{bytes_eq-Decides}
use Rattle.std.specs.Prelude.{Result, Ok, Err}
use Rattle.answer.specs.declared.Reason.TheVariants as reason
use Rattle.answer.specs.declared.Refusal.{Refusal}
use Rattle.answer.specs.Answer.{Answer, done, refused, written, leaves}
use Rattle.answer.proofs.Cases.{lt_or_le}
use Rattle.answer.proofs.Output.{writes_done, leaves_length}
use Rattle.answer.proofs.Parts.{room_refused, room_leaves}
use Rattle.utf8.specs.Text.{lossy, same_bytes}
use Rattle.utf8.proofs.Same.{same_refl, same_iff, same_next, same_stop, same_length}
use Rattle.plain.specs.Promise.{fitting, SameTextPlain}
use Rattle.answer.specs.Writes.{refusal_said, Writes}

-- ---- one text

-- It stands at the front of its buffer, and is n bytes long.
pub record Stands (s old new : List ℕ) (n : ℕ) : Type 0 where
  pub fits : length (lossy s) ≤ length old
  pub count : n ≡ length (lossy s)
  pub holds : new ≡ leaves (written (lossy s)) old

module _ (s : List ℕ) {old new : List ℕ} {r : Result ℕ Refusal} (p : Writes (written (lossy s)) r old new) where
  -- Where n bytes were written it does: without room the buffer would be what it was, and shorter than they are.
  pub stands : {n : ℕ} → r ≡ Ok n → Stands s old new n
  stands {n} is =
      let d = writes_done (lossy s) p is in
      let room : length (lossy s) ≤ length old =
      ⊎_elim (λ h. let e : new ≡ old = simp (lt-leb (length (lossy s)) (length old) h) at p.holds in absurd (omega (arith, d.0, d.1, ap length e))) (λ h. h) (lt_or_le (length old) (length (lossy s))) in
      record { fits = room; count = d.0; holds = room_leaves (lossy s) p room }

  -- where the writer refuses, there is no room, and the buffer is as it was
  module _ (x : Refusal) (is : r ≡ Err x) where
    pub short : length old < length (lossy s)
    short = ⊎_elim (λ h. h) (λ h. room_refused (lossy s) p h x is) (lt_or_le (length old) (length (lossy s)))

    pub kept : new ≡ old
    kept = simp (lt-leb (length (lossy s)) (length old) short) at p.holds

module _ {s old new : List ℕ} {n : ℕ} (p : Stands s old new n) where
  pub text_inside : n ≤ length new
  text_inside = omega (arith, p.fits, p.count, ap length p.holds, leaves_length (lossy s) old p.fits)

  -- its bytes are those of the text, all of them and each
  text_whole : take n new ≡ lossy s
  text_whole = ap (take n) p.holds ∙ take_at (lossy s) (drop (length (lossy s)) old) n (sym p.count)

  text_byte : (i : ℕ) → i < n → get_or new i 0 ≡ get_or (lossy s) i 0
  text_byte i h = ap (λ (l : List ℕ). get_or l i 0) p.holds ∙ get_or-append (lossy s) (drop (length (lossy s)) old) 0 i (omega (arith, p.count))

-- ---- the answer

module _ (a b a_old b_old : List ℕ) where
  -- one of the texts has no room
  abbrev Short : Type 0
  Short = (length a_old < length (lossy a)) ⊎ (length b_old < length (lossy b))

  not_fitting : {A : Type 0} (x : Answer A) → Short → fitting a b a_old b_old x ≡ refused 11 0
  not_fitting x =
      ⊎_elim
      (λ h. simp (lt-leb (length (lossy a)) (length a_old) h))
      (λ h. simp (lt-leb (length (lossy b)) (length b_old) h, and-false))

  pub no_room : {x : Refusal} → x ≡ record { reason = reason.NoRoom; place = 0 } → Short → SameTextPlain a b (Err x) a_old a_old b_old b_old
  no_room e h =
      record {
        says = ap refusal_said e ∙ sym (not_fitting _ h);
        texts =
            record {
              first = sym (ap (λ (x : Answer (List ℕ)). leaves x a_old) (not_fitting _ h));
              second = sym (ap (λ (x : Answer (List ℕ)). leaves x b_old) (not_fitting _ h));
            };
      }

  -- both have room
  pub both_fit : {A : Type 0} (x : Answer A) → length (lossy a) ≤ length a_old → length (lossy b) ≤ length b_old → fitting a b a_old b_old x ≡ x
  both_fit x h g = simp (le-leb (length (lossy a)) (length a_old) h, le-leb (length (lossy b)) (length b_old) g)

-- the first i bytes of both texts are the same: so the rests decide
abbrev pub SameTo : List ℕ → List ℕ → ℕ → Type 0
SameTo a b i = same_bytes (lossy a) (lossy b) ≡ same_bytes (drop i (lossy a)) (drop i (lossy b))

module _ {a a_old a_new b b_old b_new : List ℕ} {m n : ℕ} (p : Stands a a_old a_new m) (q : Stands b b_old b_new n) where
  answered : {r : Bool} → r ≡ same_bytes (lossy a) (lossy b) → SameTextPlain a b (Ok r) a_old a_new b_old b_new
  answered e =
      record {
        says = ap (λ (x : Bool). done x 0) e ∙ sym (both_fit a b a_old b_old _ p.fits q.fits);
        texts =
            record {
              first = p.holds ∙ sym (ap (λ (x : Answer (List ℕ)). leaves x a_old) (both_fit a b a_old b_old _ p.fits q.fits));
              second = q.holds ∙ sym (ap (λ (x : Answer (List ℕ)). leaves x b_old) (both_fit a b a_old b_old _ p.fits q.fits));
            };
      }

  pub both_compared : {r : Bool} → r ≡ bytes_eq (take m a_new) (take n b_new) → SameTextPlain a b (Ok r) a_old a_new b_old b_new
  both_compared e =
      answered
      (e
      ∙ ap₂ bytes_eq (text_whole p) (text_whole q)
      ∙ same_from_decides _ (same_bytes (lossy a) (lossy b)) (bytes_eq-Decides (lossy a) (lossy b)) (same_iff (lossy a) (lossy b)))

  pub lengths_apart : (m ≡ n → ⊥) → SameTextPlain a b (Ok false) a_old a_new b_old b_new
  lengths_apart ne = answered (sym (same_length (lossy a) (lossy b) (λ e. ne (p.count ∙ e ∙ sym q.count))))

  module _ (alike : m ≡ n) (i : ℕ) (so_far : SameTo a b i) where
    module _ (h : i < m) where
      pub byte_apart : (get_or a_new i 0 ≡ get_or b_new i 0 → ⊥) → SameTextPlain a b (Ok false) a_old a_new b_old b_new
      byte_apart ne =
          answered
          (sym
          (so_far
          ∙ same_stop (lossy a) (lossy b) i (omega (arith, p.count)) (omega (arith, q.count)) (λ e. ne (text_byte p i h ∙ e ∙ sym (text_byte q i (omega arith))))))

      pub byte_alike : get_or a_new i 0 ≡ get_or b_new i 0 → SameTo a b (i + 1)
      byte_alike e =
          so_far
          ∙ same_next (lossy a) (lossy b) i (omega (arith, p.count)) (omega (arith, q.count)) (sym (text_byte p i h) ∙ e ∙ text_byte q i (omega arith))

    pub all_alike : m ≤ i → SameTextPlain a b (Ok true) a_old a_new b_old b_new
    all_alike h =
        answered
        (sym
        (so_far
        ∙ rw (drop_of_length-le (lossy a) {i = i} (omega (arith, p.count)), drop_of_length-le (lossy b) {i = i} (omega (arith, q.count))) (same_refl [])))
