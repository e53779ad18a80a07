-- The loop that checks and measures a table's records: those before i pass, and `len` is how many bytes they have as far as it matters.
use mathlib.Core.Path.{◌≡◌, sym, ap, ◌∙◌}
use mathlib.Core.List.{List, [], ◌∷◌, ◌++◌, append-nil}
use Prim.Native.Nat.{ℕ, ◌+◌, ◌≤◌, ◌<◌}
use native.Mathlib.Omega.{arith}
use lib.ListN.{length, length-append}
use Rattle.answer.specs.declared.Reason.{Reason}
use Rattle.answer.specs.declared.Refusal.{Refusal}
use Rattle.answer.specs.Answer.{Answer}
use Rattle.answer.specs.Reason.{number_of}
use Rattle.answer.specs.Writes.{refusal_said}
use Rattle.answer.specs.Table.{records, joined}
use Rattle.answer.specs.Order.{Check, in_order, each_in_order}
use Rattle.answer.specs.Inner.{Passes, Sound}
use Rattle.answer.proofs.Order.{sound_none, sound_on, lines_refuse, each_refuse}
use Rattle.answer.proofs.Same.{reason_some}
use Rattle.answer.proofs.Records.{records_none, records_snoc, joined_none, joined_on, joined_both}
use Rattle.writer.specs.Inner.{capped}
use Rattle.writer.proofs.Capped.{capped_in, capped_most, capped_left, capped_right}

pub record Checking {A : Type 0} (checks : ℕ → List Check) (bytes : A → List ℕ) (at : ℕ → A) (most len i : ℕ) : Type 0 where
  pub sound : Sound checks i
  pub measured : len ≡ capped most (length (joined bytes (records at 0 i)))

pub checking_none : {A : Type 0} (checks : ℕ → List Check) (bytes : A → List ℕ) (at : ℕ → A) (most : ℕ) → Checking checks bytes at most 0 0
checking_none checks bytes at most =
    record {
      sound = sound_none;
      measured = sym (ap (λ (l : List ℕ). capped most (length l)) (ap (joined bytes) (records_none at 0) ∙ joined_none bytes) ∙ capped_in most 0 (omega arith));
    }

module _ {A : Type 0} {checks : ℕ → List Check} {bytes : A → List ℕ} {at : ℕ → A} {most len i : ℕ} (c : Checking checks bytes at most len i) where
  pub checking_small : len ≤ most + 1
  checking_small = omega (arith, c.measured, capped_most most (length (joined bytes (records at 0 i))))

  one_more : length (joined bytes (records at 0 (i + 1))) ≡ length (joined bytes (records at 0 i)) + length (bytes (at i))
  one_more =
      ap length
      (ap (joined bytes) (records_snoc at i)
      ∙ joined_both bytes (records at 0 i) (at i ∷ [])
      ∙ ap (λ (l : List ℕ). joined bytes (records at 0 i) ++ l) (joined_on bytes (at i) [] ∙ ap (λ (l : List ℕ). bytes (at i) ++ l) (joined_none bytes) ∙ append-nil (bytes (at i))))
      ∙ length-append (joined bytes (records at 0 i)) (bytes (at i))

  -- one record more
  pub checking_on : Passes (checks i) → (n k : ℕ) → n ≡ capped most (length (bytes (at i))) → k ≡ capped most (len + n) → Checking checks bytes at most k (i + 1)
  checking_on p n k en ek =
      record {
        sound = sound_on c.sound p;
        measured =
            ek
            ∙ ap (λ (m : ℕ). capped most (len + m)) en
            ∙ capped_right most len (length (bytes (at i)))
            ∙ ap (λ (m : ℕ). capped most (m + length (bytes (at i)))) c.measured
            ∙ capped_left most (length (joined bytes (records at 0 i))) (length (bytes (at i)))
            ∙ ap (capped most) (sym one_more);
      }

  -- record i is refused
  pub checking_here : (count : ℕ) → i < count → (why : Reason) → number_of why ≡ in_order (checks i) 0 → {r : Refusal} → r ≡ record { reason = why; place = i }
      → (a : Answer (List ℕ)) → each_in_order checks 0 count a ≡ refusal_said r
  checking_here count h why is e a =
      each_refuse checks a count i (number_of why) h c.sound (lines_refuse (checks i) (number_of why) is (reason_some why)) ∙ sym (ap refusal_said e)
