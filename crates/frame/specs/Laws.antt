-- What a type of record has to prove of itself for `record_at`, and the proofs of the three. Members `laws` alone rest on this file; they are
-- proved, so nobody has to believe it.
use Rattle.std.specs.Prelude.{◌≡◌, List, [], ◌∷◌, ℕ, zero, suc, ◌+◌, ◌*◌, ◌^◌, ◌≤◌, ◌<◌, length, take, drop, refl}
use Rattle.std.proofs.Common.{ap, sym, ◌∙◌, arith}
use lib.ListN.{get_or}
use lib.Seq.{get_or-drop, get_or-take}
use borrow.Author.Tests.{le-leb, lt-leb}
use Rattle.answer.specs.Table.{number_at}
use Rattle.frame.specs.declared.Message.{Message}
use Rattle.frame.specs.declared.Pair.{Pair}
use Rattle.frame.specs.declared.Action.{Action}
use Rattle.frame.specs.Records.{message_width, message_at, message_numbers, pair_width, pair_in, pair_at, pair_numbers, action_width, action_at, action_numbers}

-- What `record_at` asks of a type of record: it has so many numbers, and these fit into memory; what a table has at an index is made of the
-- numbers that stand there, and is the default one where the table does not have it.
pub record RecordLaws {R : Type 0} (width : ℕ) (from_gives : List ℕ → R → Type 0) (is_default : R → Type 0) (record_at : List ℕ → ℕ → R) : Type 0 where
  pub some : 0 < width
  pub small : width * 8 < 2 ^ 63
  pub has : (table : List ℕ) (i : ℕ) (x : R) → (i + 1) * width ≤ length table → from_gives (take width (drop (i * width) table)) x → x ≡ record_at table i
  pub lacks : (table : List ℕ) (i : ℕ) (x : R) → length table < (i + 1) * width → is_default x → x ≡ record_at table i

-- ---- both of a type of which every value is made of its numbers

-- Each number is 0.
abbrev Zeros : List ℕ → Type 0
Zeros [] = Unit
Zeros (n ∷ []) = n ≡ 0
Zeros (n ∷ m ∷ l) = (n ≡ 0) × Zeros (m ∷ l)

zero_at : (l : List ℕ) → Zeros l → (k : ℕ) → get_or l k 0 ≡ 0
zero_at [] z k = refl
zero_at (n ∷ []) z zero = z
zero_at (n ∷ []) z (suc k) = refl
zero_at (n ∷ m ∷ l) z zero = z.0
zero_at (n ∷ m ∷ l) z (suc k) = zero_at (m ∷ l) z.1 k

module _
    {R : Type 0}
    (width : ℕ)
    (numbers : R → List ℕ)
    (of : (ℕ → ℕ) → R)
    (made : (x : R) (number : ℕ → ℕ) → ((k : ℕ) → k < width → get_or (numbers x) k 0 ≡ number k) → x ≡ of number)
  where
    has : (table : List ℕ) (i : ℕ) (x : R) → (i + 1) * width ≤ length table → numbers x ≡ take width (drop (i * width) table) → x ≡ of (number_at width table i)
    has table i x h e =
        made x (number_at width table i)
        (λ k m.
        ap (λ (l : List ℕ). get_or l k 0) e
        ∙ get_or-take width (drop (i * width) table) k 0 m
        ∙ get_or-drop (i * width) table k 0
        ∙ simp (le-leb ((i + 1) * width) (length table) h))

    lacks : (table : List ℕ) (i : ℕ) (x : R) → length table < (i + 1) * width → Zeros (numbers x) → x ≡ of (number_at width table i)
    lacks table i x h e = made x (number_at width table i) (λ k m. zero_at (numbers x) e k ∙ simp (lt-leb ((i + 1) * width) (length table) h))

-- ---- the three types

message_of : (ℕ → ℕ) → Message
message_of number = record { start = number 0; len = number 1; first = number 2; count = number 3 }

message_made : (x : Message) (number : ℕ → ℕ) → ((k : ℕ) → k < message_width → get_or (message_numbers x) k 0 ≡ number k) → x ≡ message_of number
unfolding message_of
message_made x number e = rw (sym (e 0 (omega arith)), sym (e 1 (omega arith)), sym (e 2 (omega arith)), sym (e 3 (omega arith))) refl

pub message_laws : RecordLaws message_width (λ numbers x. message_numbers x ≡ numbers) (λ x. Zeros (message_numbers x)) message_at
unfolding message_at message_of
message_laws =
    record {
      some = omega arith;
      small = omega arith;
      has = has message_width message_numbers message_of message_made;
      lacks = lacks message_width message_numbers message_of message_made;
    }

pair_of : (ℕ → ℕ) → Pair
pair_of number = pair_in number 0

pair_made : (x : Pair) (number : ℕ → ℕ) → ((k : ℕ) → k < pair_width → get_or (pair_numbers x) k 0 ≡ number k) → x ≡ pair_of number
unfolding pair_of
pair_made x number e =
    rw (sym (e 0 (omega arith)), sym (e 1 (omega arith)), sym (e 2 (omega arith)), sym (e 3 (omega arith)), sym (e 4 (omega arith)), sym (e 5 (omega arith))) refl

pub pair_laws : RecordLaws pair_width (λ numbers x. pair_numbers x ≡ numbers) (λ x. Zeros (pair_numbers x)) pair_at
unfolding pair_at pair_of
pair_laws =
    record {
      some = omega arith;
      small = omega arith;
      has = has pair_width pair_numbers pair_of pair_made;
      lacks = lacks pair_width pair_numbers pair_of pair_made;
    }

action_of : (ℕ → ℕ) → Action
action_of number = record { verb = number 0; scope = number 1; pair = pair_in number 2 }

action_made : (x : Action) (number : ℕ → ℕ) → ((k : ℕ) → k < action_width → get_or (action_numbers x) k 0 ≡ number k) → x ≡ action_of number
unfolding action_of
action_made x number e =
    rw (sym (e 0 (omega arith)), sym (e 1 (omega arith)), sym (e 2 (omega arith)), sym (e 3 (omega arith)), sym (e 4 (omega arith)), sym (e 5 (omega arith)), sym (e 6 (omega arith)), sym (e 7 (omega arith))) refl

pub action_laws : RecordLaws action_width (λ numbers x. action_numbers x ≡ numbers) (λ x. Zeros (action_numbers x)) action_at
unfolding action_at action_of
action_laws =
    record {
      some = omega arith;
      small = omega arith;
      has = has action_width action_numbers action_of action_made;
      lacks = lacks action_width action_numbers action_of action_made;
    }
