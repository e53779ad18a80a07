-- Laws about the steps: taken one after the other from the first place on, they are the lines of what the tables hold; and of an accepted
-- frame they are its lines, none refused where there is room.
use mathlib.Core.Path.{◌≡◌, refl, sym, ap, ◌∙◌}
use mathlib.Core.Bool.{Bool, true, false, ◌||◌, and-false}
use mathlib.Core.Logic.{◌⊎◌, inl, inr, ⊎_elim}
use mathlib.Core.List.{List, [], ◌∷◌, ◌++◌, append_assoc}
use Prim.Native.Nat.{ℕ, zero, suc, ◌+◌, ◌-◌, ◌≤◌, ◌<◌}
use native.Mathlib.Numerals.{add-one}
use native.Mathlib.Omega.{arith}
use lib.Dec.{ltb, leb}
use lib.ListN.{take, drop}
use lib.Seq.{take-nil, drop-nil}
use borrow.Author.Tests.{lt-ltb, le-ltb, lt-leb, ltb-false, leb-true, leb-false}
use Rattle.answer.specs.Answer.{Answer, done, refused, written}
use Rattle.answer.specs.Table.{records}
use Rattle.answer.proofs.Cases.{lt_or_le, bool_cases, true_false}
use Rattle.answer.proofs.Records.{records_on, records_end, records_start}
use Rattle.frame.specs.declared.Pair.{Pair}
use Rattle.frame.specs.declared.Message.{Message}
use Rattle.frame.specs.Records.{message_width, pair_width, message_at, pair_at}
use Rattle.listing.specs.declared.Place.{Place}
use Rattle.listing.specs.Lines.{message_line, pair_line}
use Rattle.listing.specs.Check.{pair_answer, message_answer}
use Rattle.listing.specs.Order.{pair_next, in_table, Coming, line, none, coming}
use Rattle.listing.proofs.Frames.{pair_lines, item_lines}
use Rattle.listing.proofs.Coming.{coming_pair, coming_message, coming_none}

-- ---- steps one after the other

-- the bytes of an answer that is none where it is refused
abbrev pub bytes_of : Answer (List ℕ) → List ℕ
bytes_of (done bytes n) = bytes
bytes_of (refused number place) = []

abbrev one_step : Coming → (Place → List ℕ) → List ℕ
one_step (line a p) go = bytes_of a ++ go p
one_step none go = []

-- So many steps from a place on: what each writes, one behind the other.
unfoldable pub steps : List ℕ → List ℕ → ℕ → List ℕ → ℕ → ℕ → Place → List ℕ
steps f messages count pairs total zero p = []
steps f messages count pairs total (suc n) p = one_step (coming f messages count pairs total p) (steps f messages count pairs total n)

-- ---- lines that do not depend on where they are split

pairs_split : (f : List ℕ) (n k : ℕ) (ps : List Pair) → pair_lines f k (take n ps) ++ pair_lines f (k + n) (drop n ps) ≡ pair_lines f k ps
unfolding pair_lines
pairs_split f zero k ps = let here : k + 0 ≡ k = omega arith in ap (λ (j : ℕ). pair_lines f j ps) here
pairs_split f (suc n) k [] = refl
pairs_split f (suc n) k (p ∷ ps) =
    let here : k + suc n ≡ suc k + n = omega arith in
    append_assoc (pair_line k f p) (pair_lines f (suc k) (take n ps)) (pair_lines f (k + suc n) (drop n ps))
    ∙ ap (λ (l : List ℕ). pair_line k f p ++ l)
    (ap (λ (j : ℕ). pair_lines f (suc k) (take n ps) ++ pair_lines f j (drop n ps)) here ∙ pairs_split f n (suc k) ps)

-- where no pair is left its index does not matter
items_empty : (f : List ℕ) (i j k : ℕ) (ms : List Message) → item_lines f i j ms [] ≡ item_lines f i k ms []
unfolding item_lines pair_lines
items_empty f i j k [] = refl
items_empty f i j k (m ∷ ms) =
    simp (take-nil, drop-nil) (ap (λ (l : List ℕ). message_line i f m ++ l) (items_empty f (suc i) (j + m.count) (k + m.count) ms))

-- ---- what is left at a place

-- The lines that are left: the arguments that are to come, and then the messages that are left with theirs.
abbrev left : List ℕ → ℕ → ℕ → ℕ → List Message → List Pair → List ℕ
left f i k n ms ps = pair_lines f k (take n ps) ++ item_lines f i (k + n) ms (drop n ps)

module _ (f : List ℕ) (i k : ℕ) where
  left_none : (n : ℕ) → left f i k n [] [] ≡ []
  unfolding item_lines pair_lines
  left_none zero = refl
  left_none (suc n) = refl

  left_argument : (n : ℕ) (ms : List Message) (p : Pair) (ps : List Pair)
      → left f i k (suc n) ms (p ∷ ps) ≡ pair_line k f p ++ left f i (k + 1) n ms ps
  unfolding pair_lines
  left_argument n ms p ps =
      let here : k + suc n ≡ suc k + n = omega arith in
      append_assoc (pair_line k f p) (pair_lines f (suc k) (take n ps)) (item_lines f i (k + suc n) ms (drop n ps))
      ∙ ap (λ (j : ℕ). pair_line k f p ++ (pair_lines f (suc k) (take n ps) ++ item_lines f i j ms (drop n ps))) here
      ∙ ap (λ (j : ℕ). pair_line k f p ++ left f i j n ms ps) (sym (add-one k))

  left_pair : (p : Pair) (ps : List Pair) → left f i k 0 [] (p ∷ ps) ≡ pair_line k f p ++ left f i (k + 1) 0 [] ps
  unfolding pair_lines item_lines
  left_pair p ps =
      let here : k + 0 ≡ k = omega arith in
      let next : suc k ≡ k + 1 + 0 = omega arith in
      ap (λ (j : ℕ). pair_lines f j (p ∷ ps)) here ∙ ap (λ (j : ℕ). pair_line k f p ++ pair_lines f j ps) next

  left_message : (m : Message) (ms : List Message) (ps : List Pair)
      → left f i k 0 (m ∷ ms) ps ≡ message_line i f m ++ left f (i + 1) k m.count ms ps
  unfolding pair_lines item_lines
  left_message m ms ps =
      let here : k + 0 ≡ k = omega arith in
      ap (λ (j : ℕ). message_line i f m ++ (pair_lines f j (take m.count ps) ++ item_lines f (suc i) (j + m.count) ms (drop m.count ps))) here
      ∙ ap (λ (j : ℕ). message_line i f m ++ left f j k m.count ms ps) (sym (add-one i))

  -- where no pair is left, none is to come
  left_empty : (n : ℕ) (ms : List Message) → left f i k n ms [] ≡ left f i k 0 ms []
  unfolding pair_lines
  left_empty zero ms = refl
  left_empty (suc n) ms = items_empty f i (k + suc n) (k + 0) ms

-- ---- the steps

module _ (f messages : List ℕ) (count : ℕ) (pairs : List ℕ) (total : ℕ)
    (named : (i : ℕ) → i < count → in_table message_width message_at message_answer f messages i ≡ written (message_line i f (message_at messages i)))
    (paired : (k : ℕ) → k < total → in_table pair_width pair_at pair_answer f pairs k ≡ written (pair_line k f (pair_at pairs k))) where
  abbrev ms : ℕ → List Message
  ms i = records (message_at messages) i (count - i)

  abbrev ps : ℕ → List Pair
  ps k = records (pair_at pairs) k (total - k)

  abbrev at : ℕ → ℕ → ℕ → Place
  at i k l = record { messages = i; pairs = k; left = l }

  step_none : (n i k l : ℕ) → coming f messages count pairs total (at i k l) ≡ none → steps f messages count pairs total (suc n) (at i k l) ≡ []
  unfolding steps
  step_none n i k l e = rw e

  step_line : (n i k l : ℕ) (bytes : List ℕ) (p : Place) → coming f messages count pairs total (at i k l) ≡ line (written bytes) p
      → steps f messages count pairs total (suc n) (at i k l) ≡ bytes ++ steps f messages count pairs total n p
  unfolding steps
  step_line n i k l bytes p e = rw e

  -- a pair is next, and l of the last message are to come
  by_pair : (n i k l : ℕ) → k < total → ltb 0 l || leb count i ≡ true
      → steps f messages count pairs total n (at i (k + 1) (l - 1)) ≡ left f i (k + 1) (l - 1) (ms i) (ps (k + 1))
      → steps f messages count pairs total (suc n) (at i k l) ≡ left f i k l (ms i) (ps k)
  by_pair n i k l h t on =
      let next : pair_next count total (at i k l) ≡ true = rw (lt-ltb k total h) t in
      step_line n i k l (pair_line k f (pair_at pairs k)) (at i (k + 1) (l - 1))
      (coming_pair f messages count pairs total (at i k l) next ∙ ap (λ (a : Answer (List ℕ)). line a (at i (k + 1) (l - 1))) (paired k h))
      ∙ ap (λ (s : List ℕ). pair_line k f (pair_at pairs k) ++ s) on
      ∙ sym (rw (records_on (pair_at pairs) total k h) (here l t))
    where
      here : (l : ℕ) → ltb 0 l || leb count i ≡ true
          → left f i k l (ms i) (pair_at pairs k ∷ ps (k + 1)) ≡ pair_line k f (pair_at pairs k) ++ left f i (k + 1) (l - 1) (ms i) (ps (k + 1))
      here zero u = rw (records_end (message_at messages) count i (leb-true count i u)) (left_pair f i k (pair_at pairs k) (ps (k + 1)))
      here (suc j) u =
          let less : suc j - 1 ≡ j = omega arith in
          left_argument f i k j (ms i) (pair_at pairs k) (ps (k + 1)) ∙ ap (λ (j : ℕ). pair_line k f (pair_at pairs k) ++ left f i (k + 1) j (ms i) (ps (k + 1))) (sym less)

  -- a message is
  by_message : (n i k l : ℕ) → i < count → ((total ≤ k) ⊎ (l ≡ 0))
      → steps f messages count pairs total n (at (i + 1) k (message_at messages i).count) ≡ left f (i + 1) k (message_at messages i).count (ms (i + 1)) (ps k)
      → steps f messages count pairs total (suc n) (at i k l) ≡ left f i k l (ms i) (ps k)
  by_message n i k l h free on =
      step_line n i k l (message_line i f (message_at messages i)) (at (i + 1) k (message_at messages i).count)
      (coming_message f messages count pairs total (at i k l) no_pair_lem h ∙ ap (λ (a : Answer (List ℕ)). line a (at (i + 1) k (message_at messages i).count)) (named i h))
      ∙ ap (λ (s : List ℕ). message_line i f (message_at messages i) ++ s) on
      ∙ sym (rw (records_on (message_at messages) count i h) here)
    where
      no_pair_lem : pair_next count total (at i k l) ≡ false
      no_pair_lem =
          ⊎_elim (λ x. rw (le-ltb k total x))
          (λ x. rw (le-ltb 0 l (omega arith), lt-leb count i h) (and-false (ltb k total)))
          free

      here : left f i k l (message_at messages i ∷ ms (i + 1)) (ps k)
          ≡ message_line i f (message_at messages i) ++ left f (i + 1) k (message_at messages i).count (ms (i + 1)) (ps k)
      here =
          ⊎_elim
          (λ x. rw (records_end (pair_at pairs) total k x) (left_empty f i k l (message_at messages i ∷ ms (i + 1)) ∙ left_message f i k (message_at messages i) (ms (i + 1)) []))
          (λ x. rw x (left_message f i k (message_at messages i) (ms (i + 1)) (ps k)))
          free

  -- Law: as many steps as there are messages and pairs left give their lines.
  steps_left : (n i k l : ℕ) → (count - i) + (total - k) ≤ n → steps f messages count pairs total n (at i k l) ≡ left f i k l (ms i) (ps k)
  unfolding steps
  steps_left zero i k l h =
      sym (rw (records_end (message_at messages) count i (omega arith), records_end (pair_at pairs) total k (omega arith)) (left_none f i k l))
  steps_left (suc n) i k l h =
      ⊎_elim
      (λ x.
      bool_cases (ltb 0 l || leb count i)
      (λ t. by_pair n i k l x t (steps_left n i (k + 1) (l - 1) (omega arith)))
      (λ t.
      let o = or_false (ltb 0 l) (leb count i) t in
      let z : l ≡ 0 = omega (arith, ltb-false 0 l o.0) in
      let m : i < count = leb-false count i o.1 in
      by_message n i k l m (inr z) (steps_left n (i + 1) k (message_at messages i).count (omega arith))))
      (λ x.
      ⊎_elim
      (λ m. by_message n i k l m (inl x) (steps_left n (i + 1) k (message_at messages i).count (omega arith)))
      (λ m.
      step_none n i k l (coming_none f messages count pairs total (at i k l) (rw (le-ltb k total x)) m)
      ∙ sym (rw (records_end (message_at messages) count i m, records_end (pair_at pairs) total k x) (left_none f i k l)))
      (lt_or_le i count))
      (lt_or_le k total)
    where
      or_false : (a b : Bool) → a || b ≡ false → (a ≡ false) × (b ≡ false)
      or_false true b e = true_false refl e
      or_false false b e = (refl, e)

  -- Law: from the first place on they are the lines of what the tables hold.
  pub steps_lines : steps f messages count pairs total (count + total) (at 0 0 0)
      ≡ item_lines f 0 0 (records (message_at messages) 0 count) (records (pair_at pairs) 0 total)
  unfolding pair_lines
  steps_lines = steps_left (count + total) 0 0 0 (omega arith) ∙ rw (records_start (message_at messages) count, records_start (pair_at pairs) total)
