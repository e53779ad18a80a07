-- Laws about messages with their arguments that stand in a row: their bytes are what they are written as, exactly where all values are plain; and their runs of
-- pairs start and end where a writer asks for it.
use mathlib.Core.Path.{◌≡◌, refl, sym, ap, ap₂, ◌∙◌}
use mathlib.Core.List.{List, [], ◌∷◌, ◌++◌, append_assoc}
use Prim.Native.Nat.{ℕ, zero, suc, ◌+◌, ◌≤◌, ◌<◌}
use native.Mathlib.Omega.{arith}
use lib.ListN.{length, take, drop, length-append}
use lib.Seq.{take_at, drop_at}
use Rattle.answer.specs.Table.{records, joined}
use Rattle.answer.proofs.Records.{records_both, records_length}
use Rattle.answer.proofs.Each.{Each, each_both, each_parts}
use Rattle.varint.proofs.Reading.{Bytes}
use Rattle.frame.specs.declared.Pair.{Pair}
use Rattle.frame.specs.declared.Message.{Message}
use Rattle.frame.specs.Records.{pair_at, message_at}
use Rattle.payload.proofs.Steps.{message_says, string_next}
use Rattle.answer.proofs.Row.{Row}
use Rattle.payload.proofs.Accepted.{Group, messages_of, pairs_of}
use Rattle.writer.specs.Pair.{pair_bytes}
use Rattle.writer.specs.Message.{name_bytes, message_bytes, run_start}
use Rattle.writer.proofs.Messages.{message_bytes_lem}
use Rattle.roundtrip.proofs.Rows.{cancel, row_form, row_only}
use Rattle.roundtrip.proofs.Pair.{Plain, run_form, run_only, name_at_form}

-- two lists that are the same in two ways, with fronts of one length
halves : {A : Type 0} (xs ys zs ws : List A) (n : ℕ) → length xs ≡ n → length zs ≡ n → xs ++ ys ≡ zs ++ ws → (xs ≡ zs) × (ys ≡ ws)
halves xs ys zs ws n l k e = (sym (take_at xs ys n l) ∙ ap (take n) e ∙ take_at zs ws n k, sym (drop_at xs ys n l) ∙ ap (drop n) e ∙ drop_at zs ws n k)

-- a message's name, its count and its arguments; and that all of these are plain
abbrev pub group_bytes : List ℕ → Message × List Pair → List ℕ
group_bytes f g = name_bytes f g.0 ++ joined (pair_bytes f) g.1

abbrev pub PlainGroup : List ℕ → Message × List Pair → Type 0
PlainGroup f g = Each (Plain f) g.1

-- what holds of all pairs of groups holds of each group's, and the other way round
module _ (Q : Pair → Type 0) where
  pub groups_parts : (gs : List (Message × List Pair)) → Each Q (pairs_of gs) → Each (λ g. Each Q g.1) gs
  groups_parts [] e = tt
  groups_parts (g ∷ gs) e = let o = each_parts Q g.1 (pairs_of gs) e in (o.0, groups_parts gs o.1)

  pub groups_all : (gs : List (Message × List Pair)) → Each (λ g. Each Q g.1) gs → Each Q (pairs_of gs)
  groups_all [] e = tt
  groups_all (g ∷ gs) e = each_both Q g.1 (pairs_of gs) e.0 (groups_all gs e.1)

module _ (f : List ℕ) (small : Bytes f) where
  -- ---- their bytes

  group_form : (p : ℕ × ℕ) (g : Message × List Pair) (q : ℕ × ℕ) → Group f p g q → PlainGroup f g → drop p.0 f ≡ group_bytes f g ++ drop q.0 f
  group_form p g q x h =
      name_at_form f p.1 p.0 g.0 x.place small x.message
      ∙ ap (λ (l : List ℕ). name_bytes f g.0 ++ l) (run_form f small x.place g.1 q.0 x.run h)
      ∙ sym (append_assoc (name_bytes f g.0) (joined (pair_bytes f) g.1) (drop q.0 f))

  group_only : (p : ℕ × ℕ) (g : Message × List Pair) (q : ℕ × ℕ) → Group f p g q → (t : List ℕ) → group_bytes f g ++ t ≡ drop p.0 f → PlainGroup f g
  group_only p g q x t is =
      let own = joined (pair_bytes f) g.1 in
      (run_only f small x.place g.1 q.0 x.run t
      (cancel (name_bytes f g.0) (own ++ t) (drop x.place f)
      (sym (append_assoc (name_bytes f g.0) own t) ∙ is ∙ name_at_form f p.1 p.0 g.0 x.place small x.message))).0

  module _ (p : ℕ × ℕ) (gs : List (Message × List Pair)) (q : ℕ × ℕ) (r : Row (Group f) p gs q) where
    -- Law: plain ones took exactly the bytes that they are written as, and only plain ones did.
    pub groups_form : Each (PlainGroup f) gs → drop p.0 f ≡ joined (group_bytes f) gs ++ drop q.0 f
    groups_form = row_form (λ (x : ℕ × ℕ). x.0) f (group_bytes f) (PlainGroup f) group_form p gs q r

    pub groups_only : (t : List ℕ) → joined (group_bytes f) gs ++ t ≡ drop p.0 f → Each (PlainGroup f) gs
    groups_only t is = (row_only (λ (x : ℕ × ℕ). x.0) f (group_bytes f) (PlainGroup f) group_form group_only p gs q r t is).0

  -- ---- with their arguments in a table

  -- a message's own pairs are its run in the table, and the others follow
  run_own : (pairs : List ℕ) (p : ℕ × ℕ) (g : Message × List Pair) (q : ℕ × ℕ) (rest : List Pair) → Group f p g q → records (pair_at pairs) p.1 (length (g.1 ++ rest)) ≡ g.1 ++ rest
      → (message_bytes f pairs g.0 ≡ group_bytes f g) × (records (pair_at pairs) q.1 (length rest) ≡ rest)
  run_own pairs p g q rest x is =
      let n = length g.1 in
      let m = g.0 in
      let both =
      halves (records (pair_at pairs) p.1 n) (records (pair_at pairs) (p.1 + n) (length rest)) g.1 rest n (records_length (pair_at pairs) n p.1) refl
      (sym (records_both (pair_at pairs) n p.1 (length rest)) ∙ ap (records (pair_at pairs) p.1) (sym (length-append g.1 rest)) ∙ is) in (
        message_bytes_lem f pairs m
            ∙ ap₂ (λ (i k : ℕ). name_bytes f m ++ joined (pair_bytes f) (records (pair_at pairs) i k)) (message_says p.1 p.0 f m x.place x.message).is_first (sym x.many)
            ∙ ap (λ (l : List Pair). name_bytes f m ++ joined (pair_bytes f) l) both.0,
        ap (λ (i : ℕ). records (pair_at pairs) i (length rest)) (sym x.pairs) ∙ both.1,
      )

  -- Law: with a table that holds their pairs, what a writer writes of the messages is their bytes.
  pub groups_bytes : (pairs : List ℕ) (p : ℕ × ℕ) (gs : List (Message × List Pair)) (q : ℕ × ℕ) → Row (Group f) p gs q
      → records (pair_at pairs) p.1 (length (pairs_of gs)) ≡ pairs_of gs → joined (message_bytes f pairs) (messages_of gs) ≡ joined (group_bytes f) gs
  unfolding joined
  groups_bytes pairs p [] q r is = refl
  groups_bytes pairs p (g ∷ gs) q r is =
      let o = run_own pairs p g r.0 (pairs_of gs) r.1 is in ap₂ ◌++◌ o.0 (groups_bytes pairs r.0 gs q r.2 o.1)

-- ---- runs, as a writer asks for them

-- What a writer asks of message i of so many, which have all pairs: where its run starts, how many arguments it has, where its run ends, if it is the last, and that
-- its name lies in the bytes.
pub record Runs (f messages : List ℕ) (count total i : ℕ) : Type 0 where
  pub starts : (message_at messages i).first ≡ run_start messages i
  pub few : (message_at messages i).count ≤ 255
  pub ends : i + 1 ≡ count → total ≡ (message_at messages i).first + (message_at messages i).count
  pub inside : (message_at messages i).start + (message_at messages i).len ≤ length f

-- the last of a row ends where the row does
last_ends : (f : List ℕ) (p : ℕ × ℕ) (gs : List (Message × List Pair)) (q : ℕ × ℕ) → Row (Group f) p gs q → length gs ≡ 0 → p.1 ≡ q.1
last_ends f p [] q r h = ap (λ (x : ℕ × ℕ). x.1) r
last_ends f p (g ∷ gs) q r h = absurd (omega arith)

-- Law: with a table that holds the messages, each is so.
pub runs_stand : (f messages : List ℕ) → Bytes f → (count total i : ℕ) (p : ℕ × ℕ) (gs : List (Message × List Pair)) (q : ℕ × ℕ) → Row (Group f) p gs q
    → records (message_at messages) i (length gs) ≡ messages_of gs → p.1 ≡ run_start messages i → count ≡ i + length gs → total ≡ q.1
    → (k : ℕ) → k < length gs → Runs f messages count total (i + k)
unfolding records
runs_stand f messages small count total i p [] q r is start many all k h = absurd (omega arith)
runs_stand f messages small count total i p (g ∷ gs) q r is start many all zero h =
    let here : i + 0 ≡ i = omega arith in
    let m : message_at messages i ≡ g.0 = cc in
    let x = r.1 in
    let n = message_says p.1 p.0 f g.0 x.place x.message in
    let name = string_next f p.0 g.0.start g.0.len n.place n.name in
    let first : (message_at messages i).first ≡ p.1 = ap (λ (y : Message). y.first) m ∙ n.is_first in
    rw here
    (record {
      starts = first ∙ start;
      few = rw m (omega (arith, small n.place n.byte, n.count));
      ends = λ last. rw m (omega (arith, last_ends f r.0 gs q r.2 (omega arith), x.pairs, x.many, n.is_first));
      inside = rw m (omega (arith, name));
    })
runs_stand f messages small count total i p (g ∷ gs) q r is start many all (suc k) h =
    let on : i + suc k ≡ suc i + k = omega arith in
    let m : message_at messages i ≡ g.0 = cc in
    let rest : records (message_at messages) (suc i) (length gs) ≡ messages_of gs = cc in
    let x = r.1 in
    let next : r.0.1 ≡ run_start messages (suc i) = rw m (omega (arith, x.pairs, x.many, (message_says p.1 p.0 f g.0 x.place x.message).is_first)) in
    rw on (runs_stand f messages small count total (suc i) r.0 gs q r.2 rest next (omega arith) all k (omega arith))

-- a list without a message has no pair
pub no_stray : (gs : List (Message × List Pair)) → length gs ≡ 0 → length (pairs_of gs) ≡ 0
no_stray [] h = refl
no_stray (g ∷ gs) h = absurd (omega arith)
