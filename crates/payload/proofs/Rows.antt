-- Laws about pairs that stand one behind the other, and about seeking a key among them.
use mathlib.Core.Path.{◌≡◌, refl, sym, ap, ap₂, ◌∙◌}
use mathlib.Core.Bool.{Bool, true, false}
use mathlib.Core.List.{List, [], ◌∷◌, ◌++◌, map}
use Prim.Native.Nat.{ℕ, ◌+◌, ◌≤◌, ◌<◌}
use native.Mathlib.Omega.{arith}
use lib.ListN.{length, drop}
use lib.Seq.{drop-drop}
use Rattle.answer.specs.Answer.{Answer, done, refused, behind}
use Rattle.answer.specs.Table.{some}
use Rattle.answer.proofs.Cases.{not_both}
use Rattle.answer.proofs.Records.{some_none, some_here, some_later}
use Rattle.frame.specs.declared.Pair.{Pair}
use Rattle.payload.specs.Pair.{moved_pair, pair, pair_from}
use Rattle.payload.specs.Inner.{Run}
use Rattle.payload.proofs.Pairs.{moved_twice, from_lies}
use Rattle.answer.proofs.Answers.{done_same}

-- Law: a pair that stands at a place ends behind it, and within the bytes.
pub from_next : (s : List ℕ) (at : ℕ) (p : Pair) (next : ℕ) → pair_from at s ≡ done p next → (2 + at ≤ next) × (at ≤ length s) × (next ≤ length s)
from_next s at p next e = let l = from_lies s at p next e in omega arith

-- Law: pairs end where they start or behind it.
pub run_on : (s : List ℕ) (at : ℕ) (ps : List Pair) (end : ℕ) → Run s at ps end → at ≤ end
run_on s at [] end r = omega (arith, r)
run_on s at (p ∷ ps) end r = omega (arith, from_next s at p r.0 r.1, run_on s r.0 ps end r.2)

-- Law: with a pair behind them they go on behind it.
pub run_more : (s : List ℕ) (at : ℕ) (ps : List Pair) (end : ℕ) (p : Pair) (next : ℕ) → Run s at ps end → pair_from end s ≡ done p next → Run s at (ps ++ (p ∷ [])) next
run_more s at [] end p next r e = (next, ap (λ (n : ℕ). pair_from n s) r ∙ e, refl)
run_more s at (q ∷ ps) end p next r e = (r.0, r.1, run_more s r.0 ps end p next r.2 e)

-- Law: what stands behind n bytes of s, as s has it.
pub from_moved : (s : List ℕ) (n at : ℕ) → pair_from (n + at) s ≡ behind moved_pair n (pair_from at (drop n s))
from_moved s n at = ap (λ (t : List ℕ). behind moved_pair (n + at) (pair t)) (sym (drop-drop at n s)) ∙ twice (pair (drop at (drop n s)))
  where
    twice : (a : Answer Pair) → behind moved_pair (n + at) a ≡ behind moved_pair n (behind moved_pair at a)
    twice (done p used) = ap₂ (λ (q : Pair) (k : ℕ). done q k) (sym (moved_twice n at p)) (omega arith)
    twice (refused k place) = ap (refused k) (omega arith)

pub run_moved : (s : List ℕ) (n at : ℕ) (ps : List Pair) (end : ℕ) → Run (drop n s) at ps end → Run s (n + at) (map (moved_pair n) ps) (n + end)
run_moved s n at [] end r = ap (λ (k : ℕ). n + k) r
run_moved s n at (p ∷ ps) end r = (n + r.0, from_moved s n at ∙ ap (behind moved_pair n) r.1, run_moved s n r.0 ps end r.2)

-- ---- seeking one

-- Of these pairs, which end at a place, those before `at` are not so, and the rest is to be asked.
pub record Seeks (test : Pair → Bool) (s : List ℕ) (pairs : List Pair) (end at : ℕ) : Type 0 where
  pub rest : List Pair
  pub run : Run s at rest end
  pub same : some test pairs ≡ some test rest

pub seeks_none : (test : Pair → Bool) (s : List ℕ) (pairs : List Pair) (end at : ℕ) → Run s at pairs end → Seeks test s pairs end at
seeks_none test s pairs end at r = record { rest = pairs; run = r; same = refl }

module _ {test : Pair → Bool} {s : List ℕ} {pairs : List Pair} {end at : ℕ} (k : Seeks test s pairs end at) where
  -- what is left is nothing, or the pair at the place and what is left behind it
  by_rest : {G : Type 0}
      → (at ≡ end → some test pairs ≡ some test [] → G)
      → ((p : Pair) (ps : List Pair) (next : ℕ) → pair_from at s ≡ done p next → Run s next ps end → some test pairs ≡ some test (p ∷ ps) → G)
      → G
  by_rest {G} none one = go k.rest k.run k.same
    where
      go : (l : List Pair) → Run s at l end → some test pairs ≡ some test l → G
      go [] r e = none r e
      go (p ∷ ps) r e = one p ps r.0 r.1 r.2 e

  pub seeks_all : end ≤ at → some test pairs ≡ false
  seeks_all h =
      by_rest (λ r e. e ∙ some_none test)
      (λ p ps next f r e. absurd (omega (arith, from_next s at p next f, run_on s next ps end r)))

  module _ (h : at < end) where
    -- a pair stands there
    pub seeks_some : {G : Type 0} (n place : ℕ) → pair_from at s ≡ refused n place → G
    seeks_some n place f = by_rest (λ r e. absurd (omega (arith, r))) (λ p ps next g r e. not_both g f)

    module _ (q : Pair) (next : ℕ) (f : pair_from at s ≡ done q next) where
      pub seeks_here : test q ≡ true → some test pairs ≡ true
      seeks_here t =
          by_rest (λ r e. absurd (omega (arith, r)))
          (λ p ps n g r e. let o = (done_same (sym f ∙ g)).0 in e ∙ some_here test p ps (ap test (sym o) ∙ t))

      pub seeks_on : test q ≡ false → Seeks test s pairs end next
      seeks_on t =
          by_rest (λ r e. absurd (omega (arith, r)))
          (λ p ps n g r e.
          let o = done_same (sym f ∙ g) in
          record { rest = ps; run = rw (sym o.1) at r; same = e ∙ some_later test p ps (ap test (sym o.0) ∙ t) })
