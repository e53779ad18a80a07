use Rattle.std.proofs.Common.{◌≡◌, true, false, suc, ◌+◌, ◌-◌, ◌≤◌, ◌<◌, ℕ, List, [], ◌∷◌, drop, arith, sym, ap, ◌∙◌}
use lib.Seq.{drop-drop}
use borrow.Author.Tests.{eq-eqb, ne_eqb}
use Rattle.utf8.specs.Text.{Range, ◌to◌, follow, starts_in, matching, char, mark, taken}
use Rattle.utf8.proofs.Stepping.{starts_in_end, starts_in_at, matching_none, matching_stop, matching_on, follow_none, follow_on}
use Rattle.utf8.specs.Inner.{as_range}
use Rattle.utf8.proofs.rows.step_on.Goals as goal
use Rattle.utf8.proofs.rows.step_on.Goals.{Joined-then-s-at, then-s-at-via-then-s-at, then-s-at-via-else-s-at+then-not-contains}

-- n places are filled: at, and then as many as the bytes from there on fill, the next in the range p
module _ (s : List ℕ) (n bytes at : ℕ) (p : Range) (all : n ≡ at + matching (follow (bytes - at) p) (drop at s)) where
  module _ (h : at < bytes) where
    more : follow (bytes - at) p ≡ p ∷ follow (bytes - (at + 1)) (0x80 to 0xBF)
    more = ap (λ (k : ℕ). follow k p) (omega arith) ∙ follow_on (bytes - (at + 1)) p

    stop : starts_in p (drop at s) ≡ false → taken (suc (bytes - 1)) n ≡ mark at
    stop e =
        let k : n ≡ at = all ∙ rw more (ap (λ (k : ℕ). at + k) (matching_stop _ _ (drop at s) e) ∙ omega arith) in
        rw k (simp (ne_eqb at (suc (bytes - 1)) (λ q. omega arith)))

    on : starts_in p (drop at s) ≡ true → n ≡ at + 1 + matching (follow (bytes - (at + 1)) (0x80 to 0xBF)) (drop (at + 1) s)
    on e =
        all
        ∙ rw more (ap (λ (k : ℕ). at + k) (matching_on _ _ (drop at s) e ∙ ap (λ (t : List ℕ). suc (matching (follow (bytes - (at + 1)) (0x80 to 0xBF)) t)) (drop-drop 1 at s)) ∙ omega arith)

  end : bytes ≤ at → 1 ≤ at → at ≤ suc (bytes - 1) → taken (suc (bytes - 1)) n ≡ char at
  end h some most =
      let none : follow (bytes - at) p ≡ [] = ap (λ (k : ℕ). follow k p) (omega arith) ∙ follow_none _ in
      let k : n ≡ at = all ∙ rw none (ap (λ (k : ℕ). at + k) (matching_none (drop at s)) ∙ omega arith) in
      rw k (simp (eq-eqb at (suc (bytes - 1)) (omega arith)))

outside : (c : Joined-then-s-at) → starts_in (as_range c.loop-at.allowed) (drop c.loop-at.at c.args.s.now) ≡ false
outside c =
    let s = c.args.s.now in
    elim c.then-s-at.branch [
      | then-s-at-via-then-s-at w ↦ starts_in_end _ s c.loop-at.at w.if-s-at.true
      | then-s-at-via-else-s-at+then-not-contains w ↦
          starts_in_at _ s c.loop-at.at w.if-s-at.false ∙ sym w.contains.ensures ∙ w.if-not-contains.true
    ]

pub returns-then-s-at : goal.returns-then-s-at
returns-then-s-at c =
    sym (stop c.args.s.now _ c.args.bytes c.loop-at.at _ c.loop-at.invariant.filled c.loop-at-test.true (outside ((goal.at.returns-then-s-at c).Joined-then-s-at)))

pub loop-at-preserved : goal.loop-at-preserved
loop-at-preserved c =
    let s = c.args.s.now in
    record {
      filled =
          on s _ c.args.bytes c.loop-at.at _ c.loop-at.invariant.filled c.loop-at-test.true
          (starts_in_at _ s c.loop-at.at c.if-s-at.false ∙ sym c.contains.ensures ∙ c.if-not-contains.false);
      there = omega arith;
      most = omega arith;
    }

pub returns : goal.returns
returns c =
    sym
    (end c.args.s.now _ c.args.bytes c.loop-at.at _ c.loop-at.invariant.filled (omega arith) (omega arith) c.loop-at.invariant.most
    ∙ ap char (omega (arith, c.max.ensures, c.loop-at.invariant.most)))
