-- Laws about the next line: no second result meets its promise; which line comes; and that it fits.
use mathlib.Core.Path.{◌≡◌, sym, ap, ◌∙◌}
use mathlib.Core.Bool.{true, false}
use mathlib.Core.Logic.{⊎_elim}
use mathlib.Core.List.{List}
use Prim.Native.Nat.{ℕ, ◌+◌, ◌-◌, ◌≤◌, ◌<◌, zero-le}
use native.Mathlib.Omega.{arith}
use lib.Dec.{ltb}
use lib.ListN.{length}
use borrow.Author.Tests.{le-leb, lt-leb, lt-ltb, le-ltb, ltb-true}
use Rattle.std.specs.Prelude.{Result, Ok, Err, Option, Some, None}
use Rattle.answer.specs.declared.Refusal.{Refusal}
use Rattle.answer.specs.Answer.{Answer, done, refused, tells, within}
use Rattle.answer.specs.Writes.{said, counted, Writes}
use Rattle.answer.proofs.Cases.{lt_or_le, bool_cases, both_true}
use Rattle.answer.proofs.Same.{writes_unique, one_only}
use Rattle.frame.specs.Records.{message_width, pair_width, message_at, pair_at}
use Rattle.listing.specs.declared.Place.{Place}
use Rattle.listing.specs.declared.Line.{Line}
use Rattle.listing.specs.Check.{pair_answer, message_answer}
use Rattle.listing.specs.Order.{pair_next, behind_pair, behind_message, in_table, Coming, line, none, coming, step_of, Comes}

-- ---- a step

pub comes_unique : (c : Coming) (r q : Result (Option Line) Refusal) (old new other : List ℕ) → Comes c r old new → Comes c q old other → (r ≡ q) × (new ≡ other)
comes_unique (line a p) r q old new other x y = let o = writes_unique x.2 y.2 in (x.1 ∙ ap (λ (b : Result ℕ Refusal). step_of b p) o.0 ∙ sym y.1, o.1)
comes_unique none r q old new other x y = (one_only x.0 y.0, one_only x.1 y.1)

-- ---- which comes

module _ (f messages : List ℕ) (count : ℕ) (pairs : List ℕ) (total : ℕ) (p : Place) where
  pub coming_pair : pair_next count total p ≡ true → coming f messages count pairs total p ≡ line (in_table pair_width pair_at pair_answer f pairs p.pairs) (behind_pair p)
  unfolding coming
  coming_pair e = rw e

  module _ (no_pair_lem : pair_next count total p ≡ false) where
    pub coming_message : p.messages < count
        → coming f messages count pairs total p ≡ line (in_table message_width message_at message_answer f messages p.messages) (behind_message p (message_at messages p.messages).count)
    unfolding coming
    coming_message h = rw (no_pair_lem, lt-ltb p.messages count h)

    pub coming_none : count ≤ p.messages → coming f messages count pairs total p ≡ none
    unfolding coming
    coming_none h = rw (no_pair_lem, le-ltb p.messages count h)

-- ---- what a caller learns

-- a writer's count fits what was lent to it
pub writes_fit : {a : Answer (List ℕ)} {r : Result ℕ Refusal} {old new : List ℕ} → Writes a r old new → counted r ≤ length old
writes_fit {a} {r} {old} p = told_fits a (length old) r p.says
  where
    told_fits : (a : Answer (List ℕ)) (room : ℕ) (r : Result ℕ Refusal) → said r ≡ tells (within room a) → counted r ≤ room
    told_fits (done bytes n) room (Ok m) e =
        ⊎_elim
        (λ h. let q : done tt m ≡ refused 11 0 = simp (lt-leb n room h) at e in let z : ◌≡◌ {A = ℕ} 0 1 = cc in absurd (omega arith))
        (λ h. let q : done tt m ≡ done tt n = simp (le-leb n room h) at e in let same : m ≡ n = cc in omega arith)
        (lt_or_le room n)
    told_fits (refused number place) room (Ok m) e = let z : ◌≡◌ {A = ℕ} 0 1 = cc in absurd (omega arith)
    told_fits (done bytes n) room (Err r) e = zero-le
    told_fits (refused number place) room (Err r) e = zero-le

module _ {r : Result (Option Line) Refusal} (old new : List ℕ) (l : Line) (is : r ≡ Ok (Some l)) where
  -- a line that came fits, and leads to its place
  line_came : (a : Answer (List ℕ)) (p : Place) → Comes (line a p) r old new → (l.len ≤ length old) × (p ≡ l.place)
  line_came a p (Ok m, e, x) =
      let o : step_of (Ok m) p ≡ Ok (Some l) = sym e ∙ is in
      let same : ◌≡◌ {A = Line} (record { len = m; place = p }) l = cc in
      (omega (arith, writes_fit x, ap (λ (y : Line). y.len) same), ap (λ (y : Line). y.place) same)
  line_came a p (Err y, e, x) = let o : step_of (Err y) p ≡ Ok (Some l) = sym e ∙ is in absurd (cc o)

  -- Law: so each line that comes fits, and with each there are fewer left.
  pub line_less : (f messages : List ℕ) (count : ℕ) (pairs : List ℕ) (total : ℕ) (p : Place) → Comes (coming f messages count pairs total p) r old new
      → (l.len ≤ length old) × ((count - l.place.messages) + (total - l.place.pairs) < (count - p.messages) + (total - p.pairs))
  line_less f messages count pairs total p e =
      bool_cases (pair_next count total p)
      (λ t.
      let g = line_came _ _ (rw (coming_pair f messages count pairs total p t) at e) in
      let h = ltb-true p.pairs total (both_true (ltb p.pairs total) _ t).0 in
      (g.0, rw (sym g.1) (omega (arith, h))))
      (λ t.
      ⊎_elim
      (λ h.
      let g = line_came _ _ (rw (coming_message f messages count pairs total p t h) at e) in
      (g.0, rw (sym g.1) (omega (arith, h))))
      (λ h.
      let g = rw (coming_none f messages count pairs total p t h) at e in
      let o : ◌≡◌ {A = Result (Option Line) Refusal} (Ok None) (Ok (Some l)) = sym g.0 ∙ is in
      absurd (cc o))
      (lt_or_le p.messages count))
