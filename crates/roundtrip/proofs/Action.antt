-- Laws about an action that stands at a place, and about actions in a row: the bytes from there on are what they are written as, and the rest; exactly where
-- their values, if they have one, are plain. And what a writer refuses of them.
use mathlib.Core.Path.{◌≡◌, refl, sym, ap, ap₂, ◌∙◌}
use mathlib.Core.Bool.{true, cond}
use mathlib.Core.List.{List, ◌∷◌, ◌++◌}
use Prim.Native.Nat.{ℕ, ◌+◌}
use native.Mathlib.Omega.{arith}
use lib.ListN.{drop}
use borrow.Author.Tests.{eq-eqb}
use Rattle.answer.specs.Answer.{done}
use Rattle.answer.specs.Order.{in_order}
use Rattle.answer.specs.Table.{joined}
use Rattle.answer.specs.Inner.{InRow}
use Rattle.answer.proofs.Each.{Each}
use Rattle.varint.proofs.Reading.{Bytes}
use Rattle.frame.specs.declared.Action.{Action}
use Rattle.payload.specs.Action.{argument_count, action_from}
use Rattle.answer.proofs.Row.{Found, row_found}
use Rattle.payload.proofs.Standing.{Stands, stands, by_verb}
use Rattle.listing.proofs.Accepted.{action_acts}
use Rattle.writer.specs.Action.{action_writable, action_bytes, action_checks}
use Rattle.writer.proofs.Actions.{writable_set, writable_unset, action_pair, set_bytes, unset_bytes}
use Rattle.roundtrip.proofs.Plain.{plain_pair, plain_action, well_pair, well_action}
use Rattle.payload.proofs.Exact.{row_each}
use Rattle.roundtrip.proofs.Rows.{row_form, row_only}
use Rattle.roundtrip.proofs.Pair.{pair_at_form, pair_at_only, string_at_form, pair_refuses}

module _ (f : List ℕ) (at : ℕ) (x : Action) (next : ℕ) (small : Bytes f) (e : action_from at f ≡ done x next) where
  z : Stands f at x next
  z = stands f at x next e

  -- a set's value is plain where the action is
  plain_set : x.verb ≡ 1 → plain_action f x ≡ plain_pair f x.pair
  plain_set one = rw (eq-eqb x.verb 1 one)

  -- Law: from the place of a plain action on stand the bytes that it is written as, and then what comes next.
  pub action_at_form : plain_action f x ≡ true → drop at f ≡ action_bytes f x ++ drop next f
  action_at_form h =
      by_verb x z.verbs
      (λ one.
      z.front
      ∙ ap₂ (λ (i j : ℕ). i ∷ j ∷ x.scope ∷ drop (at + 3) f) one (ap argument_count one)
      ∙ ap (λ (l : List ℕ). 1 ∷ 3 ∷ x.scope ∷ l) (pair_at_form f (at + 3) x.pair next small (z.set one) (sym (plain_set one) ∙ h))
      ∙ ap (λ (l : List ℕ). l ++ drop next f) (sym (set_bytes f x one)))
      (λ two.
      z.front
      ∙ ap₂ (λ (i j : ℕ). i ∷ j ∷ x.scope ∷ drop (at + 3) f) two (ap argument_count two)
      ∙ ap (λ (l : List ℕ). 2 ∷ 2 ∷ x.scope ∷ l) (string_at_form f (at + 3) x.pair.start x.pair.len next small (z.unset two).0)
      ∙ ap (λ (l : List ℕ). l ++ drop next f) (sym (unset_bytes f x (λ one. omega arith))))

  -- Law: and only of a plain one.
  pub action_at_only : (t : List ℕ) → action_bytes f x ++ t ≡ drop at f → plain_action f x ≡ true
  action_at_only t is =
      by_verb x z.verbs
      (λ one.
      let same = ap (λ (l : List ℕ). l ++ t) (sym (set_bytes f x one)) ∙ is ∙ z.front in
      plain_set one ∙ pair_at_only f (at + 3) x.pair next small (z.set one) t (ap (drop 3) same))
      (λ two. rw two)

  action_fits : action_writable x ≡ true
  action_fits =
      by_verb x z.verbs
      (λ one. writable_set x z.scope one)
      (λ two. writable_unset x z.scope two ∙ rw (sym (z.unset two).1) refl)

  -- Law: of an action that was read a writer refuses with 15 a text that is not UTF-8, and nothing else.
  pub action_refuses : in_order (action_checks f x) 0 ≡ cond (well_pair f x.pair) 0 15
  action_refuses = action_pair f x action_fits ∙ pair_refuses f x.pair (action_acts f at x next e).whole

-- ---- actions in a row

abbrev pub PlainOf : List ℕ → Action → Type 0
PlainOf f x = plain_action f x ≡ true

-- what a writer refuses of an action
abbrev pub RefusesText : List ℕ → Action → Type 0
RefusesText f x = in_order (action_checks f x) 0 ≡ cond (well_action f x) 0 15

module _ (f : List ℕ) (small : Bytes f) (at : ℕ) (xs : List Action) (end : ℕ) (r : InRow (λ n. action_from n f) at xs end) where
  form : (n : ℕ) (x : Action) (next : ℕ) → Found (λ i. action_from i f) n x next → PlainOf f x → drop n f ≡ action_bytes f x ++ drop next f
  form n x next e = action_at_form f n x next small e

  -- Law: plain actions took exactly the bytes that they are written as, and only plain ones did.
  pub actions_form : Each (PlainOf f) xs → drop at f ≡ joined (action_bytes f) xs ++ drop end f
  actions_form = row_form {Here = Found (λ n. action_from n f)} (λ n. n) f (action_bytes f) (PlainOf f) form at xs end (row_found (λ n. action_from n f) at xs end r)

  pub actions_only : (t : List ℕ) → joined (action_bytes f) xs ++ t ≡ drop at f → Each (PlainOf f) xs
  actions_only t is =
      (row_only {Here = Found (λ n. action_from n f)} (λ n. n) f (action_bytes f) (PlainOf f) form (λ n x next e. action_at_only f n x next small e) at xs end
      (row_found (λ n. action_from n f) at xs end r) t is).0

  -- Law: of each a writer refuses with 15 a text that is not UTF-8, and nothing else.
  pub actions_refuse : Each (RefusesText f) xs
  actions_refuse =
      row_each {Here = Found (λ n. action_from n f)} (RefusesText f) (λ n x next e. action_refuses f n x next small e) at xs end
      (row_found (λ n. action_from n f) at xs end r)
