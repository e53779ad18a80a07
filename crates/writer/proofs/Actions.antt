-- Laws about actions: how their checks and their written forms unroll.
use mathlib.Core.Path.{◌≡◌, ap, ◌∙◌}
use mathlib.Core.Bool.{true, false}
use mathlib.Core.List.{List, ◌∷◌}
use Prim.Native.Nat.{ℕ, ◌+◌, ◌≤◌, ◌<◌}
use native.Mathlib.Omega.{arith}
use lib.Dec.{leb}
use lib.ListN.{length}
use borrow.Author.Tests.{le-leb, lt-leb, eq-eqb, ne_eqb, leb-true, leb-false}
use Rattle.varint.specs.Number.{number_bytes}
use Rattle.answer.specs.Order.{in_order}
use Rattle.answer.specs.Inner.{Passes}
use Rattle.answer.proofs.Cases.{bool_cases, true_false}
use Rattle.answer.proofs.Order.{order_fails, order_holds}
use Rattle.types.specs.Form.{string_bytes}
use Rattle.types.specs.Promise.{record_of}
use Rattle.frame.specs.declared.Action.{Action}
use Rattle.frame.specs.Records.{key_of}
use Rattle.writer.specs.Pair.{pair_bytes, pair_checks}
use Rattle.writer.specs.Action.{no_value, action_writable, action_bytes, action_checks}
use Rattle.writer.specs.Inner.{Formed}
use Rattle.types.proofs.Writing.{string_long}
use Rattle.writer.proofs.Pairs.{formed_passed}

module _ (x : Action) where
  pub scope_out : 4 < x.scope → action_writable x ≡ false
  unfolding action_writable
  scope_out h = rw (lt-leb x.scope 4 h)

  pub writable_set : x.scope ≤ 4 → x.verb ≡ 1 → action_writable x ≡ true
  unfolding action_writable
  writable_set h e = rw (le-leb x.scope 4 h, eq-eqb x.verb 1 e)

  pub writable_other : x.scope ≤ 4 → (x.verb ≡ 1 → ⊥) → (x.verb ≡ 2 → ⊥) → action_writable x ≡ false
  unfolding action_writable
  writable_other h s u = rw (le-leb x.scope 4 h, ne_eqb x.verb 1 s, ne_eqb x.verb 2 u)

  pub writable_unset : x.scope ≤ 4 → x.verb ≡ 2 → action_writable x ≡ no_value (record_of x.pair.value)
  unfolding action_writable
  writable_unset h u = rw (le-leb x.scope 4 h, ne_eqb x.verb 1 (λ s. omega arith), eq-eqb x.verb 2 u)

  pub writable_scope : action_writable x ≡ true → x.scope ≤ 4
  writable_scope e =
      bool_cases (leb x.scope 4) (λ t. leb-true x.scope 4 t) (λ t. true_false e (scope_out (leb-false x.scope 4 t)))

module _ (buffer : List ℕ) (x : Action) where
  pub action_fields : action_writable x ≡ false → in_order (action_checks buffer x) 0 ≡ 14
  action_fields e = order_fails 14 _ _ 0 e

  pub action_pair : action_writable x ≡ true → in_order (action_checks buffer x) 0 ≡ in_order (pair_checks buffer x.pair) 0
  action_pair e = order_holds 14 _ _ 0 e

  pub set_bytes : x.verb ≡ 1 → action_bytes buffer x ≡ 1 ∷ 3 ∷ x.scope ∷ pair_bytes buffer x.pair
  unfolding action_bytes
  set_bytes e = rw (eq-eqb x.verb 1 e)

  pub unset_bytes : (x.verb ≡ 1 → ⊥) → action_bytes buffer x ≡ 2 ∷ 2 ∷ x.scope ∷ string_bytes (key_of buffer x.pair)
  unfolding action_bytes
  unset_bytes ne = rw (ne_eqb x.verb 1 ne)

  -- an action that passes
  module _ (p : Passes (action_checks buffer x)) where
    pub passed_scope : x.scope ≤ 4
    passed_scope = writable_scope x p.0

    pub passed_form : Formed buffer x.pair
    passed_form = formed_passed buffer x.pair p.1

    pub unset_long : (x.verb ≡ 1 → ⊥) → length (action_bytes buffer x) ≡ 3 + (length (number_bytes x.pair.len) + x.pair.len)
    unset_long ne = ap length (unset_bytes ne) ∙ omega (arith, string_long buffer x.pair.start x.pair.len passed_form.key)

    pub set_long : x.verb ≡ 1 → length (action_bytes buffer x) ≡ 3 + length (pair_bytes buffer x.pair)
    set_long s = ap length (set_bytes s) ∙ omega arith
