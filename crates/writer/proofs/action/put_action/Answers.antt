-- `writer::action::put_action` meets its contract: three bytes, and a pair or a name in the tail behind them.
use Rattle.std.proofs.Common.{◌≡◌, ◌≤◌, [], ◌∷◌, ◌++◌, List, ℕ, refl, length, arith}
use Rattle.answer.proofs.Parts.{both_room, both_count, both_leaves}
use Rattle.types.specs.Form.{string_bytes}
use Rattle.frame.specs.declared.Action.{Action}
use Rattle.frame.specs.Records.{key_of}
use Rattle.writer.specs.Pair.{pair_bytes}
use Rattle.writer.specs.Action.{action_bytes}
use Rattle.writer.proofs.Actions.{passed_scope, set_bytes, unset_bytes}
use Rattle.writer.proofs.action.put_action.Goals as goal

-- there is room for both parts
set_room : (buffer : List ℕ) (x : Action) (old : List ℕ) → x.verb ≡ 1 → length (action_bytes buffer x) ≤ length old
    → length ((1 ∷ 3 ∷ x.scope ∷ []) ++ pair_bytes buffer x.pair) ≤ length old
set_room buffer x old s room = rw (set_bytes buffer x s) at room

unset_room : (buffer : List ℕ) (x : Action) (old : List ℕ) → (x.verb ≡ 1 → ⊥) → length (action_bytes buffer x) ≤ length old
    → length ((2 ∷ 2 ∷ x.scope ∷ []) ++ string_bytes (key_of buffer x.pair)) ≤ length old
unset_room buffer x old u room = rw (unset_bytes buffer x u) at room

pub overflow_cast-action : goal.overflow_cast-action
overflow_cast-action c = omega (arith, passed_scope c.args.buffer.now c.args.action c.requires.passes)

pub put_three-requires : goal.put_three-requires
put_three-requires c =
    let a = c.args in omega (arith, set_room a.buffer.now a.action a.out.now c.if-action-eq-SET_VAR.true c.requires.action_in_bounds)

pub put_pair-requires-clause-pair_in_bounds : goal.put_pair-requires-clause-pair_in_bounds
put_pair-requires-clause-pair_in_bounds c =
    let a = c.args in
    both_room (1 ∷ 3 ∷ a.action.scope ∷ []) (pair_bytes a.buffer.now a.action.pair) a.out.now _ 3 refl c.put_three.ensures
    (set_room a.buffer.now a.action a.out.now c.if-action-eq-SET_VAR.true c.requires.action_in_bounds)

pub returns-then-action-eq-SET_VAR-clause-value : goal.returns-then-action-eq-SET_VAR-clause-value
returns-then-action-eq-SET_VAR-clause-value c =
    let a = c.args in
    rw (set_bytes a.buffer.now a.action c.if-action-eq-SET_VAR.true)
    (both_count (1 ∷ 3 ∷ a.action.scope ∷ []) (pair_bytes a.buffer.now a.action.pair) a.out.now _ 3 refl c.put_three.ensures
    (set_room a.buffer.now a.action a.out.now c.if-action-eq-SET_VAR.true c.requires.action_in_bounds) _ c.put_pair.ensures.value)

pub returns-then-action-eq-SET_VAR-clause-out_after : goal.returns-then-action-eq-SET_VAR-clause-out_after
returns-then-action-eq-SET_VAR-clause-out_after c =
    let a = c.args in
    rw (set_bytes a.buffer.now a.action c.if-action-eq-SET_VAR.true)
    (both_leaves (1 ∷ 3 ∷ a.action.scope ∷ []) (pair_bytes a.buffer.now a.action.pair) a.out.now _ 3 refl c.put_three.ensures
    (set_room a.buffer.now a.action a.out.now c.if-action-eq-SET_VAR.true c.requires.action_in_bounds) _ c.put_pair.ensures.out_after)

pub overflow_cast-action-2 : goal.overflow_cast-action-2
overflow_cast-action-2 c = omega (arith, passed_scope c.args.buffer.now c.args.action c.requires.passes)

pub put_three-requires-2 : goal.put_three-requires-2
put_three-requires-2 c =
    let a = c.args in omega (arith, unset_room a.buffer.now a.action a.out.now c.if-action-eq-SET_VAR.false c.requires.action_in_bounds)

pub put_text-requires-clause-room : goal.put_text-requires-clause-room
put_text-requires-clause-room c =
    let a = c.args in
    both_room (2 ∷ 2 ∷ a.action.scope ∷ []) (string_bytes (key_of a.buffer.now a.action.pair)) a.out.now _ 3 refl c.put_three-2.ensures
    (unset_room a.buffer.now a.action a.out.now c.if-action-eq-SET_VAR.false c.requires.action_in_bounds)

pub returns-clause-value : goal.returns-clause-value
returns-clause-value c =
    let a = c.args in
    rw (unset_bytes a.buffer.now a.action c.if-action-eq-SET_VAR.false)
    (both_count (2 ∷ 2 ∷ a.action.scope ∷ []) (string_bytes (key_of a.buffer.now a.action.pair)) a.out.now _ 3 refl c.put_three-2.ensures
    (unset_room a.buffer.now a.action a.out.now c.if-action-eq-SET_VAR.false c.requires.action_in_bounds) _ c.put_text.ensures.value)

pub returns-clause-out_after : goal.returns-clause-out_after
returns-clause-out_after c =
    let a = c.args in
    rw (unset_bytes a.buffer.now a.action c.if-action-eq-SET_VAR.false)
    (both_leaves (2 ∷ 2 ∷ a.action.scope ∷ []) (string_bytes (key_of a.buffer.now a.action.pair)) a.out.now _ 3 refl c.put_three-2.ensures
    (unset_room a.buffer.now a.action a.out.now c.if-action-eq-SET_VAR.false c.requires.action_in_bounds) _ c.put_text.ensures.out_after)
