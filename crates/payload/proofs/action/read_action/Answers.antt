-- `payload::action::read_action` meets its contract: the lines of the order, one after the other, and then the variable.
use mathlib.Core.Path.{◌≡◌, sym, ap, ◌∙◌}
use mathlib.Core.Bool.{true, ◌||◌}
use Prim.Native.Nat.{ℕ, ◌≤◌}
use lib.Dec.{eqb}
use lib.ListN.{length, get_or}
use borrow.Author.Tests.{ne_eqb, eqb-true, not-true, not-false}
use Rattle.answer.specs.Writes.{refusal_said}
use Rattle.payload.specs.Action.{argument_count}
use Rattle.payload.specs.Inner.{Headed}
use Rattle.payload.proofs.Actions.{action_none, action_verb, action_short, action_count, action_shorter, action_scope, action_headed}
use Rattle.payload.proofs.action.read_action.Goals as goal
use Rattle.payload.proofs.action.read_action.Goals.{Else-input-arguments, Else-scope-gt-RESPONSE, Else-unknown}

pub returns-then-have-lt1 : goal.returns-then-have-lt1
returns-then-have-lt1 c = ap refusal_said c.at.ensures ∙ sym (action_none _ c.if-have-lt1.true)

one : (e : Else-unknown) → 1 ≤ length (e.args.input.now)
one e = e.if-have-lt1.false

known : (e : Else-unknown) → eqb (get_or (e.args.input.now) 0 0) 1 || eqb (get_or (e.args.input.now) 0 0) 2 ≡ true
known e = not-false _ (sym e.unknown.ensures ∙ e.if-unknown.false)

counted : (f : Else-input-arguments) → let s = f.args.input.now in get_or s 1 0 ≡ argument_count (get_or s 0 0)
counted f = f.if-input-arguments.false ∙ f.arguments.ensures

headed : (f : Else-scope-gt-RESPONSE) → let s = f.args.input.now in Headed s (get_or s 0 0) (get_or s 2 0)
headed f =
    action_headed _ (let it : 1 ≤ length (f.args.input.now) = f.if-have-lt1.false in it) (let it : eqb (get_or (f.args.input.now) 0 0) 1 || eqb (get_or (f.args.input.now) 0 0) 2 ≡ true = not-false _ (sym f.unknown.ensures ∙ f.if-unknown.false) in it) f.if-have-lt2.false (let it : let s = f.args.input.now in get_or s 1 0 ≡ argument_count (get_or s 0 0) = f.if-input-arguments.false ∙ f.arguments.ensures in it) f.if-have-lt3.false f.if-scope-gt-RESPONSE.false

-- a known verb that is not 1 is 2
second : {n : ℕ} → eqb n 1 || eqb n 2 ≡ true → (n ≡ 1 → ⊥) → n ≡ 2
second {n} t ne = eqb-true n 2 (rw (ne_eqb n 1 ne) at t)

pub returns-then-unknown : goal.returns-then-unknown
returns-then-unknown c =
    ap refusal_said c.at-then-unknown.ensures ∙ sym (action_verb _ c.if-have-lt1.false (not-true _ (sym c.unknown.ensures ∙ c.if-unknown.true)))

pub returns-then-have-lt2 : goal.returns-then-have-lt2
returns-then-have-lt2 c =
    ap refusal_said c.at-then-have-lt2.ensures ∙ sym (action_short _ (one ((goal.at.returns-then-have-lt2 c).Else-unknown)) (known ((goal.at.returns-then-have-lt2 c).Else-unknown)) c.if-have-lt2.true)

pub returns-then-input-arguments : goal.returns-then-input-arguments
returns-then-input-arguments c =
    ap refusal_said c.at-then-input-arguments.ensures
    ∙ sym (action_count _ (one ((goal.at.returns-then-input-arguments c).Else-unknown)) (known ((goal.at.returns-then-input-arguments c).Else-unknown)) c.if-have-lt2.false (λ z. c.if-input-arguments.true (z ∙ sym c.arguments.ensures)))

pub returns-then-have-lt3 : goal.returns-then-have-lt3
returns-then-have-lt3 c =
    ap refusal_said c.at-then-have-lt3.ensures ∙ sym (action_shorter _ (one ((goal.at.returns-then-have-lt3 c).Else-unknown)) (known ((goal.at.returns-then-have-lt3 c).Else-unknown)) c.if-have-lt2.false (counted ((goal.at.returns-then-have-lt3 c).Else-input-arguments)) c.if-have-lt3.true)

pub returns-then-scope-gt-RESPONSE : goal.returns-then-scope-gt-RESPONSE
returns-then-scope-gt-RESPONSE c =
    ap refusal_said c.at-then-scope-gt-RESPONSE.ensures ∙ sym (action_scope _ (one ((goal.at.returns-then-scope-gt-RESPONSE c).Else-unknown)) (known ((goal.at.returns-then-scope-gt-RESPONSE c).Else-unknown)) c.if-have-lt2.false (counted ((goal.at.returns-then-scope-gt-RESPONSE c).Else-input-arguments)) c.if-have-lt3.false c.if-scope-gt-RESPONSE.true)

pub read_set-requires : goal.read_set-requires
read_set-requires c = rw (sym c.if-verb-eq-SET_VAR.true) (headed ((goal.at.read_set-requires c).Else-scope-gt-RESPONSE))

pub read_unset-requires : goal.read_unset-requires
read_unset-requires c =
    rw (second (known ((goal.at.read_unset-requires c).Else-unknown)) c.if-verb-eq-SET_VAR.false) at (headed ((goal.at.read_unset-requires c).Else-scope-gt-RESPONSE))
