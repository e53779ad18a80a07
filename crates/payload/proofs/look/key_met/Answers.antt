use mathlib.Core.Path.{◌≡◌, sym, ap, ◌∙◌}
use mathlib.Core.List.{List}
use Prim.Native.Nat.{ℕ, ◌+◌, ◌≤◌}
use native.Mathlib.Omega.{arith}
use lib.ListN.{length}
use Rattle.answer.specs.Answer.{done}
use Rattle.utf8.specs.Text.{same_text}
use Rattle.types.proofs.Writing.{part_lent}
use Rattle.payload.specs.Pair.{pair_from}
use Rattle.answer.specs.Writes.{read_said}
use Rattle.payload.proofs.Pairs.{Lies, from_lies}
use Rattle.payload.proofs.Rows.{seeks_none, seeks_all, seeks_some, seeks_here, seeks_on}
use Rattle.payload.proofs.look.key_met.Invariants.{has_key}
use Rattle.payload.proofs.look.key_met.Goals as goal
use Rattle.payload.proofs.look.key_met.Goals.{After-same_text, In-Ok}

pub loop-at-init : goal.loop-at-init
loop-at-init c pairs r = seeks_none _ _ pairs _ _ r

pub returns-in_default : goal.returns-in_default
returns-in_default c pairs r =
    seeks_some (c.loop-at.invariant pairs r) c.loop-at-test.true _ _ (sym c.pair_at.ensures ∙ ap read_said c.in_default.is)

found : (k : In-Ok) → pair_from k.loop-at.at (k.args.input.now) ≡ done (k.in-Ok.field-0.value) k.in-Ok.field-0.used
found k = sym k.pair_at.ensures ∙ ap read_said k.in-Ok.is

lies : (k : In-Ok) → Lies (length (k.args.input.now)) k.loop-at.at (k.in-Ok.field-0.value) k.in-Ok.field-0.used
lies k = from_lies (k.args.input.now) _ _ _ (found k)

inside : (k : In-Ok) → k.in-Ok.field-0.value.start + k.in-Ok.field-0.value.len ≤ length (k.args.input.now)
inside k = omega (arith, (lies k).key, (lies k).most)

pub overflow_add-to : goal.overflow_add-to
overflow_add-to c = omega (arith, inside ((goal.at.overflow_add-to c).In-Ok), c.well_formed)

-- what was compared
compared : (c : After-same_text)
    → c.same_text.result ≡ has_key (c.args.input.now) c.args.key.now (c.in-Ok.field-0.value)
compared c =
    c.same_text.ensures
    ∙ ap (λ (l : List ℕ). same_text l c.args.key.now) (part_lent (c.args.input.now) c.in-Ok.field-0.value.start c.in-Ok.field-0.value.len)

pub returns-then-same_text : goal.returns-then-same_text
returns-then-same_text c pairs r =
    sym (seeks_here (c.loop-at.invariant pairs r) c.loop-at-test.true _ _ (found ((goal.at.returns-then-same_text c).In-Ok)) (sym (compared ((goal.at.returns-then-same_text c).After-same_text)) ∙ c.if-same_text.true))

pub loop-at-smaller : goal.loop-at-smaller
loop-at-smaller c =
    omega (arith, (lies ((goal.at.loop-at-smaller c).In-Ok)).some, c.loop-at-test.true)

pub loop-at-preserved : goal.loop-at-preserved
loop-at-preserved c pairs r =
    seeks_on (c.loop-at.invariant pairs r) c.loop-at-test.true _ _ (found ((goal.at.loop-at-preserved c).In-Ok)) (sym (compared ((goal.at.loop-at-preserved c).After-same_text)) ∙ c.if-same_text.false)

pub returns : goal.returns
returns c pairs r = sym (seeks_all (c.loop-at.invariant pairs r) c.loop-at-test.false)

pub slice_bounds-same_text-end : goal.slice_bounds-same_text-end
slice_bounds-same_text-end c = inside ((goal.at.slice_bounds-same_text-end c).In-Ok)
