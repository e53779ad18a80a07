-- `payload::look::pair_tested` meets its contract: 9, 10, or the pair, as the tests have them in that order.
use Rattle.answer.specs.Writes.{refusal_said}
use borrow.Author.Tests.{ne_eqb}
use mathlib.Core.Path.{◌≡◌, sym, ap, ◌∙◌}
use mathlib.Core.Bool.{Bool, false, ◌&&◌}
use mathlib.Core.List.{List}
use Prim.Native.Nat.{ℕ}
use Prim.Native.Nat.{◌+◌, ◌-◌}
use lib.Dec.{eqb}
use lib.ListN.{take, drop}
use Rattle.answer.specs.Table.{some}
use Rattle.utf8.specs.Text.{same_text}
use Rattle.types.proofs.Writing.{part_lent}
use Rattle.frame.specs.declared.Pair.{Pair}
use Rattle.frame.specs.Records.{key_of}
use Rattle.payload.specs.Payload.{Contents, met}
use Rattle.payload.specs.Inner.{Run}
use Rattle.payload.proofs.Tests.{pair_met, pair_full, pair_taken}
use Rattle.payload.proofs.look.pair_tested.Goals as goal
use Rattle.payload.proofs.look.pair_tested.Goals.{Joined-x-eq0, then-x-eq0+else-key_met, else-x-eq0}

-- whether the key was met, as it was asked
asked : (s : List ℕ) (q : Pair) (d : Contents) {r : Bool}
    → r ≡ some (λ (p : Pair). same_text (key_of s p) (take (q.start + q.len - q.start) (drop q.start s))) d.pairs → r ≡ met s d.pairs q
asked s q d e = e ∙ ap (λ (key : List ℕ). some (λ (p : Pair). same_text (key_of s p) key) d.pairs) (part_lent s q.start q.len)

-- the key is new, where it is to be
new : (j : Joined-x-eq0) (d : Contents)
    → (j.args.x.left ≡ 0 → Run j.args.input.now j.args.start d.pairs j.args.x.at) → (eqb j.args.x.left 0 && met j.args.input.now d.pairs j.args.pair) ≡ false
new j d r = elim j.if-x-eq0.branch [
  | then-x-eq0+else-key_met w ↦
      simp w.if-x-eq0.true (sym (asked j.args.input.now j.args.pair d (w.key_met.ensures d.pairs (r w.if-x-eq0.true))) ∙ w.if-key_met.false)
  | else-x-eq0 w ↦ simp (ne_eqb _ _ w.if-x-eq0.false)
]

pub returns-then-key_met : goal.returns-then-key_met
returns-then-key_met c d r =
    ap refusal_said c.at.ensures ∙ sym (pair_met _ _ _ d _ _ c.if-x-eq0.true (sym (asked c.args.input.now c.args.pair d (c.key_met.ensures d.pairs (r c.if-x-eq0.true))) ∙ c.if-key_met.true))

pub returns-then-rooms-x : goal.returns-then-rooms-x
returns-then-rooms-x c d r = ap refusal_said c.at-then-rooms-x.ensures ∙ sym (pair_full _ _ _ d _ _ (new ((goal.at.returns-then-rooms-x c).Joined-x-eq0) d r) c.if-rooms-x.true)

pub returns : goal.returns
returns c d r = rw c.after.ensures (sym (pair_taken _ _ _ d _ _ (new ((goal.at.returns c).Joined-x-eq0) d r) c.if-rooms-x.false))
