use mathlib.Core.Path.{◌≡◌, ap, ◌∙◌}
use mathlib.Core.List.{List}
use Prim.Native.Nat.{ℕ, ◌+◌, ◌-◌, ◌≤◌, ◌<◌}
use native.Mathlib.Omega.{arith}
use lib.ListN.{length, drop}
use Rattle.answer.specs.Answer.{written, leaves}
use Rattle.answer.proofs.Output.{Partly}
use Rattle.types.specs.Inner.{block}
use Rattle.types.proofs.Blocks.{block_next, block_last}
use Rattle.types.proofs.write.put_many.Goals as goal
use Rattle.types.proofs.write.put_many.Goals.{else-loop-at-test, then-loop-at-test+else-at-end-at-gt16}

module _ (bytes old : List ℕ) (many : 16 < length bytes) where
  -- a block before the last 16 bytes goes on
  next : (out new : List ℕ) (at : ℕ) → Partly bytes old at (drop at bytes) out → at < length bytes - 16 → new ≡ block bytes at 16 out
      → Partly bytes old (at + 16) (drop (at + 16) bytes) new
  next out new at p h e = rw e (block_next bytes at 16 (omega (arith, many, h)) old out at p (omega arith) (omega arith))

  -- and they are the last one
  last : (out now : List ℕ) (at : ℕ) → Partly bytes old at (drop at bytes) out → length bytes - 16 ≤ at → now ≡ out
      → block bytes (length bytes - 16) 16 now ≡ leaves (written bytes) old
  last out now at p h e = ap (block bytes (length bytes - 16) 16) e ∙ block_last bytes (length bytes - 16) 16 (omega (arith, many)) old out at p h (omega (arith, many))

pub loop-at-preserved : goal.loop-at-preserved
loop-at-preserved c =
    next c.args.bytes.now c.args.out.now c.requires.0 _ _ c.loop-at.at c.loop-at.invariant c.loop-at-test.true c.put_block.ensures

pub returns : goal.returns
returns c = let a = c.args in
    let p = c.loop-at.invariant in
    c.put_block-2.ensures
    ∙ elim c.loop-at-test.branch [
      | else-loop-at-test w ↦ last a.bytes.now a.out.now c.requires.0 _ _ c.loop-at.at p w.loop-at-test.false w.out-is
      | then-loop-at-test+else-at-end-at-gt16 w ↦
          last a.bytes.now a.out.now c.requires.0 _ _ (c.loop-at.at + 16) (next a.bytes.now a.out.now c.requires.0 _ _ c.loop-at.at p w.loop-at-test.true w.put_block.ensures) (omega arith) w.out-is
    ]
