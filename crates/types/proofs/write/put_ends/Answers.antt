-- `types::write::put_ends` meets its contract: two blocks, of which the second starts no further than the first ends, are the copy.
use mathlib.Core.Path.{ap, ◌∙◌}
use Prim.Native.Nat.{◌+◌, ◌-◌}
use native.Mathlib.Omega.{arith}
use lib.ListN.{length}
use Rattle.answer.proofs.Output.{partly_none}
use Rattle.types.specs.Inner.{block}
use Rattle.types.proofs.Blocks.{block_next, block_last}
use Rattle.types.proofs.write.put_ends.Goals as goal

pub returns : goal.returns
returns c = let s = c.args.bytes.now in
    let n = c.args.n in
    let first = block_next s 0 n (omega (arith, c.requires)) _ _ 0 (partly_none _ _ c.requires.3) (omega arith) (omega arith) in
    c.put_block-2.ensures
    ∙ ap (block s (length s - n) n) c.put_block.ensures
    ∙ block_last s (length s - n) n (omega (arith, c.requires)) _ _ (0 + n) first (omega (arith, c.requires)) (omega (arith, c.requires))
