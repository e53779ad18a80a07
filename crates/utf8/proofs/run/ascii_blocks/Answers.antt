use Rattle.std.proofs.Common.{◌≡◌, ◌++◌, ◌+◌, ℕ, true, List, length, take, drop, sym, ap, ◌∙◌, arith}
use lib.ListN.{length-append, length-drop}
use lib.Seq.{drop-drop, take_all, take_at, drop_at}
use Rattle.utf8.specs.Inner.{ascii, AsciiTo}
use Rattle.utf8.proofs.Ascii.{ascii_to_block}
use Rattle.utf8.proofs.run.ascii_blocks.Goals as goal

-- the next block, and what is left behind it
module _ (s block rest : List ℕ) (at n : ℕ) (is : block ++ rest ≡ drop at s) (size : length block ≡ n) where
  front : take n (drop at s) ≡ block
  front = ap (take n) (sym is) ∙ take_at block rest n size

  behind : rest ≡ drop (at + n) s
  behind = sym (drop_at block rest n size) ∙ ap (drop n) is ∙ drop-drop n at s

  on : AsciiTo s at → ascii (take n block) ≡ true → AsciiTo s (at + n)
  on known e =
      ascii_to_block s at n known (omega (arith, ap length is, length-append block rest, length-drop at s, size))
      (ap ascii (front ∙ sym (take_all n block (omega arith))) ∙ e)

pub loop-block-preserved : goal.loop-block-preserved
loop-block-preserved g c =
    let s = c.args.s.now in
    let k = c.in-Some.ensures.steps in
    let i = c.loop-block.invariant in
    let is : c.in-Some.block.now ++ _ ≡ drop c.loop-block.at s = sym k.1.0 ∙ i.left in
    let size : length c.in-Some.block.now ≡ g.row.N = k.1.1 ∙ i.size in
    record {
      known = on s _ _ c.loop-block.at g.row.N is size i.known (sym c.all_ascii.ensures ∙ c.if-not-all_ascii.false);
      left = behind s _ _ c.loop-block.at g.row.N is size;
      size = k.0 ∙ i.size;
    }
