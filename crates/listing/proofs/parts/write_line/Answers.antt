use mathlib.Core.Path.{◌≡◌, ap, ◌∙◌}
use mathlib.Core.List.{List, [], ◌++◌}
use Prim.Native.Nat.{ℕ, suc, ◌+◌, ◌≤◌, ◌<◌}
use native.Mathlib.Numerals.{add-one}
use native.Mathlib.Omega.{arith}
use lib.ListN.{length, drop, get_or, length-append, drop_of_length-le}
use lib.Seq.{drop-cons}
use Rattle.answer.specs.Table.{joined}
use Rattle.answer.proofs.Records.{joined_none, joined_on}
use Rattle.answer.proofs.Output.{partly_none, writes_none, writes_all}
use Rattle.listing.specs.declared.parts.Part.{Part}
use Rattle.listing.specs.declared.parts.Part.TheVariants as part
use Rattle.listing.specs.Inner.{text_of}
use Rattle.listing.proofs.Text.{Next, next_start, next_room, next_on, all_put}
use Rattle.listing.proofs.parts.write_line.Goals as goal
use Rattle.listing.proofs.parts.write_line.Goals.{After-loop-part, In-loop-part-2}

-- what is left begins with the next part
text_on : (parts : List Part) (i : ℕ) (d : Part) → i < length parts → joined text_of (drop i parts) ≡ text_of (get_or parts i d) ++ joined text_of (drop (i + 1) parts)
text_on parts i d h = rw (add-one i, drop-cons parts i d h) (joined_on text_of (get_or parts i d) (drop (suc i) parts))

text_end : (parts : List Part) (i : ℕ) → length parts ≤ i → joined text_of (drop i parts) ≡ []
text_end parts i h = rw (drop_of_length-le parts h) (joined_none text_of)

-- there is room
fits : (c : After-loop-part) → length (joined text_of c.args.parts.now) ≤ length c.args.out.now
fits c = omega (arith, ap length (text_end c.args.parts.now c.loop-part.part-index c.loop-part-test.false))

-- the next part is so long
long : (parts : List Part) (i n : ℕ) (d : Part) → n ≡ length (text_of (get_or parts i d)) → i < length parts
    → length (joined text_of (drop i parts)) ≡ n + length (joined text_of (drop (i + 1) parts))
long parts i n d e h =
    omega (arith, ap length (text_on parts i d h) ∙ length-append (text_of (get_or parts i d)) (joined text_of (drop (i + 1) parts)))

next : (c : In-loop-part-2) (d : Part)
    → let a = c.args in
    let l = c.loop-part-2 in
    Next (joined text_of a.parts.now) a.out.now l.at (text_of (get_or a.parts.now l.part-index d)) (joined text_of (drop (l.part-index + 1) a.parts.now)) l.out
next c d = record { left = rw (text_on c.args.parts.now c.loop-part-2.part-index d c.loop-part-2-test.true) at c.loop-part-2.invariant }

pub returns-then-room-len : goal.returns-then-room-len
returns-then-room-len c =
    writes_none (joined text_of c.args.parts.now) c.args.out.now c.at.ensures (omega (arith, long c.args.parts.now c.loop-part.part-index c.len-len.result _ c.len-len.ensures c.loop-part-test.true))

pub loop-part-preserved : goal.loop-part-preserved
loop-part-preserved c = omega (arith, long c.args.parts.now c.loop-part.part-index c.len-len.result _ c.len-len.ensures c.loop-part-test.true)

pub loop-part-2-init : goal.loop-part-2-init
loop-part-2-init c = partly_none _ _ (fits ((goal.at.loop-part-2-init c).After-loop-part))

pub slice_bounds-put-count : goal.slice_bounds-put-count
slice_bounds-put-count c = next_start (next ((goal.at.slice_bounds-put-count c).In-loop-part-2) (part.Decimal 0))

pub slice_bounds-put-start : goal.slice_bounds-put-start
slice_bounds-put-start c = next_start (next ((goal.at.slice_bounds-put-start c).In-loop-part-2) (part.Decimal 0))

pub put-at-requires : goal.put-at-requires
put-at-requires c = next_room (next ((goal.at.put-at-requires c).In-loop-part-2) _)

pub loop-part-2-preserved : goal.loop-part-2-preserved
loop-part-2-preserved c = next_on (next ((goal.at.loop-part-2-preserved c).In-loop-part-2) _) c.put-at.ensures

pub returns : goal.returns
returns c =
    let p = all_put (rw (text_end c.args.parts.now c.loop-part-2.part-index c.loop-part-2-test.false) at c.loop-part-2.invariant) in
    writes_all (joined text_of c.args.parts.now) c.args.out.now _ _ (fits ((goal.at.returns c).After-loop-part)) p.counts p.holds
