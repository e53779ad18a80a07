use Rattle.std.proofs.Common.{[], ◌++◌, drop, sym, ap, ◌∙◌, arith}
use borrow.Author.Tests.{eqb-true}
use Rattle.answer.proofs.Output.{Partly, partly_count, partly_all, lent_tail_lem}
use Rattle.answer.proofs.Parts.{part_room, partly_part}
use Rattle.utf8.specs.Text.{lossy, step_size, becomes}
use Rattle.utf8.specs.Inner.{seen}
use Rattle.utf8.proofs.Lossy.{lossy_none, empty}
use Rattle.utf8.proofs.replace.write_lossy.Goals as goal
use Rattle.utf8.proofs.replace.write_lossy.Goals.{After-loop-bytes, After-stride-step}

-- what is left to write starts with what the step becomes
next : (c : After-stride-step)
    → let s = c.loop-bytes.bytes.now in
    Partly (lossy c.args.bytes.now) c.args.out.now c.loop-bytes.n
    (becomes (seen c.stride-step.result) s ++ lossy (drop (step_size (seen c.stride-step.result)) s)) c.loop-bytes.out
next c = rw c.stride-step.ensures.text at c.loop-bytes.invariant

all : (c : After-loop-bytes) → Partly (lossy c.args.bytes.now) c.args.out.now c.loop-bytes.n [] c.loop-bytes.out
all c =
    rw (ap lossy (empty c.loop-bytes.bytes.now (omega (arith, eqb-true _ _ (sym c.is_empty.ensures ∙ c.loop-bytes-test.false)))) ∙ lossy_none) at c.loop-bytes.invariant

pub put-requires : goal.put-requires
put-requires c =
    record { step_in_bounds = c.stride-step.ensures.there; step_in_bounds_2 = part_room _ _ (next ((goal.at.put-requires c).After-stride-step)) }

pub loop-bytes-preserved : goal.loop-bytes-preserved
loop-bytes-preserved c =
    rw (c.len.ensures, c.text.ensures, lent_tail_lem (step_size (seen c.stride-step.result)) c.loop-bytes.bytes.now)
    (partly_part _ _ (next ((goal.at.loop-bytes-preserved c).After-stride-step)) _ c.put.ensures)

pub returns : goal.returns
returns c =
    record { value = partly_count (all ((goal.at.returns c).After-loop-bytes)); out_after = partly_all (all ((goal.at.returns c).After-loop-bytes)) }
