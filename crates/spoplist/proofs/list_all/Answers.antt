use native.Mathlib.Omega.{arith}
use lib.ListN.{length-drop}
use Rattle.answer.proofs.Output.{lent_tail_lem}
use Rattle.spoplist.specs.Inner.{side_in}
use Rattle.spoplist.proofs.Stopping.{stopping_none, stopping_on, stopping_stop, stopping_over}
use Rattle.spoplist.proofs.list_all.Goals as goal

pub loop-at-init : goal.loop-at-init
loop-at-init g c = record { in_range = omega arith; passed = omega arith; stopping = stopping_none (side_in c.args.side) c.args.input.now }

-- a frame that was taken ends within the input
pub loop-at-preserved : goal.loop-at-preserved
loop-at-preserved g c =
    let t = rw (lent_tail_lem c.loop-at.at c.args.input.now, c.in-Ok.is) at c.in_ok-used.ensures in
    record {
      in_range = omega (arith, t.most, length-drop c.loop-at.at c.args.input.now, c.loop-at.invariant.in_range);
      passed = omega (arith, t.some, c.loop-at.invariant.passed);
      stopping = stopping_on c.loop-at.invariant.stopping c.loop-at-test.true _ t;
    }

pub returns-in-Err : goal.returns-in-Err
returns-in-Err g c =
    stopping_stop c.loop-at.invariant.stopping c.loop-at-test.true _
    (rw (lent_tail_lem c.loop-at.at c.args.input.now, c.in-Err.is) at c.in_ok-used.ensures)

pub returns : goal.returns
returns g c = stopping_over c.loop-at.invariant.stopping c.loop-at-test.false
