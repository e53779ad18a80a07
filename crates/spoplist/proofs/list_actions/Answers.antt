use Rattle.std.proofs.Common.{arith}
use Rattle.spoplist.proofs.Standing.{action_stood, fits_lies}
use Rattle.spoplist.proofs.list_actions.Goals as goal

pub print-requires : goal.print-requires
print-requires g c =
    fits_lies
    (action_stood c.args.frame.now c.args.actions.now c.args.count _ (omega (arith, c.requires.frame_in_bounds)) c.ranges.count.fits c.loop-k.k (omega arith)
    c.requires.stand_actions)
    c.write_action_at.ensures c.write_action_at.auto.out
