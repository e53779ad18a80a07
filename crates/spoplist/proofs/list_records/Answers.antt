use mathlib.Core.Path.{ap, ◌∙◌}
use Rattle.std.specs.Prelude.{Ok}
use Rattle.std.proofs.Common.{◌+◌, ◌*◌, ◌≤◌, length, arith}
use Rattle.listing.proofs.Coming.{line_less}
use Rattle.listing.proofs.Fitting.{coming_fits}
use Rattle.spoplist.proofs.Standing.{count_below, message_stood, pair_stood}
use Rattle.spoplist.proofs.list_records.Goals as goal

-- the line that came leaves fewer
pub loop-line-smaller : goal.loop-line-smaller
loop-line-smaller g c =
    (line_less _ _ _ (c.in-Ok-Some.is ∙ ap Ok c.in-Ok-Some.field-0-is) c.args.frame.now c.args.messages.now c.args.counts.messages c.args.pairs.now c.args.counts.pairs _
    c.write_next_line.ensures).1

-- no line was refused
pub prove-unreachable-requires : goal.prove-unreachable-requires
prove-unreachable-requires g c =
    let enough : 2 * length c.args.frame.now + 128 ≤ length c.loop-line.out = omega (arith, c.requires.frame_in_bounds, c.loop-line.invariant) in
    coming_fits c.args.frame.now c.args.messages.now c.args.counts.messages c.args.pairs.now c.args.counts.pairs c.loop-line.place c.loop-line.out _ _
    (λ i h. message_stood c.args.frame.now c.args.messages.now c.args.counts.messages (length c.loop-line.out) enough (omega (arith, c.well_formed)) i h
    c.requires.stand_messages (count_below c.args.messages.now (λ n. (c.type_inv.messages n).fits) i))
    (λ k h. pair_stood c.args.frame.now c.args.pairs.now c.args.counts.pairs (length c.loop-line.out) enough (omega (arith, c.well_formed)) k h c.requires.stand_pairs)
    c.write_next_line.ensures c.in-Err.is
