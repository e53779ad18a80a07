-- A key that is met is found, and where the loop ends none was.
use Rattle.std.proofs.Common.{sym, ap₂, ◌∙◌, arith}
use Rattle.answer.proofs.Loops.{seeking_here, seeking_on, seeking_all}
use Rattle.frame.specs.Records.{same_key}
use Rattle.writer.proofs.kv.KvList.key_met.Goals as goal

pub returns-then-same_key : goal.returns-then-same_key
returns-then-same_key c =
    let compared = c.same_key.ensures ∙ ap₂ (same_key c.args.self.now.pairs.buffer.now) c.record_at-pair.ensures c.record_at.ensures in
    sym (seeking_here c.loop-j.invariant c.loop-j-test.true (sym compared ∙ c.if-same_key.true))

pub loop-j-preserved : goal.loop-j-preserved
loop-j-preserved c =
    let compared = c.same_key.ensures ∙ ap₂ (same_key c.args.self.now.pairs.buffer.now) c.record_at-pair.ensures c.record_at.ensures in
    seeking_on c.loop-j.invariant c.loop-j-test.true (sym compared ∙ c.if-same_key.false)

pub returns : goal.returns
returns c = sym (seeking_all c.loop-j.invariant (omega (arith, c.loop-j-test.false)))
