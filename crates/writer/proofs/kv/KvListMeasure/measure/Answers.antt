-- `measure` of a pair of a KV list meets its contract: the pair's own checks come first, and then its key is a new one.
use Rattle.std.proofs.Common.{sym, ◌∙◌}
use Rattle.std.proofs.lemmas.Result.{err_from_is_err_and}
use Rattle.answer.proofs.Order.{sound_on}
use Rattle.answer.proofs.Same.{reason_some}
use Rattle.writer.proofs.Pairs.{kv_first, kv_met, kv_new, kv_sound}
use Rattle.writer.proofs.kv.KvListMeasure.measure.Goals as goal

pub returns-in_err-len : goal.returns-in_err-len
returns-in_err-len c =
    let s = c.args.self.now.pairs in
    let p = err_from_is_err_and c.from_residual.result c.from_residual.ensures.1 in
    rw (p.1, p.2) (kv_first s.buffer.now s.table.now c.args.i _ c.in_err-len.ensures (reason_some c.in_err-len.field-0.0))

pub key_met-requires-clause-sound : goal.key_met-requires-clause-sound
key_met-requires-clause-sound c =
    let s = c.args.self.now.pairs in sound_on (kv_sound s.buffer.now s.table.now c.requires.sound) c.in_ok-len.ensures.0

pub returns-then-key_met : goal.returns-then-key_met
returns-then-key_met c =
    let s = c.args.self.now.pairs in kv_met s.buffer.now s.table.now c.args.i c.in_ok-len.ensures.0 (sym c.key_met.ensures ∙ c.if-key_met.true)

pub returns : goal.returns
returns c =
    let s = c.args.self.now.pairs in
    (kv_new s.buffer.now s.table.now c.args.i c.in_ok-len.ensures.0 (sym c.key_met.ensures ∙ c.if-key_met.false), c.in_ok-len.ensures.1)
