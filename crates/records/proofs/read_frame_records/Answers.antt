-- `records::read_frame_records` meets its contract: a frame that is not accepted fills nothing, and the payload of one that is starts where its head ends.
use Rattle.std.proofs.Common.{sym}
use lib.Seq.{length-take-le}
use Rattle.records.proofs.Finding.{used_within, finds_payload}
use Rattle.records.proofs.read_frame_records.Goals as goal

pub slice_bounds-whole-end : goal.slice_bounds-whole-end
slice_bounds-whole-end c = let a = c.args in sym (length-take-le _ _ (used_within a.input.now a.limit a.messages.now a.pairs.now _ _ _ c.in_ok-read.ensures))

pub fill-requires : goal.fill-requires
fill-requires c =
    let a = c.args in
    (finds_payload a.input.now a.limit a.messages.now a.pairs.now _ _ _ c.in_ok-read.ensures _ (λ t. c.payload_of-kind.ensures) _ c.kv_of.ensures).accepted

pub returns : goal.returns
returns c =
    let a = c.args in
    (finds_payload a.input.now a.limit a.messages.now a.pairs.now _ _ _ c.in_ok-read.ensures _ (λ t. c.payload_of-kind.ensures) _ c.kv_of.ensures).fills _ _ c.fill.ensures
