-- `varint::encode_varint` meets its contract: with no room nothing is written; below 240 the one byte is; and else the first byte
-- and what `encode_more` leaves in the tail behind it are the written form.
use Prim.Native.Nat.{◌+◌, ◌-◌, ◌/◌, ◌%◌, ◌≤◌}
use mathlib.Core.Path.{◌≡◌, refl, ap, ◌∙◌}
use mathlib.Core.List.{[], ◌∷◌}
use native.Mathlib.Omega.{arith}
use Rattle.std.proofs.lemmas.Bool.Decides.{nat_tests}
use lib.ListN.{length, set, length-set, length-drop}
use borrow.Rule.Slice.PartMut.{put_mid}
use Rattle.answer.specs.Answer.{written, leaves}
use Rattle.varint.specs.Number.{number_bytes, groups}
use Rattle.varint.proofs.Writing.{bytes_one, bytes_more, length_bounds}
use Rattle.answer.proofs.Output.{lent_tail_lem, leaves_length, leaves_byte, leaves_tail, writes_none, writes_all}
use Rattle.varint.proofs.encode_varint.Goals as goal
use Rattle.varint.proofs.encode_varint.Goals.{After-slice_known-2-1, Else-i-lt240, Else-not-fits}

-- past the first test there is room for the number, and so for its first byte
room : (c : Else-not-fits) → length (number_bytes c.args.i) ≤ length c.args.out.now
room c = grind (arith, nat_tests)

room_one : (c : Else-not-fits) → 1 ≤ length c.args.out.now
room_one c = omega (arith, room c, length_bounds c.args.i c.ranges.i.fits)

-- and past the second the number is its first byte and what encode_more writes
bytes : (c : Else-i-lt240)
    → number_bytes c.args.i
    ≡ (240 + c.args.i % 16) ∷ groups 9 ((c.args.i - 240) / 16)
bytes c = bytes_more c.args.i c.if-i-lt240.false

-- what the two leave, the first byte and encode_more behind it
both : (c : After-slice_known-2-1) → 1 ≤ length c.args.out.now
    → let i = c.args.i in
    let old = c.args.out.now in
    put_mid 1 (length (set old 0 (240 + i % 16)) - 1) (set old 0 (240 + i % 16)) c.encode_more.new.out ≡ leaves (written (number_bytes i)) old
both c one =
    let i = c.args.i in
    let old = c.args.out.now in
    rw (bytes c.before.before.before.before.before)
    (leaves_tail ((240 + i % 16) ∷ []) (groups 9 ((i - 240) / 16)) old _ _ 1 refl (leaves_byte (240 + i % 16) old one) c.encode_more.ensures.out_after)

pub returns-then-not-fits : goal.returns-then-not-fits
returns-then-not-fits c = writes_none (number_bytes c.args.i) _ c.at.ensures (grind (arith, nat_tests))

pub bounds-out-0 : goal.bounds-out-0
bounds-out-0 c = room_one ((goal.at.bounds-out-0 c).Else-not-fits)

pub returns-then-i-lt240 : goal.returns-then-i-lt240
returns-then-i-lt240 c = let i = c.args.i in
    let old = c.args.out.now in
    writes_all (number_bytes i) old _ _ (room ((goal.at.returns-then-i-lt240 c).Else-not-fits)) (rw (bytes_one i c.if-i-lt240.true))
    (rw (bytes_one i c.if-i-lt240.true) (leaves_byte i old (room_one ((goal.at.returns-then-i-lt240 c).Else-not-fits))))

pub bounds-out-0-2 : goal.bounds-out-0-2
bounds-out-0-2 c = room_one ((goal.at.bounds-out-0-2 c).Else-not-fits)

pub slice_bounds-encode_more-count : goal.slice_bounds-encode_more-count
slice_bounds-encode_more-count c = simp length-set (room_one ((goal.at.slice_bounds-encode_more-count c).Else-not-fits))

pub slice_bounds-encode_more-start : goal.slice_bounds-encode_more-start
slice_bounds-encode_more-start c = simp length-set (room_one ((goal.at.slice_bounds-encode_more-start c).Else-not-fits))

pub encode_more-requires : goal.encode_more-requires
encode_more-requires c =
    let i = c.args.i in record { steps_bound = omega (arith, c.ranges.i); steps_in_bounds = rw lent_tail_lem (simp (length-drop, length-set) (omega (arith, room ((goal.at.encode_more-requires c).Else-not-fits), ap length (bytes ((goal.at.encode_more-requires c).Else-i-lt240))))) }

pub overflow_add-result : goal.overflow_add-result
overflow_add-result c = omega (arith, c.encode_more.ensures.value, ap length (bytes ((goal.at.overflow_add-result c).Else-i-lt240)), length_bounds c.args.i c.ranges.i.fits)

pub shape_of-out : goal.shape_of-out
shape_of-out c = ap length (both ((goal.at.shape_of-out c).After-slice_known-2-1) (room_one ((goal.at.shape_of-out c).Else-not-fits))) ∙ leaves_length (number_bytes c.args.i) c.args.out.now (room ((goal.at.shape_of-out c).Else-not-fits))

pub returns : goal.returns
returns c = let i = c.args.i in
    writes_all (number_bytes i) _ _ _ (room ((goal.at.returns c).Else-not-fits)) (omega (arith, c.encode_more.ensures.value, ap length (bytes ((goal.at.returns c).Else-i-lt240)))) (both ((goal.at.returns c).After-slice_known-2-1) (room_one ((goal.at.returns c).Else-not-fits)))
