-- `writer::begin_frame` meets its contract: past the two tests the head finds its room too.
use mathlib.Core.Path.{sym, ap, ◌∙◌}
use Rattle.answer.specs.Writes.{refusal_said}
use mathlib.Core.List.{◌++◌}
use Prim.Native.Nat.{◌+◌, ◌^◌, ◌≤◌, ◌<◌}
use native.Mathlib.Omega.{arith}
use lib.ListN.{length}
use borrow.Author.Tests.{le-leb}
use Rattle.varint.proofs.Writing.{length_most}
use Rattle.frame.specs.Head.{four_bytes, head_bytes}
use Rattle.frame.proofs.Laws.{head_length}
use Rattle.writer.proofs.Begun.{begun_over, begun_short, begun_in, front_length, begins_refused}
use Rattle.writer.proofs.begin_frame.Goals as goal
use Rattle.writer.proofs.begin_frame.Goals.{After-head_len}

pub returns-then-limit-len : goal.returns-then-limit-len
returns-then-limit-len c =
    let a = c.args in
    begins_refused c.at.result a.out.now (begun_over (length a.out.now) a.limit a.head a.len (omega (arith, c.if-limit-len.true)) ∙ sym (ap refusal_said c.at.ensures))

-- what follows the length bytes is little over the limit at most
small : (c : After-head_len) → c.head_len.result + c.args.len < 2 ^ 33
small c =
    let h = c.args.head in
    omega (arith, c.head_len.ensures, head_length h, length_most h.stream, length_most h.frame, c.if-limit-len.false, c.ranges)

pub overflow_add-behind : goal.overflow_add-behind
overflow_add-behind c = omega (arith, small ((goal.at.overflow_add-behind c).After-head_len))

pub overflow_add-whole : goal.overflow_add-whole
overflow_add-whole c = omega (arith, small ((goal.at.overflow_add-whole c).After-head_len))

pub returns-then-most-behind : goal.returns-then-most-behind
returns-then-most-behind c =
    let a = c.args in
    begins_refused c.at-then-most-behind.result a.out.now
    (begun_over (length a.out.now) a.limit a.head a.len (omega (arith, c.if-most-behind.true, c.head_len.ensures)) ∙ sym (ap refusal_said c.at-then-most-behind.ensures))

pub returns-then-room-whole : goal.returns-then-room-whole
returns-then-room-whole c =
    let a = c.args in
    let n = c.head_len.ensures in
    begins_refused c.at-then-room-whole.result a.out.now
    (begun_short (length a.out.now) a.limit a.head a.len (omega (arith, c.if-most-behind.false, n)) (omega (arith, c.if-room-whole.true, n)) ∙ sym (ap refusal_said c.at-then-room-whole.ensures))

pub returns : goal.returns
returns c =
    let a = c.args in
    let n = c.head_len.ensures in
    let behind = length (head_bytes a.head) + a.len in
    let fits : 4 + behind ≤ length a.out.now = omega (arith, c.if-room-whole.false, n) in
    rw (begun_in (length a.out.now) a.limit a.head a.len (omega (arith, c.if-most-behind.false, n)) fits)
    (let room = le-leb (length (four_bytes behind ++ head_bytes a.head)) (length a.out.now) (omega (arith, front_length a.head a.len)) in
    let w = rw n at c.write_head.ensures in
    record { says = simp room at w.says; holds = simp room at w.holds })
