use Rattle.plain.proofs.Laws.{Stands, stands, lengths_apart, byte_apart, byte_alike, all_alike}
use Rattle.plain.proofs.same_text_plain.Goals as goal
use Rattle.plain.proofs.same_text_plain.Goals.{In_ok-a_len}

-- where both are written, each text stands in its buffer
first_stands : (c : In_ok-a_len) → Stands c.args.a.now c.args.a_text.now c.lossy_text-2.new.out c.in_ok-a_len.a_len
first_stands c = stands _ c.lossy_text-2.ensures c.in_ok-a_len.was

second_stands : (c : In_ok-a_len) → Stands c.args.b.now c.args.b_text.now c.lossy_text.new.out c.in_ok-b_len.b_len
second_stands c = stands _ c.lossy_text.ensures c.in_ok-b_len.was

pub returns-then-a_len-b_len : goal.returns-then-a_len-b_len
returns-then-a_len-b_len c = let k = (goal.at.returns-then-a_len-b_len c).In_ok-a_len in lengths_apart (first_stands k) (second_stands k) c.if-a_len-b_len.true

pub returns-then-a_text-i : goal.returns-then-a_text-i
returns-then-a_text-i c =
    let k = (goal.at.returns-then-a_text-i c).In_ok-a_len in
    byte_apart (first_stands k) (second_stands k) c.if-a_len-b_len.false c.loop-i.i c.loop-i.invariant c.loop-i-test.true c.if-a_text-i.true

pub loop-i-preserved : goal.loop-i-preserved
loop-i-preserved c =
    let k = (goal.at.loop-i-preserved c).In_ok-a_len in
    byte_alike (first_stands k) (second_stands k) c.if-a_len-b_len.false c.loop-i.i c.loop-i.invariant c.loop-i-test.true c.if-a_text-i.false

pub returns : goal.returns
returns c =
    let k = (goal.at.returns c).In_ok-a_len in
    all_alike (first_stands k) (second_stands k) c.if-a_len-b_len.false c.loop-i.i c.loop-i.invariant c.loop-i-test.false
