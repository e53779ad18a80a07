-- `frame::write::write_head` meets its contract: with no room nothing is written; else the nine bytes of fixed places are, and the two
-- numbers into the tail behind them, one after the other.
use Rattle.std.proofs.Common.{◌≡◌, refl, sym, ap, ◌∙◌, List, ◌++◌, ℕ, ◌+◌, ◌-◌, ◌≤◌, length, take, drop, length-append, Result, arith}
use borrow.Rule.Slice.PartMut.{put_mid}
use Rattle.answer.specs.declared.Refusal.{Refusal}
use Rattle.answer.specs.Writes.{Writes, counted}
use Rattle.answer.specs.Answer.{written, leaves}
use Rattle.answer.proofs.Output.{writes_none, writes_all}
use Rattle.answer.proofs.Parts.{both_start, both_wrote, both_written}
use Rattle.varint.specs.Number.{number_bytes}
use Rattle.varint.proofs.Writing.{length_most}
use Rattle.frame.specs.declared.Head.{Head}
use Rattle.frame.specs.Head.{four_bytes, head_bytes}
use Rattle.frame.proofs.Laws.{four_long, start_bytes, start_long, head_length, head_parts}
use Rattle.frame.proofs.write.write_head.Goals as goal

-- Of a head for which there is room.
module _ (behind : ℕ) (h : Head) (old : List ℕ) (room : 9 + length (number_bytes h.stream) + length (number_bytes h.frame) ≤ length old) where
  -- the nine bytes, and the first number behind them
  abbrev start : List ℕ
  start = start_bytes behind h

  start_count : 9 ≡ length start
  start_count = sym (start_long behind h)

  stream_room : length (start ++ number_bytes h.stream) ≤ length old
  stream_room = omega (arith, length-append start (number_bytes h.stream), start_count)

  stream_count : (n : ℕ) → n ≡ length (number_bytes h.stream) → 9 + n ≡ length (start ++ number_bytes h.stream)
  stream_count n e = omega (arith, length-append start (number_bytes h.stream), start_count)

  frame_room : length ((start ++ number_bytes h.stream) ++ number_bytes h.frame) ≤ length old
  frame_room = omega (arith, length-append (start ++ number_bytes h.stream) (number_bytes h.frame), stream_count (length (number_bytes h.stream)) refl)

  -- the first number was written behind them, and counted n bytes
  module _ {out tail : List ℕ} {r : Result ℕ Refusal} (first : out ≡ leaves (written start) old)
      (then : Writes (written (number_bytes h.stream)) r (take (length out - 9) (drop 9 out)) tail) (n : ℕ) (is : n ≡ counted r) where
    one_count : n ≡ length (number_bytes h.stream)
    one_count = is ∙ both_wrote start (number_bytes h.stream) old out 9 start_count first stream_room tail then

    abbrev both : List ℕ
    both = put_mid 9 (length out - 9) out tail

    one : both ≡ leaves (written (start ++ number_bytes h.stream)) old
    one = both_written start (number_bytes h.stream) old out 9 start_count first stream_room tail then

    two_start : 9 + n ≤ length both
    two_start = both_start (start ++ number_bytes h.stream) (number_bytes h.frame) old both (9 + n) (stream_count n one_count) one frame_room

    -- and the second
    module _ {last : List ℕ} {q : Result ℕ Refusal} (and : Writes (written (number_bytes h.frame)) q (take (length both - (9 + n)) (drop (9 + n) both)) last) (m : ℕ) (so : m ≡ counted q) where
      two_count : m ≡ length (number_bytes h.frame)
      two_count = so ∙ both_wrote (start ++ number_bytes h.stream) (number_bytes h.frame) old both (9 + n) (stream_count n one_count) one frame_room last and

      two : put_mid (9 + n) (length both - (9 + n)) both last ≡ leaves (written (four_bytes behind ++ head_bytes h)) old
      two =
          both_written (start ++ number_bytes h.stream) (number_bytes h.frame) old both (9 + n) (stream_count n one_count) one frame_room last and
          ∙ ap (λ (l : List ℕ). leaves (written l) old) (head_parts behind h)

      whole : 9 + n + m ≡ length (four_bytes behind ++ head_bytes h)
      whole = omega (arith, one_count, two_count, length-append (four_bytes behind) (head_bytes h), four_long behind, head_length h)

      fits : length (four_bytes behind ++ head_bytes h) ≤ length old
      fits = omega (arith, room, length-append (four_bytes behind) (head_bytes h), four_long behind, head_length h)

-- past the first test there is
room : (length_is : ℕ) (old : List ℕ) (h : Head) → length_is ≡ length (head_bytes h) → 4 + length_is ≤ length old
    → 9 + length (number_bytes h.stream) + length (number_bytes h.frame) ≤ length old
room length_is old h is fits = omega (arith, head_length h)

pub overflow_add-head_len : goal.overflow_add-head_len
overflow_add-head_len c = let h = c.args.head in omega (arith, c.head_len.ensures, head_length h, length_most h.stream, length_most h.frame)

pub returns-then-out-head_len : goal.returns-then-out-head_len
returns-then-out-head_len c =
    let a = c.args in
    writes_none (four_bytes a.behind ++ head_bytes a.head) _ c.at.ensures (simp length-append (omega (arith, c.if-out-head_len.true, c.head_len.ensures, four_long a.behind)))

pub put_start-requires : goal.put_start-requires
put_start-requires c = omega (arith, c.head_len.ensures, head_length c.args.head)

pub slice_bounds-encode_varint-count : goal.slice_bounds-encode_varint-count
slice_bounds-encode_varint-count c =
    let a = c.args in
    let space = room c.head_len.result a.out.now a.head c.head_len.ensures c.if-out-head_len.false in
    both_start (start a.behind a.head a.out.now space) (number_bytes a.head.stream) a.out.now c.put_start.new.out 9 (start_count a.behind a.head a.out.now space) c.put_start.ensures (stream_room a.behind a.head a.out.now space)

pub slice_bounds-encode_varint-start : goal.slice_bounds-encode_varint-start
slice_bounds-encode_varint-start c = slice_bounds-encode_varint-count c

pub slice_bounds-encode_varint-count-2 : goal.slice_bounds-encode_varint-count-2
slice_bounds-encode_varint-count-2 c =
    let a = c.args in
    two_start a.behind a.head a.out.now (room c.head_len.result a.out.now a.head c.head_len.ensures c.if-out-head_len.false) c.put_start.ensures c.encode_varint.ensures _ c.wrote-n.ensures

pub slice_bounds-encode_varint-start-2 : goal.slice_bounds-encode_varint-start-2
slice_bounds-encode_varint-start-2 c = slice_bounds-encode_varint-count-2 c

pub overflow_add-n : goal.overflow_add-n
overflow_add-n c =
    let a = c.args in
    let n = one_count a.behind a.head a.out.now (room c.head_len.result a.out.now a.head c.head_len.ensures c.if-out-head_len.false) c.put_start.ensures c.encode_varint.ensures _ c.wrote-n.ensures in
    omega (arith, n, length_most a.head.stream)

pub overflow_add-result : goal.overflow_add-result
overflow_add-result c =
    let a = c.args in
    let space = room c.head_len.result a.out.now a.head c.head_len.ensures c.if-out-head_len.false in
    let n = one_count a.behind a.head a.out.now space c.put_start.ensures c.encode_varint.ensures _ c.wrote-n.ensures in
    let m = two_count a.behind a.head a.out.now space c.put_start.ensures c.encode_varint.ensures _ c.wrote-n.ensures c.encode_varint-2.ensures _ c.wrote.ensures in
    omega (arith, n, m, length_most a.head.stream, length_most a.head.frame)

pub returns : goal.returns
returns c =
    let a = c.args in
    let space = room c.head_len.result a.out.now a.head c.head_len.ensures c.if-out-head_len.false in
    writes_all (four_bytes a.behind ++ head_bytes a.head) _ _ _
    (fits a.behind a.head a.out.now space c.put_start.ensures c.encode_varint.ensures _ c.wrote-n.ensures c.encode_varint-2.ensures _ c.wrote.ensures)
    (whole a.behind a.head a.out.now space c.put_start.ensures c.encode_varint.ensures _ c.wrote-n.ensures c.encode_varint-2.ensures _ c.wrote.ensures)
    (two a.behind a.head a.out.now space c.put_start.ensures c.encode_varint.ensures _ c.wrote-n.ensures c.encode_varint-2.ensures _ c.wrote.ensures)
