-- `frame::write::head_len` meets its contract: one byte for the type, four for the flags, and the two numbers, of ten bytes at most.
use borrow.Author.Rules.{rules}
use native.Mathlib.Omega.{arith}
use Rattle.varint.proofs.Writing.{length_most}
use Rattle.frame.proofs.Laws.{head_length}
use Rattle.frame.proofs.write.head_len.Goals as goal

pub varint_len-requires : goal.varint_len-requires
varint_len-requires c = search rules

pub overflow_add-result : goal.overflow_add-result
overflow_add-result c = omega (arith, c.varint_len.ensures, length_most c.args.head.stream)

pub varint_len-requires-2 : goal.varint_len-requires-2
varint_len-requires-2 c = search rules

pub overflow_add-result-2 : goal.overflow_add-result-2
overflow_add-result-2 c =
    let h = c.args.head in
    omega (arith, c.varint_len.ensures, c.varint_len-2.ensures, length_most h.stream, length_most h.frame)

pub returns : goal.returns
returns c = omega (arith, c.varint_len.ensures, c.varint_len-2.ensures, head_length c.args.head)
