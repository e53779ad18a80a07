-- `measure` of a message meets its contract: where none is refused, its name lies in the buffer.
use mathlib.Core.Path.{◌≡◌, sym, ap, ◌∙◌}
use mathlib.Core.List.{List}
use Prim.Native.Nat.{ℕ, ◌+◌, ◌≤◌}
use native.Mathlib.Omega.{arith}
use lib.ListN.{length}
use Rattle.answer.specs.Order.{in_order}
use Rattle.answer.specs.Inner.{Passes}
use Rattle.answer.proofs.Order.{passes_zero}
use Rattle.varint.specs.Number.{number_bytes}
use Rattle.varint.proofs.Writing.{length_most}
use Rattle.types.proofs.Checking.{string_range}
use Rattle.frame.specs.declared.Message.{Message}
use Rattle.frame.specs.Records.{message_at}
use Rattle.writer.specs.Message.{name_bytes}
use Rattle.writer.specs.Inner.{capped, message_order}
use Rattle.writer.proofs.Capped.{capped_right, capped_most}
use Rattle.writer.proofs.Messages.{name_length}
use Rattle.writer.proofs.notify.MessagesMeasure.measure.Goals as goal

module _ (buffer : List ℕ) (total : ℕ) (messages : List ℕ) (count i : ℕ) (none : 0 ≡ in_order (message_order buffer total messages count i) 0) where
  well : Passes (message_order buffer total messages count i)
  well = passes_zero _ tt (sym none)

  range : (m : Message) → m ≡ message_at messages i → m.start + m.len ≤ length buffer
  range m e = rw e (string_range buffer _ _ well.1.1.1)

pub overflow_add-beside : goal.overflow_add-beside
overflow_add-beside c = omega (arith, c.varint_len.ensures, length_most c.record_at-message.result.len)

pub overflow_add-beside-2 : goal.overflow_add-beside-2
overflow_add-beside-2 c =
    let long = c.record_at-message.result.len in omega (arith, c.cap.ensures, capped_most c.args.most long, c.varint_len.ensures, length_most long, c.ranges)

pub returns : goal.returns
returns c =
    let s = c.args.self.now in
    let most = c.args.most in
    let m = c.record_at-message.result in
    let inside = range s.pairs.buffer.now s.pair_count s.table.now s.count c.args.i c.in_ok-check.ensures m c.record_at-message.ensures in
    let long : length (number_bytes m.len) + 1 + m.len ≡ length (name_bytes s.pairs.buffer.now m) = omega (arith, name_length s.pairs.buffer.now m inside) in (
      well s.pairs.buffer.now s.pair_count s.table.now s.count c.args.i c.in_ok-check.ensures,
      c.cap-2.ensures
          ∙ ap (λ (n : ℕ). capped most (c.varint_len.result + 1 + n)) c.cap.ensures
          ∙ capped_right most (c.varint_len.result + 1) m.len
          ∙ ap (λ (n : ℕ). capped most (n + 1 + m.len)) c.varint_len.ensures
          ∙ ap (capped most) long
          ∙ ap (λ (x : Message). capped most (length (name_bytes s.pairs.buffer.now x))) c.record_at-message.ensures,
    )
