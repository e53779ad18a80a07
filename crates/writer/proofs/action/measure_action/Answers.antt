-- `writer::action::measure_action` meets its contract: its own numbers, and then its name and value, as a pair has them. Where none is refused,
-- three bytes come before the pair, or before the name alone.
use borrow.Author.Rules.{rules}
use mathlib.Core.Path.{sym, ap, ◌∙◌}
use Prim.Native.Nat.{ℕ, ◌+◌}
use native.Mathlib.Omega.{arith}
use lib.ListN.{length}
use Rattle.std.proofs.lemmas.Result.{err_from_is_err_and}
use Rattle.answer.specs.Inner.{Passes}
use Rattle.varint.proofs.Writing.{length_most}
use Rattle.writer.specs.Pair.{pair_bytes}
use Rattle.writer.specs.Action.{action_checks}
use Rattle.writer.specs.Inner.{capped}
use Rattle.writer.proofs.Capped.{capped_right, capped_most}
use Rattle.writer.proofs.Pairs.{formed_passed}
use Rattle.writer.proofs.Actions.{action_fields, action_pair, set_long, unset_long}
use Rattle.writer.proofs.action.measure_action.Goals as goal

pub returns-then-not-action_writable : goal.returns-then-not-action_writable
returns-then-not-action_writable c =
    let a = c.args in sym (action_fields a.buffer.now a.action (search rules))

pub returns-in_err-pair_len : goal.returns-in_err-pair_len
returns-in_err-pair_len c =
    let a = c.args in
    let p = err_from_is_err_and c.from_residual.result c.from_residual.ensures.1 in
    rw (p.1, p.2) (c.in_err-pair_len.ensures ∙ sym (action_pair a.buffer.now a.action (search rules)))

pub overflow_add-pair_len : goal.overflow_add-pair_len
overflow_add-pair_len c =
    let a = c.args in
    omega (arith, c.in_ok-pair_len.ensures.1, capped_most a.most (length (pair_bytes a.buffer.now a.action.pair)), c.ranges)

pub returns-then-action-eq-SET_VAR : goal.returns-then-action-eq-SET_VAR
returns-then-action-eq-SET_VAR c =
    let a = c.args in
    let well : Passes (action_checks a.buffer.now a.action) = (search rules, c.in_ok-pair_len.ensures.0) in (
      well,
      c.cap.ensures
          ∙ ap (λ (n : ℕ). capped a.most (3 + n)) c.in_ok-pair_len.ensures.1
          ∙ capped_right a.most 3 (length (pair_bytes a.buffer.now a.action.pair))
          ∙ ap (capped a.most) (sym (set_long a.buffer.now a.action well c.if-action-eq-SET_VAR.true)),
    )

pub overflow_add-varint_len : goal.overflow_add-varint_len
overflow_add-varint_len c =
    let a = c.args in
    omega (arith, c.varint_len.ensures, length_most a.action.pair.len, (formed_passed a.buffer.now a.action.pair c.in_ok-pair_len.ensures.0).key, c.well_formed)

pub overflow_add-varint_len-2 : goal.overflow_add-varint_len-2
overflow_add-varint_len-2 c =
    let a = c.args in
    omega (arith, c.varint_len.ensures, length_most a.action.pair.len, (formed_passed a.buffer.now a.action.pair c.in_ok-pair_len.ensures.0).key, c.well_formed)

pub returns : goal.returns
returns c =
    let a = c.args in
    let well : Passes (action_checks a.buffer.now a.action) = (search rules, c.in_ok-pair_len.ensures.0) in (
      well,
      c.cap-2.ensures
          ∙ ap (λ (k : ℕ). capped a.most (3 + (k + a.action.pair.len))) c.varint_len.ensures
          ∙ ap (capped a.most) (sym (unset_long a.buffer.now a.action well c.if-action-eq-SET_VAR.false)),
    )
