-- A number that is none of the six is no type's.
use Rattle.std.proofs.Common.{refl, arith}
use borrow.Author.Tests.{ne_eqb}
use Rattle.answer.specs.Table.{some}
use Rattle.frame.proofs.kind.FrameTypeTryFromU8.try_from.Goals as goal

pub returns-in_default : goal.returns-in_default
unfolding some
returns-in_default c =
    let n = c.args.number in (
      refl,
      rw (ne_eqb n 1 (λ e. omega arith), ne_eqb n 2 (λ e. omega arith), ne_eqb n 3 (λ e. omega arith), ne_eqb n 101 (λ e. omega arith), ne_eqb n 102 (λ e. omega arith), ne_eqb n 103 (λ e. omega arith)),
    )
