-- `payload::pair::pair_at` meets its contract: what is read from the place on, with its starts and its place moved by it.
use Rattle.std.proofs.Common.{◌∙◌, sym, ap, arith}
use Rattle.std.proofs.lemmas.Result.{err_from_is_err_and}
use Rattle.answer.specs.Answer.{refused}
use Rattle.answer.specs.Reason.{number_of}
use Rattle.answer.specs.Writes.{read_said}
use Rattle.answer.proofs.Answers.{at_done, at_refused, at_fits, itself}
use Rattle.payload.specs.Pair.{pair}
use Rattle.payload.proofs.Pairs.{pair_ends, from_none, from_some}
use Rattle.payload.proofs.pair.pair_at.Goals as goal

pub behind-requires : goal.behind-requires
behind-requires c =
    let a = c.args in
    at_fits read_said (λ x. x) itself pair pair_ends a.input.now a.at c.requires (omega (arith, c.well_formed)) c.read_pair.result c.read_pair.ensures

pub returns-in_err-pair : goal.returns-in_err-pair
returns-in_err-pair c =
    let a = c.args in
    let p = err_from_is_err_and c.from_residual.result c.from_residual.ensures.1 in
    let o = at_refused read_said (λ x. x) itself pair pair_ends a.input.now a.at c.requires (omega (arith, c.well_formed)) c.read_pair.result c.read_pair.ensures c.in_err-pair.ensures in
    rw (p.1, p.2) (ap (refused (number_of c.in_err-pair.field-0.0.reason)) o.2 ∙ sym (from_none a.input.now a.at c.requires _ _ o.1).0)

pub moved_pair-requires : goal.moved_pair-requires
moved_pair-requires c =
    let a = c.args in
    let o = at_done read_said (λ x. x) itself pair pair_ends a.input.now a.at c.requires (omega (arith, c.well_formed)) c.read_pair.result c.read_pair.ensures c.in_ok-pair.ensures in
    let i = (from_some a.input.now a.at c.requires _ _ o.1).1 in
    (omega (arith, i.key, i.most, c.requires, c.well_formed), λ h l. omega (arith, i.value h l, i.most, c.requires, c.well_formed))

pub returns : goal.returns
returns c =
    let a = c.args in
    let o = at_done read_said (λ x. x) itself pair pair_ends a.input.now a.at c.requires (omega (arith, c.well_formed)) c.read_pair.result c.read_pair.ensures c.in_ok-pair.ensures in
    rw (c.moved_pair.ensures, o.2) (sym (from_some a.input.now a.at c.requires _ _ o.1).0)
