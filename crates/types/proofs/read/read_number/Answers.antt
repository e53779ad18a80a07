-- `types::read::read_number` meets its contract: each answer is what the table has behind the type byte for what the number reader answered.
use Rattle.std.proofs.Common.{◌∙◌, arith}
use Rattle.std.proofs.lemmas.Result.{err_from_is_err_and}
use Rattle.answer.proofs.Answers.{behind_done, behind_refused, sum_fits}
use Rattle.types.proofs.Behind.{some_bound, number_none, integer_some, text_some, bound}
use Rattle.types.proofs.Shapes.{numbered_integer, numbered_text, shape_integer}
use Rattle.types.proofs.read.read_number.Goals as goal

pub behind-requires : goal.behind-requires
behind-requires c = sum_fits 1 c.decode_varint.result (bound c.args.input.now c.requires.input_nonzero c.decode_varint.ensures.says (omega (arith, c.well_formed)))

pub returns-in_err-n : goal.returns-in_err-n
returns-in_err-n c =
    let p = err_from_is_err_and c.from_residual.result c.from_residual.ensures.1 in
    let o = behind_refused 1 c.decode_varint.result c.in_err-n.ensures (bound c.args.input.now c.requires.input_nonzero c.decode_varint.ensures.says (omega (arith, c.well_formed))) in
    rw (p.1, p.2, o.2) (number_none c.args.input.now c.requires.input_nonzero c.decode_varint.ensures.says c.args.kind c.args.flags c.requires.kind_value _ _ o.1)

pub integer_value-requires : goal.integer_value-requires
integer_value-requires c = (numbered_integer c.args.kind c.requires.kind_value c.if-kind-lt6.true, c.if-kind-lt6.true)

pub returns-then-kind-lt6 : goal.returns-then-kind-lt6
returns-then-kind-lt6 c =
    let o = behind_done 1 c.decode_varint.result c.in_ok-n.ensures (bound c.args.input.now c.requires.input_nonzero c.decode_varint.ensures.says (omega (arith, c.well_formed))) in
    shape_integer c.args.kind (numbered_integer c.args.kind c.requires.kind_value c.if-kind-lt6.true) c.if-kind-lt6.true
    (λ w row. c.integer_value.ensures w row
    ∙ rw o.2 (integer_some c.args.input.now c.requires.input_nonzero c.decode_varint.ensures.says c.args.kind c.args.flags w row _ _ o.1))

pub bytes_value-requires : goal.bytes_value-requires
bytes_value-requires c =
    let o = behind_done 1 c.decode_varint.result c.in_ok-n.ensures (bound c.args.input.now c.requires.input_nonzero c.decode_varint.ensures.says (omega (arith, c.well_formed))) in
    rw o.2 (some_bound c.args.input.now c.requires.input_nonzero c.decode_varint.ensures.says _ _ o.1)

pub returns : goal.returns
returns c =
    let o = behind_done 1 c.decode_varint.result c.in_ok-n.ensures (bound c.args.input.now c.requires.input_nonzero c.decode_varint.ensures.says (omega (arith, c.well_formed))) in
    c.bytes_value.ensures
    ∙ rw o.2 (text_some c.args.input.now c.requires.input_nonzero c.decode_varint.ensures.says c.args.kind c.args.flags (numbered_text c.args.kind c.requires.kind_value c.if-kind-lt6.false) _ _ o.1)
