-- `parser::payload_of` meets its contract: by the type.
use borrow.Author.Tests.{eq-eqb, ne_eqb}
use Rattle.parser.proofs.payload_of.Goals as goal

pub returns-then-frame_type : goal.returns-then-frame_type
returns-then-frame_type c = rw (eq-eqb _ _ c.if-frame_type.true)

pub returns-then-frame_type-2 : goal.returns-then-frame_type-2
returns-then-frame_type-2 c = rw (ne_eqb _ _ c.if-frame_type.false, eq-eqb _ _ c.if-frame_type-2.true)

pub returns : goal.returns
returns c = rw (ne_eqb _ _ c.if-frame_type.false, ne_eqb _ _ c.if-frame_type-2.false)
