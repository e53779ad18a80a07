-- `types::check::part_inside` meets its contract: the two tests are the one of the sum, which could wrap.
use mathlib.Core.Path.{sym, ◌∙◌}
use borrow.Author.Tests.{lt-leb}
use Rattle.types.proofs.Writing.{inside_not, inside_rest}
use Rattle.types.proofs.check.part_inside.Goals as goal

pub returns-else-start-room : goal.returns-else-start-room
returns-else-start-room c = let a = c.args in lt-leb _ _ c.if-start-room.false ∙ sym (inside_not a.buffer.now a.start a.len c.if-start-room.false)

pub returns-then-start-room : goal.returns-then-start-room
returns-then-start-room c = let a = c.args in inside_rest a.buffer.now a.start a.len c.if-start-room.true
