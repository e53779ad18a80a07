-- `parser::read_frame` meets its contract: what is read of that side's frame; it has no actions.
use mathlib.Core.List.{[]}
use Rattle.payload.specs.Promise.{rooms_of}
use Rattle.parser.proofs.Calls.{no_actions}
use Rattle.parser.proofs.read_frame.Goals as goal

pub returns : goal.returns
returns c =
    let a = c.args in
    let f = c.read_side.ensures in
    record {
      says = f.says;
      fills = record { messages = f.fills.messages; pairs = f.fills.pairs; actions = no_actions a.limit (rooms_of a.messages.now a.pairs.now []) a.input.now };
    }
