-- `parser::read_agent_frame` meets its contract: what is read of that side's frame; it has no messages.
use mathlib.Core.List.{[]}
use Rattle.payload.specs.Promise.{rooms_of}
use Rattle.parser.proofs.Calls.{no_messages}
use Rattle.parser.proofs.read_agent_frame.Goals as goal

pub returns : goal.returns
returns c =
    let a = c.args in
    let f = c.read_side.ensures in
    record {
      says = f.says;
      fills = record { messages = no_messages a.limit (rooms_of [] a.pairs.now a.actions.now) a.input.now; pairs = f.fills.pairs; actions = f.fills.actions };
    }
