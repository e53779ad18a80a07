-- `utf8::replace::write_lossy` meets its contract. The loop's invariant: the lossy text is partly written, and what is left to write is the
-- lossy text of what is left of the bytes. Each turn writes what the next step becomes.
use Rattle.std.proofs.Common.{length}
use Rattle.answer.proofs.Output.{Partly}
use Rattle.utf8.specs.Text.{lossy}
use Rattle.utf8.proofs.replace.write_lossy.Given as goal

abbrev pub invariant-loop-bytes : goal.invariant-loop-bytes
invariant-loop-bytes l = Partly (lossy l.fn.bytes) l.initial.out l.n (lossy l.bytes) l.out

abbrev pub decreases-loop-bytes : goal.decreases-loop-bytes
decreases-loop-bytes l = length l.bytes
