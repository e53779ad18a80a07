-- `utf8::run::ascii_run` meets its contract. The loop's invariant: the bytes so far are ASCII.
use Rattle.utf8.specs.Inner.{AsciiTo}
use Rattle.utf8.proofs.run.ascii_run.Given as goal

abbrev pub invariant-loop-at : goal.invariant-loop-at
invariant-loop-at l = AsciiTo l.s l.at
