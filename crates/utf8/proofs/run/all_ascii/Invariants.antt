-- `utf8::run::all_ascii` meets its contract. The loop's invariant: `all` is whether the bytes so far are ASCII.
use Rattle.std.proofs.Common.{◌≡◌, take}
use Rattle.utf8.specs.Inner.{ascii}
use Rattle.utf8.proofs.run.all_ascii.Given as goal

abbrev pub invariant-loop-i : goal.invariant-loop-i
invariant-loop-i g l = l.all ≡ ascii (take l.i l.s)
