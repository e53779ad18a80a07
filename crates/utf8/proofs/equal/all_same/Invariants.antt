-- `utf8::equal::all_same` meets its contract. The loop's invariant: `same` is whether the bytes so far are the same.
use Rattle.std.proofs.Common.{◌≡◌, take}
use Rattle.utf8.specs.Text.{same_bytes}
use Rattle.utf8.proofs.equal.all_same.Given as goal

abbrev pub invariant-loop-i : goal.invariant-loop-i
invariant-loop-i g l = l.same ≡ same_bytes (take l.i l.a) (take l.i l.b)
