use Rattle.std.proofs.Common.{sym}
use Rattle.utf8.proofs.Ascii.{ascii_none}
use Rattle.utf8.proofs.run.all_ascii.Goals as goal

pub loop-i-init : goal.loop-i-init
loop-i-init g c = sym ascii_none
