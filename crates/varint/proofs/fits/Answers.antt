-- `varint::fits` meets its contract: no number's written form has more than ten bytes.
use Rattle.std.proofs.Common.{arith}
use Rattle.std.proofs.lemmas.Bool.Decides.{nat_tests}
use Rattle.varint.proofs.Writing.{length_most}
use Rattle.varint.proofs.fits.Goals as goal

pub returns-then-room-ge10 : goal.returns-then-room-ge10
returns-then-room-ge10 c = grind (arith, nat_tests, length_most)
