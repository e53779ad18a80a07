-- `spop::spop_read_frames` meets its contract: what stopped the reading is told as it is, and the tables are as it left them.
use Rattle.spop.proofs.Telling.{frames_told}
use Rattle.spop.proofs.spop_read_frames.Goals as goal

pub returns : goal.returns
returns c = frames_told c.read_frames-read.ensures c.tell_stop.ensures
