-- `spop_c::spop_read_frame` meets its contract, which is that of the call it makes. The check finds this too; written out, it tells of a wrong
-- call what it differs in.
use Rattle.spop_c.proofs.spop_read_frame.Goals as goal

pub returns : goal.returns
returns c = c.spop_read_frame.ensures
