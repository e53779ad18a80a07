-- `spop_c::spop_write_kv` meets its contract, which is that of the call it makes. The check finds this too; written out, it tells of a wrong
-- call what it differs in.
use Rattle.spop_c.proofs.spop_write_kv.Goals as goal

pub returns : goal.returns
returns c = c.spop_write_kv.ensures
