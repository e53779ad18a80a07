-- `payload::pair::moved_pair` meets its contract: the key's start moves, and the value's.
use mathlib.Core.Path.{ap}
use Prim.Native.Nat.{◌+◌}
use Rattle.types.specs.Value.{span, Record}
use Rattle.payload.specs.Pair.{pair_of}
use Rattle.payload.proofs.pair.moved_pair.Goals as goal

pub moved_value-requires : goal.moved_value-requires
moved_value-requires c = c.requires.1

pub returns : goal.returns
returns c =
    let a = c.args in
    ap (λ (v : Record). pair_of (span (a.n + a.pair.start) a.pair.len) v) c.moved_value.ensures
