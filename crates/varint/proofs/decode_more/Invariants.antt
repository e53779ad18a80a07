-- `varint::decode_more` meets its contract. The loop's invariant: the whole reads as what is left of it does after k bytes that add up to `sum`,
-- which is below sixteen times what the next byte counts in. Each `return` is the invariant and a law for the next byte.
use Rattle.std.proofs.Common.{◌≡◌, ◌<◌, ◌^◌, drop, ◌-◌, ◌*◌}
use Rattle.varint.specs.Number.{more}
use Rattle.varint.proofs.decode_more.Given as goal

abbrev pub invariant-loop-k : goal.invariant-loop-k
invariant-loop-k l =
    record { so_far : more l.first 1 (drop 1 l.input) ≡ more l.sum l.k (drop l.k l.input); below : l.sum < 16 * 2 ^ (7 * l.k - 3) }
