-- `replay::fields::Fields::rest` meets its contract: no more numbers are counted than a line may still have, nor than the room has.
use Rattle.std.proofs.Common.{◌≤◌, length, ◌≡◌}
use Rattle.replay.proofs.fields.Fields.rest.Given as goal

abbrev pub invariant-loop-word : goal.invariant-loop-word
invariant-loop-word l = record {
  most : l.count ≤ l.fn.self.numbers;
  there : l.count ≤ length l.room;
  room : length l.room ≡ 64;
}
