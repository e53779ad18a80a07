-- What a record leaves that is put into a table, at a place of the table.
use mathlib.Core.Path.{◌≡◌, ap, ◌∙◌}
use mathlib.Core.List.{List, ◌++◌, append-nil}
use Prim.Native.Nat.{ℕ, ◌+◌, ◌-◌, ◌≤◌}
use native.Mathlib.Omega.{arith}
use lib.ListN.{length, take, drop, length-drop, drop_of_length-le}
use borrow.Rule.Slice.PartMut.{put_mid}
use Rattle.std.specs.Prelude.{Result}
use Rattle.answer.specs.declared.Refusal.{Refusal}
use Rattle.answer.specs.Answer.{written, leaves}
use Rattle.answer.specs.Writes.{Writes}
use Rattle.answer.proofs.Output.{lent_tail_lem, writes_room}
use Rattle.payload.specs.Inner.{put_at}

-- The record's own numbers, as `From` gives them, and what is left of the tail from there, which was lent and has room: they stand in it.
pub record_stored : (n : ℕ) (own table : List ℕ) {numbers tail : List ℕ} → n + length own ≤ length table → numbers ≡ own
    → tail ≡ leaves (written numbers) (take (length table - n) (drop n table)) → put_mid n (length table - n) table tail ≡ put_at n own table
record_stored n own table {numbers} {tail} room is w =
    ap (λ (l : List ℕ). take n table ++ (tail ++ l)) (drop_of_length-le (drop n table) {i = length table - n} (omega (arith, length-drop n table)))
    ∙ ap (λ (l : List ℕ). take n table ++ l) (append-nil tail ∙ w ∙ ap (λ (l : List ℕ). leaves (written l) (take (length table - n) (drop n table))) is ∙ ap (leaves (written own)) (lent_tail_lem n table))

-- The same of what `frame::put` says of that tail.
pub record_put : (n : ℕ) (own table : List ℕ) {numbers tail : List ℕ} {r : Result ℕ Refusal} → n + length own ≤ length table → numbers ≡ own
    → Writes (written numbers) r (take (length table - n) (drop n table)) tail → put_mid n (length table - n) table tail ≡ put_at n own table
record_put n own table {numbers} room is w = record_stored n own table room is (writes_room numbers w (omega (arith, long, room, ap length is)))
  where
    long : length (take (length table - n) (drop n table)) ≡ length table - n
    long = rw (lent_tail_lem n table) (length-drop n table)
