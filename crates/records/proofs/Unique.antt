-- No second result meets the promise, and it is the one that the reader of numbers gives.
use mathlib.Core.Path.{◌≡◌, refl, sym, ap, ap₂, ◌∙◌}
use mathlib.Core.List.{List, [], ◌∷◌, ◌++◌}
use Prim.Native.Nat.{ℕ, zero, suc, ◌*◌, ◌/◌}
use native.Mathlib.Omega.{arith}
use lib.ListN.{length, drop}
use Rattle.answer.specs.Answer.{Answer, done, refused, next, written, leaves}
use Rattle.answer.specs.Table.{joined}
use Rattle.answer.proofs.Records.{joined_none, joined_on, joined_both}
use Rattle.frame.specs.declared.Pair.{Pair}
use Rattle.frame.specs.declared.Side.TheVariants as side
use Rattle.frame.specs.Records.{message_width, pair_width, pair_numbers}
use Rattle.payload.specs.declared.Counts.{Counts}
use Rattle.payload.specs.Payload.{Contents}
use Rattle.payload.specs.Promise.{rooms_of}
use Rattle.payload.proofs.Filling.{joined_width}
use Rattle.std.specs.Prelude.{Result}
use Rattle.answer.specs.declared.Read.{Read}
use Rattle.frame.specs.declared.Stop.{Stop}
use Rattle.parser.specs.declared.Frame.{Frame}
use Rattle.parser.specs.Frame.{frame_read}
use Rattle.parser.specs.Promise.{contents_read, frame_tells, ReadFrame}
use Rattle.parser.proofs.Unique.{frame_same}
use Rattle.records.specs.Promise.{rooms_for, records_left, ReadFrameRecords}

pub read_frame_records_unique : (input : List ℕ) (limit : ℕ) (r q : Result (Read Frame) Stop) (old_messages new_messages other_messages : List ℕ) (old_pairs new_pairs other_pairs : List Pair)
    → ReadFrameRecords input limit r old_messages new_messages old_pairs new_pairs → ReadFrameRecords input limit q old_messages other_messages old_pairs other_pairs
    → (r ≡ q) × (new_messages ≡ other_messages) × (new_pairs ≡ other_pairs)
read_frame_records_unique input limit r q old_messages new_messages other_messages old_pairs new_pairs other_pairs p s =
    (frame_same r q (p.says ∙ sym s.says), p.fills.messages ∙ sym s.fills.messages, p.fills.pairs ∙ sym s.fills.pairs)

-- ---- the same as numbers

-- how long the numbers of pairs are, and where those behind the first n start
pairs_wide : (ps : List Pair) → length (joined pair_numbers ps) ≡ length ps * pair_width
pairs_wide ps = joined_width pair_numbers pair_width (λ p. refl) ps

drop_joined : (n : ℕ) (ps : List Pair) → drop (n * pair_width) (joined pair_numbers ps) ≡ joined pair_numbers (drop n ps)
drop_joined zero ps = refl
drop_joined (suc n) [] = rw (joined_none pair_numbers) (drop_none (suc n * pair_width))
  where
    drop_none : (k : ℕ) → drop {A = ℕ} k [] ≡ []
    drop_none zero = refl
    drop_none (suc k) = refl
drop_joined (suc n) (p ∷ ps) =
    let more : suc n * pair_width ≡ suc (suc (suc (suc (suc (suc (n * pair_width)))))) = omega arith in
    ap₂ (λ (k : ℕ) (l : List ℕ). drop k l) more (joined_on pair_numbers p ps) ∙ drop_joined n ps

-- what is left of both
left_same : (a : Answer Contents) (old : List Pair)
    → leaves (next a (λ c used. written (joined pair_numbers c.pairs))) (joined pair_numbers old) ≡ joined pair_numbers (records_left a old)
left_same (refused n place) old = refl
left_same (done c used) old =
    ap (λ (k : ℕ). joined pair_numbers c.pairs ++ drop k (joined pair_numbers old)) (pairs_wide c.pairs)
    ∙ ap (λ (l : List ℕ). joined pair_numbers c.pairs ++ l) (drop_joined (length c.pairs) old)
    ∙ sym (joined_both pair_numbers c.pairs (drop (length c.pairs) old))

-- Law: the records are read as their numbers are. With a table that has the numbers of each record one behind the other, `read_frame` gives the
-- same answer and the same messages, and leaves the numbers of the records that are left here.
pub records_as_numbers : (input : List ℕ) (limit : ℕ) (r q : Result (Read Frame) Stop) (old_messages new_messages other_messages : List ℕ) (old_pairs new_pairs : List Pair) (numbers : List ℕ)
    → ReadFrameRecords input limit r old_messages new_messages old_pairs new_pairs → ReadFrame input limit q old_messages other_messages (joined pair_numbers old_pairs) numbers
    → (r ≡ q) × (new_messages ≡ other_messages) × (numbers ≡ joined pair_numbers new_pairs)
records_as_numbers input limit r q old_messages new_messages other_messages old_pairs new_pairs numbers p s =
    let room : length (joined pair_numbers old_pairs) / pair_width ≡ length old_pairs = omega (arith, pairs_wide old_pairs) in
    let same : rooms_of old_messages (joined pair_numbers old_pairs) [] ≡ rooms_for old_messages old_pairs =
    ap (λ (n : ℕ). record { messages = length old_messages / message_width; pairs = n; actions = 0 }) room in (
      frame_same r q (p.says ∙ ap (λ (x : Counts). frame_tells (frame_read side.HAProxy limit x input)) (sym same) ∙ sym s.says),
      p.fills.messages ∙ sym (rw same at s.fills.messages),
      rw same at s.fills.pairs ∙ left_same (contents_read (frame_read side.HAProxy limit (rooms_for old_messages old_pairs) input)) old_pairs ∙ ap (joined pair_numbers) (sym p.fills.pairs),
    )
