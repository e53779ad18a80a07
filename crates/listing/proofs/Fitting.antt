-- Laws about lines that are not refused: none is of an accepted frame of n bytes, with its records at the front of tables, where 2n + 128 bytes are
-- lent; nor is a frame's own line or the last one where 132 are.
use mathlib.Core.Path.{◌≡◌, refl, sym, ap, ◌∙◌}
use mathlib.Core.Logic.{⊎_elim}
use mathlib.Core.List.{List, ◌++◌}
use Prim.Native.Nat.{ℕ, ◌+◌, ◌*◌, ◌^◌, ◌≤◌, ◌<◌}
use native.Mathlib.Omega.{arith}
use lib.Dec.{ltb}
use lib.ListN.{length, length-append}
use borrow.Author.Tests.{le-leb, ltb-true}
use Rattle.answer.specs.declared.Refusal.{Refusal}
use Rattle.std.specs.Prelude.{Result, Ok, Err, Option, None}
use Rattle.answer.specs.Answer.{Answer, done, written}
use Rattle.answer.specs.Table.{joined}
use Rattle.answer.specs.Writes.{said, Writes}
use Rattle.answer.proofs.Answers.{done_same}
use Rattle.answer.proofs.Cases.{lt_or_le, bool_cases, both_true, not_both}
use Rattle.frame.specs.declared.Head.{Head}
use Rattle.frame.specs.declared.Pair.{Pair}
use Rattle.frame.specs.declared.Message.{Message}
use Rattle.frame.specs.declared.Action.{Action}
use Rattle.frame.specs.Read.{Sender}
use Rattle.frame.specs.Records.{message_width, message_at, message_numbers, pair_width, pair_at, pair_numbers, action_width, action_at, action_numbers}
use Rattle.payload.specs.declared.Counts.{Counts}
use Rattle.payload.specs.Payload.{Contents}
use Rattle.parser.specs.Frame.{framed}
use Rattle.listing.specs.declared.Place.{Place}
use Rattle.listing.specs.declared.Line.{Line}
use Rattle.listing.specs.Digits.{decimal}
use Rattle.listing.specs.Lines.{filled, message_line, pair_line, action_line, frame_line, end_line}
use Rattle.listing.specs.Check.{message_answer, pair_answer, action_answer}
use Rattle.listing.specs.Order.{pair_next, in_table, line, coming, step_of, Comes}
use Rattle.listing.proofs.Coming.{coming_pair, coming_message, coming_none}
use Rattle.listing.proofs.Decimal.{decimal_most}
use Rattle.listing.proofs.Tables.{each_there, messages_stand, message_stands, pairs_stand, pair_stands, actions_stand, action_stands}
use Rattle.listing.proofs.Room.{accepted_room}

-- ---- a line that fits

-- The line that is to be written has at most so many bytes.
pub record Fits (room : ℕ) (a : Answer (List ℕ)) : Type 0 where
  pub bytes : List ℕ
  pub is : a ≡ written bytes
  pub most : length bytes ≤ room

-- Law: its writer does not refuse it.
pub fits_done : {a : Answer (List ℕ)} {r : Result ℕ Refusal} {old new : List ℕ} → Fits (length old) a → Writes a r old new → (n : ℕ) × (r ≡ Ok n) × (n ≤ length old)
fits_done {a} {r} {old} g x = by_answer r (x.says ∙ rw (g.is, le-leb (length g.bytes) (length old) g.most))
  where
    by_answer : (q : Result ℕ Refusal) → said q ≡ done tt (length g.bytes) → (n : ℕ) × (q ≡ Ok n) × (n ≤ length old)
    by_answer (Ok n) e = let o = done_same e in (n, refl, omega (arith, o.1, g.most))
    by_answer (Err y) e = not_both e refl

-- Law: where each of so many messages and pairs has a line that fits, no place has one that is refused.
pub coming_fits : (f messages : List ℕ) (count : ℕ) (pairs : List ℕ) (total : ℕ) (p : Place) {r : Result (Option Line) Refusal} (old new : List ℕ) (y : Refusal)
    → ((i : ℕ) → i < count → Fits (length old) (in_table message_width message_at message_answer f messages i))
    → ((k : ℕ) → k < total → Fits (length old) (in_table pair_width pair_at pair_answer f pairs k))
    → Comes (coming f messages count pairs total p) r old new → r ≡ Err y → ⊥
coming_fits f messages count pairs total p {r} old new y named paired e is =
    bool_cases (pair_next count total p)
    (λ t. no (paired p.pairs (ltb-true p.pairs total (both_true (ltb p.pairs total) _ t).0)) (rw (coming_pair f messages count pairs total p t) at e))
    (λ t.
    ⊎_elim
    (λ h. no (named p.messages h) (rw (coming_message f messages count pairs total p t h) at e))
    (λ h.
    let g = rw (coming_none f messages count pairs total p t h) at e in
    let o : ◌≡◌ {A = Result (Option Line) Refusal} (Ok None) (Err y) = sym g.0 ∙ is in
    absurd (cc o))
    (lt_or_le p.messages count))
  where
    no : {a : Answer (List ℕ)} {q : Place} → Fits (length old) a → Comes (line a q) r old new → ⊥
    no {a} {q} g (answer, told, x) =
        let d = fits_done g x in
        let o : step_of (Ok d.0) q ≡ Err y = sym (told ∙ ap (λ (b : Result ℕ Refusal). step_of b q) d.1) ∙ is in
        absurd (cc o)

-- ---- lines of an accepted frame

-- Laws: each line of a record that stands in a table fits into 2n + 128 bytes.
module _ (sent : Sender) (rooms : Counts) (f : List ℕ) (m : Head) (c : Contents) (used : ℕ) (e : framed sent rooms f ≡ done (m, c) used) (table behind : List ℕ)
    (room : ℕ) (enough : 2 * length f + 128 ≤ room) (k : ℕ) (h : k < 2 ^ 64) where
  pub message_fits : table ≡ joined message_numbers c.messages ++ behind → k < length c.messages → (message_at table k).count < 2 ^ 64
      → Fits room (in_table message_width message_at message_answer f table k)
  message_fits is l few =
      let o = (accepted_room sent rooms f m c used k e h).0 in
      let these = messages_stand sent rooms f m c used e table behind is in
      record {
        bytes = message_line k f (message_at table k);
        is = message_stands sent rooms f m c used e table behind is k l;
        most = omega (arith, enough, each_there (message_at table) (λ (x : Message). x.count < 2 ^ 64 → length (message_line k f x) ≤ 2 * length f + 128) c.messages these o k l few);
      }

  pub pair_fits : table ≡ joined pair_numbers c.pairs ++ behind → k < length c.pairs → Fits room (in_table pair_width pair_at pair_answer f table k)
  pair_fits is l =
      let o = (accepted_room sent rooms f m c used k e h).1 in
      let these = pairs_stand sent rooms f m c used e table behind is in
      record {
        bytes = pair_line k f (pair_at table k);
        is = pair_stands sent rooms f m c used e table behind is k l;
        most = omega (arith, enough, each_there (pair_at table) (λ (p : Pair). length (pair_line k f p) ≤ 2 * length f + 128) c.pairs these o k l);
      }

  pub action_fits : table ≡ joined action_numbers c.actions ++ behind → k < length c.actions → Fits room (in_table action_width action_at action_answer f table k)
  action_fits is l =
      let o = (accepted_room sent rooms f m c used k e h).2 in
      let these = actions_stand sent rooms f m c used e table behind is in
      record {
        bytes = action_line k f (action_at table k);
        is = action_stands sent rooms f m c used e table behind is k l;
        most = omega (arith, enough, each_there (action_at table) (λ (x : Action). length (action_line k f x) ≤ 2 * length f + 128) c.actions these o k l);
      }

-- ---- lines of no record

frame_words : (index : ℕ) (m : Head) (bytes : ℕ)
    → length (frame_line index m bytes) ≡ 32 + length (decimal index) + length (decimal m.frame_type) + length (decimal m.stream) + length (decimal m.frame) + length (decimal bytes)
unfolding frame_line filled
frame_words index m bytes = simp length-append (omega arith)

end_words : (used number at : ℕ) → length (end_line used number at) ≡ 7 + length (decimal used) + length (decimal number) + length (decimal at)
unfolding end_line filled
end_words used number at = simp length-append (omega arith)

-- Laws: their numbers have 64 bits, so 20 digits at most.
pub frame_fits : (index : ℕ) (m : Head) (bytes room : ℕ) → index < 2 ^ 64 → m.frame_type < 2 ^ 64 → m.stream < 2 ^ 64 → m.frame < 2 ^ 64 → bytes < 2 ^ 64
    → 132 ≤ room → Fits room (written (frame_line index m bytes))
frame_fits index m bytes room a b c d e h =
    record {
      bytes = frame_line index m bytes;
      is = refl;
      most = omega (
        arith,
        h,
        frame_words index m bytes,
        decimal_most index a,
        decimal_most m.frame_type b,
        decimal_most m.stream c,
        decimal_most m.frame d,
        decimal_most bytes e,
      );
    }

pub end_fits : (used number at room : ℕ) → used < 2 ^ 64 → number < 2 ^ 64 → at < 2 ^ 64 → 67 ≤ room → Fits room (written (end_line used number at))
end_fits used number at room a b c h =
    record {
      bytes = end_line used number at;
      is = refl;
      most = omega (arith, h, end_words used number at, decimal_most used a, decimal_most number b, decimal_most at c);
    }
