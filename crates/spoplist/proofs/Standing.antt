-- Laws about lines that are not refused: of a frame that was read, whichever side sent it, the records stand in the tables; and so each has a line that
-- lies in the bytes lent.
use mathlib.Core.Path.{◌≡◌, refl, sym, ap, ◌∙◌}
use mathlib.Core.List.{List, [], ◌∷◌, ◌++◌}
use Prim.Native.Nat.{ℕ, ◌+◌, ◌*◌, ◌^◌, ◌≤◌, ◌<◌}
use native.Mathlib.Omega.{arith}
use lib.ListN.{length, take, get_or}
use lib.Seq.{length-take-le}
use Rattle.std.specs.Prelude.{Result, Ok, Err}
use Rattle.answer.specs.declared.Read.{Read}
use Rattle.answer.specs.declared.Refusal.{Refusal}
use Rattle.answer.specs.Answer.{Answer, done}
use Rattle.answer.specs.Table.{holds, joined}
use Rattle.answer.specs.Writes.{counted, Writes}
use Rattle.answer.proofs.Cases.{bool_cases}
use Rattle.frame.specs.declared.Head.{Head}
use Rattle.frame.specs.declared.Side.{Side}
use Rattle.frame.specs.declared.Side.TheVariants as side
use Rattle.frame.specs.Read.{answered, sender}
use Rattle.frame.specs.Records.{message_width, message_at, message_numbers, pair_width, pair_at, pair_numbers, action_width, action_at, action_numbers}
use Rattle.payload.specs.declared.Counts.{Counts}
use Rattle.payload.specs.Payload.{Contents}
use Rattle.payload.specs.Promise.{counts_of, Fills}
use Rattle.frame.specs.declared.Stop.{Stop}
use Rattle.parser.specs.declared.Frame.{Frame}
use Rattle.parser.specs.Frame.{frame_read}
use Rattle.parser.specs.Promise.{frame_said, frame_tells, contents_read}
use Rattle.parser.proofs.Entries.{said_done}
use Rattle.parser.proofs.Frames.{Cut, frame_cut}
use Rattle.listing.specs.Check.{message_answer, pair_answer, action_answer}
use Rattle.listing.specs.Order.{in_table}
use Rattle.listing.proofs.Fitting.{Fits, fits_done, message_fits, pair_fits, action_fits}
use Rattle.spoplist.specs.declared.Tables.{Tables}
use Rattle.spoplist.specs.Inner.{limit, ReadsIn, Stands, StandMessages, StandPairs, StandActions, Lies}

-- ---- a line lies in the bytes lent

pub lies_counted : (r : Result ℕ Refusal) (out : List ℕ) → Lies r out → counted r ≤ length out
lies_counted (Ok n) out h = h
lies_counted (Err r) out h = absurd h

-- Law: one that fits does, once it is written.
pub fits_lies : {a : Answer (List ℕ)} {r : Result ℕ Refusal} {old new : List ℕ} → Fits (length old) a → Writes a r old new → length new ≡ length old → Lies r new
fits_lies g x e = let d = fits_done g x in rw d.1 (omega (arith, d.2, e))

-- a number of a table is one of its words, or 0
pub count_below : (table : List ℕ) → ((n : ℕ) → get_or table n 0 < 2 ^ 64) → (i : ℕ) → (message_at table i).count < 2 ^ 64
unfolding message_at
count_below table each i = bool_cases (holds message_width table (i + 1)) (λ t. rw t (each (i * message_width + 3))) (λ t. rw t (omega arith))

-- Laws: each of the records that stand in a table fits, where it is one of less than 2^64 and there is room for the frame's lines.
module _ (f table : List ℕ) (count room : ℕ) (enough : 2 * length f + 128 ≤ room) (few : count < 2 ^ 64) (k : ℕ) (h : k < count) where
  pub message_stood : StandMessages f table count → (message_at table k).count < 2 ^ 64 → Fits room (in_table message_width message_at message_answer f table k)
  message_stood x l =
      message_fits x.sent x.rooms f x.head x.contents x.used x.accepted table x.behind room enough k (omega arith) x.front (omega (arith, x.many)) l

  pub pair_stood : StandPairs f table count → Fits room (in_table pair_width pair_at pair_answer f table k)
  pair_stood x =
      pair_fits x.sent x.rooms f x.head x.contents x.used x.accepted table x.behind room enough k (omega arith) x.front (omega (arith, x.many))

  pub action_stood : StandActions f table count → Fits room (in_table action_width action_at action_answer f table k)
  action_stood x =
      action_fits x.sent x.rooms f x.head x.contents x.used x.accepted table x.behind room enough k (omega arith) x.front (omega (arith, x.many))

-- ---- a frame that was read

-- records that stand in an empty table are none, so they stand in any
stands_none : {A : Type 0} {numbers : A → List ℕ} {sort : Contents → List A} {f : List ℕ} {count : ℕ} (table : List ℕ) → Stands numbers sort f [] count
    → Stands numbers sort f table count
stands_none {A} {numbers} {sort} table x =
    record {
      sent = x.sent;
      rooms = x.rooms;
      head = x.head;
      contents = x.contents;
      used = x.used;
      accepted = x.accepted;
      many = x.many;
      behind = table;
      front = ap (λ (l : List ℕ). l ++ table) (sym (empty (joined numbers (sort x.contents)) x.front));
    }
  where
    empty : (l : List ℕ) → [] ≡ l ++ x.behind → l ≡ []
    empty [] e = refl
    empty (n ∷ l) e = absurd (omega (arith, ap length e))

-- Its records of each sort stand in their table, and it has the bytes that the limit allows at most.
pub record Stood (f messages pairs actions : List ℕ) (k : Counts) : Type 0 where
  pub in_messages : StandMessages f messages k.messages
  pub in_pairs_lem : StandPairs f pairs k.pairs
  pub in_actions : StandActions f actions k.actions
  pub short : length f ≤ 4 + limit

side_stood : (x : Side) (rooms : Counts) (s old_messages messages old_pairs pairs old_actions actions : List ℕ) (h : Head) (k : Counts) (used : ℕ)
    → answered (done (h, k) used) ≡ frame_tells (frame_read x limit rooms s) → Fills (contents_read (frame_read x limit rooms s)) old_messages messages old_pairs pairs old_actions actions
    → Stood (take used s) messages pairs actions k
side_stood x rooms s old_messages messages old_pairs pairs old_actions actions h k used e fills =
    record {
      in_messages = stand message_numbers (λ c. c.messages) messages (ap (λ (n : Counts). n.messages) o.2) _ (rw o.1 at fills.messages);
      in_pairs_lem = stand pair_numbers (λ c. c.pairs) pairs (ap (λ (n : Counts). n.pairs) o.2) _ (rw o.1 at fills.pairs);
      in_actions = stand action_numbers (λ c. c.actions) actions (ap (λ (n : Counts). n.actions) o.2) _ (rw o.1 at fills.actions);
      short = omega (arith, length-take-le used s cut.there, cut.says, cut.fits);
    }
  where
    o : (c : Contents) × (frame_read x limit rooms s ≡ answered (done (h, c) used)) × (counts_of c ≡ k)
    o = said_done (frame_read x limit rooms s) h k used e

    cut : Cut x limit rooms s h o.0 used
    cut = frame_cut x limit rooms s h o.0 used o.1

    stand : {A : Type 0} (numbers : A → List ℕ) (sort : Contents → List A) (table : List ℕ) {count : ℕ} → length (sort o.0) ≡ count
        → (behind : List ℕ) → table ≡ joined numbers (sort o.0) ++ behind → Stands numbers sort (take used s) table count
    stand numbers sort table many behind front =
        record { sent = sender x; rooms = rooms; head = h; contents = o.0; used = used; accepted = cut.is; many = many; behind = behind; front = front }

-- Law: after a frame was read.
pub read_stood : (x : Side) (s : List ℕ) (old new : Tables) {r : Result (Read Frame) Stop} (read : Read Frame)
    → r ≡ Ok read → ReadsIn x s r old new → Stood (take read.used s) new.messages new.pairs new.actions read.value.counts
read_stood side.Agents s old new read is x =
    let y = side_stood _ _ s _ _ _ _ _ _ read.value.head read.value.counts read.used (ap frame_said (sym is) ∙ x.says) x.fills in
    record { in_messages = stands_none new.messages y.in_messages; in_pairs_lem = y.in_pairs_lem; in_actions = y.in_actions; short = y.short }
read_stood side.HAProxy s old new read is x =
    let y = side_stood _ _ s _ _ _ _ _ _ read.value.head read.value.counts read.used (ap frame_said (sym is) ∙ x.says) x.fills in
    record { in_messages = y.in_messages; in_pairs_lem = y.in_pairs_lem; in_actions = stands_none new.actions y.in_actions; short = y.short }
