-- Kept, the entries: an accepted frame leaves the same records in larger tables, whichever side sent it.
use mathlib.Core.Path.{◌≡◌, refl, sym, ap, ap₂, ◌∙◌}
use mathlib.Core.List.{List, ◌++◌}
use Prim.Native.Nat.{ℕ, ◌*◌, ◌≤◌}
use lib.ListN.{length, take, drop}
use lib.Seq.{take_at, drop_at}
use Rattle.answer.specs.Answer.{done, refused, written, leaves}
use Rattle.answer.specs.Table.{joined}
use Rattle.answer.proofs.Cases.{not_both}
use Rattle.frame.specs.declared.Head.{Head}
use Rattle.frame.specs.declared.Side.{Side}
use Rattle.frame.specs.Read.{Reading, wait, answered}
use Rattle.frame.specs.Records.{message_width, message_numbers, pair_width, pair_numbers, action_width, action_numbers}
use Rattle.frame.proofs.Answers.{wait_answered, answered_same}
use Rattle.answer.proofs.Answers.{done_same}
use Rattle.payload.specs.declared.Counts.{Counts}
use Rattle.payload.specs.Payload.{Contents}
use Rattle.payload.specs.Promise.{counts_of, table_left}
use Rattle.payload.proofs.Filling.{joined_width}
use Rattle.payload.proofs.Kept.{Within}
use Rattle.std.specs.Prelude.{Result}
use Rattle.answer.specs.declared.Read.{Read}
use Rattle.frame.specs.declared.Stop.{Stop}
use Rattle.parser.specs.declared.Frame.{Frame}
use Rattle.parser.specs.Frame.{frame_read}
use Rattle.parser.specs.Promise.{frame_said, frame_tells, contents_read, FrameFills}
use Rattle.parser.proofs.Kept.{accepted_kept}
use Rattle.parser.proofs.Unique.{frame_done, frame_same}

-- what a frame is that is said to be accepted
pub said_done : (x : Reading (Head × Contents)) (h : Head) (k : Counts) (used : ℕ) → answered (done (h, k) used) ≡ frame_tells x
    → (c : Contents) × (x ≡ answered (done (h, c) used)) × (counts_of c ≡ k)
said_done (wait n) h k used e = wait_answered (sym e)
said_done (answered (done (g, c) u)) h k used e =
    let o = done_same (answered_same e) in
    let same : h ≡ g = ap (λ (y : Head × Counts). y.0) o.0 in
    (c, ap₂ (λ (y : Head) (n : ℕ). answered (done (y, c) n)) (sym same) (sym o.1), ap (λ (y : Head × Counts). y.1) (sym o.0))
said_done (answered (refused n place)) h k used e = not_both refl (answered_same e)

-- two tables have the same n records in front, and behind them the second is as it was
pub record SameEntries (width n : ℕ) (table old new : List ℕ) : Type 0 where
  pub front : take (n * width) new ≡ take (n * width) table
  pub behind : drop (n * width) new ≡ drop (n * width) old

-- records of one width that were left in both are the same there
same_left : {A : Type 0} (numbers : A → List ℕ) (width : ℕ) → ((x : A) → length (numbers x) ≡ width) → (xs : List A) (n : ℕ) → length xs ≡ n → (a table b new : List ℕ)
    → table ≡ leaves (written (joined numbers xs)) a → new ≡ leaves (written (joined numbers xs)) b → SameEntries width n table b new
same_left numbers width each xs n is a table b new e g =
    let long : length (joined numbers xs) ≡ n * width = joined_width numbers width each xs ∙ ap (λ (k : ℕ). k * width) is in
    record {
      front = ap (take (n * width)) g ∙ take_at (joined numbers xs) _ (n * width) long ∙ sym (ap (take (n * width)) e ∙ take_at (joined numbers xs) _ (n * width) long);
      behind = ap (drop (n * width)) g ∙ drop_at (joined numbers xs) _ (n * width) long ∙ ap (λ (k : ℕ). drop k b) long;
    }

-- A call that is done with some counts, and the same call with bytes appended, under a limit no lower and with rooms no smaller.
module _ (side : Side) (limit higher : ℕ) (up : limit ≤ higher) (rooms others : Counts) (larger : Within rooms others) (s t : List ℕ) (r q : Result (Read Frame) Stop)
    (messages new_messages pairs new_pairs actions new_actions more_messages next_messages more_pairs next_pairs more_actions next_actions : List ℕ)
    (one : FrameFills (frame_read side limit rooms s) r messages new_messages pairs new_pairs actions new_actions)
    (two : FrameFills (frame_read side higher others (s ++ t)) q more_messages next_messages more_pairs next_pairs more_actions next_actions)
    (h : Head) (n : Counts) (used : ℕ) (is : r ≡ frame_done h n used) where
  found : (c : Contents) × (frame_read side limit rooms s ≡ answered (done (h, c) used)) × (counts_of c ≡ n)
  found = said_done (frame_read side limit rooms s) h n used (ap frame_said (sym is) ∙ one.says)

  again : frame_read side higher others (s ++ t) ≡ answered (done (h, found.0) used)
  again = accepted_kept side limit higher up rooms s t (h, found.0) used found.1 others larger

  -- what both leave in a table of one sort
  entries : {A : Type 0} (numbers : A → List ℕ) (width : ℕ) → ((x : A) → length (numbers x) ≡ width) → (records : Contents → List A) (count : ℕ) → length (records found.0) ≡ count
      → (a table b new : List ℕ) → table ≡ table_left numbers records (contents_read (frame_read side limit rooms s)) a
      → new ≡ table_left numbers records (contents_read (frame_read side higher others (s ++ t))) b → SameEntries width count table b new
  entries numbers width each records count many a table b new e g =
      same_left numbers width each (records found.0) count many a table b new
      (e ∙ ap (λ (x : Reading (Head × Contents)). table_left numbers records (contents_read x) a) found.1)
      (g ∙ ap (λ (x : Reading (Head × Contents)). table_left numbers records (contents_read x) b) again)

  -- Kept, the entries: it says the same, the tables have the same entries in front, and behind them they are as they were.
  pub entries_kept : (q ≡ frame_done h n used)
      × SameEntries message_width n.messages new_messages more_messages next_messages
      × SameEntries pair_width n.pairs new_pairs more_pairs next_pairs
      × SameEntries action_width n.actions new_actions more_actions next_actions
  entries_kept =
      let k = found.2 in (
        frame_same q (frame_done h n used) (two.says ∙ ap frame_tells again ∙ ap (λ (m : Counts). answered (done (h, m) used)) k),
        entries message_numbers message_width (λ x. refl) (λ c. c.messages) n.messages (ap (λ (m : Counts). m.messages) k) _ _ _ _ one.fills.messages two.fills.messages,
        entries pair_numbers pair_width (λ x. refl) (λ c. c.pairs) n.pairs (ap (λ (m : Counts). m.pairs) k) _ _ _ _ one.fills.pairs two.fills.pairs,
        entries action_numbers action_width (λ x. refl) (λ c. c.actions) n.actions (ap (λ (m : Counts). m.actions) k) _ _ _ _ one.fills.actions two.fills.actions,
      )
