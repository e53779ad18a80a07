-- What a writer does with n records that a reader left of an accepted frame f, with f as its buffer: said once, over which of them have UTF-8 texts, that is are
-- well, and which are plain. It goes from what a writer refuses of one record, and what bytes all of them are, to what the writer's caller learns.
use mathlib.Core.Path.{◌≡◌, refl, sym, ap, ◌∙◌}
use mathlib.Core.Bool.{Bool, true, false, cond}
use mathlib.Core.Logic.{◌⊎◌, inl, inr, ⊎_elim}
use mathlib.Core.List.{List, [], ◌++◌, append-nil}
use Prim.Native.Nat.{ℕ, zero, suc, ◌+◌, ◌*◌, ◌≤◌, ◌<◌}
use native.Mathlib.Omega.{arith}
use lib.Dec.{leb}
use lib.ListN.{length, take, drop, length-append}
use lib.Seq.{drop-length}
use borrow.Author.Tests.{le-leb}
use Rattle.std.specs.Prelude.{Result, Ok, Err}
use Rattle.answer.specs.declared.Reason.TheVariants as reason
use Rattle.answer.specs.declared.Reason.{Reason}
use Rattle.answer.specs.Reason.{number_of}
use Rattle.answer.specs.declared.Refusal.{Refusal}
use Rattle.answer.specs.Answer.{Answer, done, refused, written}
use Rattle.answer.specs.Writes.{said, Writes}
use Rattle.answer.specs.Order.{Check, in_order, each_in_order}
use Rattle.answer.specs.Inner.{Passes, Sound}
use Rattle.answer.specs.Table.{records, joined}
use Rattle.answer.proofs.Cases.{lt_or_le, bool_cases, true_false, not_both}
use Rattle.answer.proofs.Order.{Numbered, passes_zero, Refuses, lines_refuse, each_pass, each_refuse}
use Rattle.answer.proofs.Output.{writes_done}
use Rattle.answer.proofs.Answers.{refused_same}
use Rattle.answer.proofs.Same.{refusal_same, said_same}
use Rattle.answer.proofs.Each.{Each, each_record, each_at}
use Rattle.frame.specs.declared.Head.{Head}
use Rattle.frame.specs.Head.{four_bytes, head_bytes, frame_bytes}
use Rattle.frame.proofs.Laws.{four_long}
use Rattle.writer.specs.Frame.{limited}
use Rattle.writer.proofs.Answers.{list_answer, list_held}
use Rattle.roundtrip.proofs.Head.{payload_same}

-- the first n are so
abbrev pub All : (ℕ → Bool) → ℕ → Type 0
All test n = (i : ℕ) → i < n → test i ≡ true

-- A writer with the answer a, which goes by n records: where all are well it writes the frame with this head and this payload, and else refuses the first that is
-- not; and that frame is f exactly where all are plain.
pub record Rewrites (limit : ℕ) (f : List ℕ) (h : Head) (a : Answer (List ℕ)) (n : ℕ) (well plain : ℕ → Bool) : Type 0 where
  pub payload : List ℕ
  pub fits : length f ≤ 4 + limit
  pub taken : All well n → a ≡ limited limit h payload
  pub ill : (i : ℕ) → i < n → well i ≡ false → All well i → a ≡ refused 15 i
  pub same : All plain n → frame_bytes h payload ≡ f
  pub only : frame_bytes h payload ≡ f → All plain n

-- ---- what is refused of records

-- 15 is a refusal
pub fifteen : ◌≡◌ {A = ℕ} 15 0 → ⊥
fifteen z = omega arith

-- checks that pass what is well, and refuse all else with 15
pub record Says (checks : List Check) (well : Bool) : Type 0 where
  pub passes : well ≡ true → Passes checks
  pub refuses : well ≡ false → Refuses checks 15

pub says_number : (checks : List Check) (well : Bool) → Numbered checks → in_order checks 0 ≡ cond well 0 15 → Says checks well
says_number checks well some e = record { passes = λ t. passes_zero checks some (e ∙ rw t); refuses = λ t. lines_refuse checks 15 (sym (e ∙ rw t)) fifteen }

-- those of n records do so
module _ (checks : ℕ → List Check) (n : ℕ) (well : ℕ → Bool) (says : (i : ℕ) → i < n → Says (checks i) (well i)) where
  pub none_ill : All well n → Sound checks n
  none_ill ws = record { each = λ i l. (says i l).passes (ws i l) }

  pub first_ill : (a : Answer (List ℕ)) (i : ℕ) → i < n → well i ≡ false → All well i → each_in_order checks 0 n a ≡ refused 15 i
  first_ill a i l ill ws = each_refuse checks a n i 15 l (record { each = λ k b. (says k (omega arith)).passes (ws k b) }) ((says i l).refuses ill)

-- ---- what they are written as

-- records of a table, by index and one by one
module _ {A : Type 0} (P : A → Type 0) (at : ℕ → A) (n : ℕ) (xs : List A) (hold : records at 0 n ≡ xs) where
  pub each_held : ((i : ℕ) → i < n → P (at i)) → Each P xs
  each_held p = rw hold at (each_record P at n 0 (λ i g l. p i (omega arith)))

  pub held_each : Each P xs → (i : ℕ) → i < n → P (at i)
  held_each g i l = let here : 0 + i ≡ i = omega arith in rw here at (each_at P at n 0 (rw hold g) i l)

-- a frame whose payload starts there, and the frame with another payload
module _ (f : List ℕ) (h : Head) (start : ℕ) (form : f ≡ frame_bytes h (drop start f)) (payload : List ℕ) where
  pub frame_same : drop start f ≡ payload ++ drop (length f) f → frame_bytes h payload ≡ f
  frame_same e = ap (frame_bytes h) (sym (e ∙ ap (λ (l : List ℕ). payload ++ l) (drop-length f) ∙ append-nil payload)) ∙ sym form

  pub frame_only : frame_bytes h payload ≡ f → payload ++ [] ≡ drop start f
  frame_only is = append-nil payload ∙ payload_same h payload (drop start f) (is ∙ form)

-- a frame's length, and one that is these bytes and within the limit
frame_long : (h : Head) (p : List ℕ) → length (frame_bytes h p) ≡ 4 + length (head_bytes h ++ p)
unfolding frame_bytes
frame_long h p = length-append (four_bytes (length (head_bytes h ++ p))) (head_bytes h ++ p) ∙ ap (λ (n : ℕ). n + length (head_bytes h ++ p)) (four_long (length (head_bytes h ++ p)))

limited_whole : (limit : ℕ) (h : Head) (p f : List ℕ) → frame_bytes h p ≡ f → length f ≤ 4 + limit → limited limit h p ≡ written f
unfolding limited in_order
limited_whole limit h p f is l =
    let fits : length (head_bytes h ++ p) ≤ limit = omega (arith, frame_long h p, ap length is) in
    rw (le-leb (length (head_bytes h ++ p)) limit fits) (ap written is)

-- ---- a writer of one list

-- The records xs stand in a table, and in f from start on, up to its end.
module _ {A : Type 0} (limit : ℕ) (f : List ℕ) (h : Head) (start : ℕ) (form : f ≡ frame_bytes h (drop start f)) (fits : length f ≤ 4 + limit)
    (bytes : A → List ℕ) (well plain : A → Bool) (at : ℕ → A) (n : ℕ) (xs : List A) (hold : records at 0 n ≡ xs)
    (forms : Each (λ x. plain x ≡ true) xs → drop start f ≡ joined bytes xs ++ drop (length f) f)
    (only : joined bytes xs ++ [] ≡ drop start f → Each (λ x. plain x ≡ true) xs)
    (allowed : Bool) (may : allowed ≡ true) (width : ℕ) (table : List ℕ) (room : n * width ≤ length table)
    (checks : ℕ → List Check) (says : (i : ℕ) → i < n → Says (checks i) (well (at i))) where
  abbrev all : List ℕ
  all = joined bytes (records at 0 n)

  held : list_answer allowed width table n checks (limited limit h all) ≡ each_in_order checks 0 n (limited limit h all)
  held = list_held allowed width table n checks (limited limit h all) may room

  -- Law: such a writer does so.
  pub list_rewrites : Rewrites limit f h (list_answer allowed width table n checks (limited limit h all)) n (λ i. well (at i)) (λ i. plain (at i))
  list_rewrites =
      record {
        payload = all;
        fits = fits;
        taken = λ ws. held ∙ each_pass checks (limited limit h all) n (none_ill checks n (λ i. well (at i)) says ws);
        ill = λ i l ill ws. held ∙ first_ill checks n (λ i. well (at i)) says (limited limit h all) i l ill ws;
        same = λ ps. rw hold (frame_same f h start form (joined bytes xs) (forms (each_held (λ x. plain x ≡ true) at n xs hold ps)));
        only = λ is. held_each (λ x. plain x ≡ true) at n xs hold (only (rw hold at (frame_only f h start form all is)));
      }

-- ---- what its caller learns

-- an answer that says a refusal is one, of the reason with that number, at that place
said_refused : (out : Result ℕ Refusal) (number place : ℕ) → said out ≡ refused number place
    → (r : Refusal) × (out ≡ Err r) × (number_of r.reason ≡ number) × (r.place ≡ place)
said_refused (Ok n) number place e = not_both {x = done tt n} refl e
said_refused (Err r) number place e = (r, refl, (refused_same e).0, (refused_same e).1)

-- A call that is to write f, with room for it; one that is refused; and one that is to write another frame.
module _ {a : Answer (List ℕ)} {out : Result ℕ Refusal} {old new : List ℕ} (p : Writes a out old new) where
  caller_written : (f : List ℕ) (n : ℕ) → length f ≡ n → a ≡ written f → n ≤ length old → (out ≡ Ok n) × (new ≡ f ++ drop n old)
  caller_written f n long is room =
      let fits = le-leb (length f) (length old) (omega arith) in
      (said_same out (Ok n) (rw (is, fits) at p.says ∙ ap (done tt) long), rw (is, fits) at p.holds ∙ ap (λ (k : ℕ). f ++ drop k old) long)

  pub caller_refused : (number place : ℕ) → a ≡ refused number place
      → ((r : Refusal) × (out ≡ Err r) × (number_of r.reason ≡ number) × (r.place ≡ place)) × (new ≡ old)
  caller_refused number place is = (said_refused out number place (rw is at p.says), rw is at p.holds)

  -- with the reason of that number
  pub caller_refused_for : (why : Reason) (place : ℕ) → a ≡ refused (number_of why) place → (out ≡ Err (record { reason = why; place = place })) × (new ≡ old)
  caller_refused_for why place is =
      let o = caller_refused (number_of why) place is in
      (o.0.1 ∙ ap Err (refusal_same o.0.0 (record { reason = why; place = place }) o.0.2 o.0.3), o.1)

  caller_done : (n : ℕ) → out ≡ Ok n → (number place : ℕ) → a ≡ refused number place → ⊥
  caller_done n is number place e = not_both {x = done tt n} refl (sym (ap said is) ∙ rw e at p.says)

  caller_other : (limit : ℕ) (h : Head) (q f : List ℕ) → a ≡ limited limit h q → (frame_bytes h q ≡ f → ⊥) → (n : ℕ) → out ≡ Ok n → take n new ≡ f → ⊥
  unfolding limited in_order
  caller_other limit h q f is other n told same =
      bool_cases (leb (length (head_bytes h ++ q)) limit)
      (λ t.
      let whole : a ≡ written (frame_bytes h q) = is ∙ rw t in
      other (sym (writes_done (frame_bytes h q) {old = old} {new = new} {r = out} {n = n} (rw whole at p) told).2 ∙ same))
      (λ t. caller_done n told 12 0 (is ∙ rw t))

-- an answer does not tell of both
pub done_refused : {out : Result ℕ Refusal} {n : ℕ} {r : Refusal} → out ≡ Ok n → out ≡ Err r → ⊥
done_refused e g = let z : ◌≡◌ {A = ℕ} 0 1 = cc in omega arith

-- so many tests hold, or there is the first that does not
pub first_or_all : (test : ℕ → Bool) (n : ℕ) → All test n ⊎ ((i : ℕ) × (i < n) × (test i ≡ false) × All test i)
first_or_all test zero = inl (λ i l. absurd (omega arith))
first_or_all test (suc n) =
    ⊎_elim
    (λ all.
    bool_cases (test n)
    (λ t. inl (λ i l. ⊎_elim (λ b. all i b) (λ b. let same : i ≡ n = omega arith in ap test same ∙ t) (lt_or_le i n)))
    (λ t. inr (n, omega arith, t, all)))
    (λ x. inr (x.0, omega (arith, x.1), x.2, x.3))
    (first_or_all test n)

module _ {limit : ℕ} {f : List ℕ} {h : Head} {a : Answer (List ℕ)} {n : ℕ} {well plain : ℕ → Bool} {out : Result ℕ Refusal} {old new : List ℕ}
    (r : Rewrites limit f h a n well plain) (p : Writes a out old new) where
  -- Law: with room for the frame, where all are well and plain, exactly the frame's bytes are written.
  pub wrote_back : (used : ℕ) → length f ≡ used → All well n → All plain n → used ≤ length old → (out ≡ Ok used) × (new ≡ f ++ drop used old)
  wrote_back used long ws ps room = caller_written p f used long (r.taken ws ∙ limited_whole limit h r.payload f (r.same ps) r.fits) room

  -- Law: where one is not well, and all before it are, it is 15 with its index, and no byte is written.
  pub wrote_none : (i : ℕ) → i < n → well i ≡ false → All well i → (out ≡ Err (record { reason = reason.NotText; place = i })) × (new ≡ old)
  wrote_none i l ill ws = caller_refused_for p reason.NotText i (r.ill i l ill ws)

  -- Law: where all are well and one is not plain, what is written, if anything is, is another frame.
  pub wrote_other : All well n → (i : ℕ) → i < n → plain i ≡ false → (k : ℕ) → out ≡ Ok k → take k new ≡ f → ⊥
  wrote_other ws i l differs k = caller_other p limit h r.payload f (r.taken ws) (λ is. true_false (r.only is i l) differs) k

  -- Law: so the frame's bytes are written only where all are well and plain.
  pub wrote_only : (k : ℕ) → out ≡ Ok k → take k new ≡ f → All well n × All plain n
  wrote_only k so same =
      ⊎_elim
      (λ ws. ⊎_elim (λ ps. (ws, ps)) (λ y. absurd (wrote_other ws y.0 y.1 y.2 k so same)) (first_or_all plain n))
      (λ y. absurd (done_refused so (wrote_none y.0 y.1 y.2 y.3).0))
      (first_or_all well n)
