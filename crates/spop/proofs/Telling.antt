-- The ways to keep what a call under a C name promises.
use mathlib.Core.Path.{◌≡◌, refl, sym, ap, ◌∙◌, subst}
use mathlib.Core.List.{List}
use Prim.Native.Nat.{ℕ}
use lib.ListN.{length}
use Rattle.answer.specs.declared.Refusal.{Refusal}
use Rattle.answer.specs.Reason.{number_of}
use Rattle.std.specs.Prelude.{Result}
use Rattle.frame.specs.declared.Stop.{Stop}
use Rattle.frame.specs.declared.Stop.TheVariants as stop
use Rattle.frame.specs.Promise.{stop_said}
use Rattle.answer.specs.Answer.{Answer, done, refused, tells, within}
use Rattle.answer.specs.Writes.{said, Writes}
use Rattle.answer.proofs.Cases.{not_both}
use Rattle.frame.specs.declared.Head.{Head}
use Rattle.frame.specs.declared.Side.{Side}
use Rattle.frame.specs.Read.{Reading, wait, answered, answer_of}
use Rattle.frame.proofs.Answers.{wait_same, wait_answered, answered_same}
use Rattle.answer.proofs.Answers.{refused_as}
use Rattle.payload.specs.declared.Counts.{Counts}
use Rattle.payload.specs.Payload.{Contents}
use Rattle.payload.specs.Promise.{counts_of}
use Rattle.parser.specs.Promise.{frame_tells}
use Rattle.buffer.specs.declared.FramesRead.{FramesRead}
use Rattle.buffer.specs.Buffer.{FramesTold}
use Rattle.buffer.specs.Promise.{ReadFrames}
use Rattle.parser.proofs.Entries.{said_done}
use Rattle.spop.specs.Told.{result_of, at_of, value_or, Told, Left}
use Rattle.spop.specs.Inner.{stop_answer}
use Rattle.spop.specs.Values.{head_numbers, total_numbers}
use Rattle.spop.specs.Promise.{HeadTold, SpopReadFrames}

-- a reader was told a value, or a refusal
module _ {A B : Type 0} {a : Answer A} (form : A → B) (before : B) where
  kept : {b : Answer A} → a ≡ b → value_or form b before ≡ value_or form a before
  kept e = sym (ap (λ (x : Answer A). value_or form x before) e)

  pub told_done : {value : A} {n : ℕ} → a ≡ done value n → Told a 0 n × (form value ≡ value_or form a before)
  told_done e = (record { says = sym (ap result_of e); where_at = sym (ap at_of e) }, kept e)

  pub told_refused : {number place r at : ℕ} → a ≡ refused number place → (r ≡ number) × (at ≡ place) → Told a r at × (before ≡ value_or form a before)
  told_refused e t = (record { says = t.0 ∙ sym (ap result_of e); where_at = t.1 ∙ sym (ap at_of e) }, kept e)

-- a writer's own answer has the count alone, which is all that is told of it
number_tells : (a : Answer (List ℕ)) → result_of (tells a) ≡ result_of a
number_tells (done value n) = refl
number_tells (refused number place) = refl

at_tells : (a : Answer (List ℕ)) → at_of (tells a) ≡ at_of a
at_tells (done value n) = refl
at_tells (refused number place) = refl

pub left_writes : {a : Answer (List ℕ)} {w : Result ℕ Refusal} {old new : List ℕ} {r at : ℕ} → Writes a w old new → Told (said w) r at → Left a r at old new
left_writes {a} {old = old} p t =
    let b = within (length old) a in (
      record {
        says = t.says ∙ ap result_of p.says ∙ number_tells b;
        where_at = t.where_at ∙ ap at_of p.says ∙ at_tells b;
      },
      p.holds,
    )

-- ---- what the frame readers said, in numbers

-- what a frame is that is said to be waited for, or to be refused
said_wait : (x : Reading (Head × Contents)) (n : ℕ) → wait n ≡ frame_tells x → answer_of x ≡ refused 1 n
said_wait (wait m) n e = ap (λ (k : ℕ). refused 1 k) (sym (wait_same e))
said_wait (answered a) n e = wait_answered e

said_refused : (x : Reading (Head × Contents)) (number place : ℕ) → answered (refused number place) ≡ frame_tells x → answer_of x ≡ refused number place
said_refused (wait n) number place e = wait_answered (sym e)
said_refused (answered (done y used)) number place e = not_both (answered_same e) refl
said_refused (answered (refused n p)) number place e = sym (refused_as (answered_same e))

-- each is the answer's, and the head's numbers are its own or stay as they were
module _ (side : Side) (before : List ℕ) (x : Reading (Head × Contents)) where
  abbrev form : Head × Contents → List ℕ
  form y = head_numbers side y.0 (counts_of y.1)

  pub head_done : (h : Head) (k : Counts) (n : ℕ) {numbers : List ℕ} → answered (done (h, k) n) ≡ frame_tells x → numbers ≡ head_numbers side h k → HeadTold side x 0 n before numbers
  head_done h k n e is =
      let o = said_done x h k n e in
      let t = told_done form before (ap answer_of o.1) in
      (t.0, is ∙ ap (head_numbers side h) (sym o.2) ∙ t.1)

  pub head_wait : (n : ℕ) → wait n ≡ frame_tells x → HeadTold side x 1 n before before
  head_wait n e = told_refused form before (said_wait x n e) (refl, refl)

  pub head_refused : (number place : ℕ) {r at : ℕ} → answered (refused number place) ≡ frame_tells x → (r ≡ number) × (at ≡ place) → HeadTold side x r at before before
  head_refused number place e t = told_refused form before (said_refused x number place e) t

  -- so it is where there is no frame
  pub head_stopped : (e : Stop) {r at : ℕ} → stop_said e ≡ frame_tells x → Told (stop_answer e) r at → HeadTold side x r at before before
  head_stopped (stop.Wait n) {r} {at} e t = subst (λ (k : ℕ). HeadTold side x k at before before) (sym t.says) (subst (λ (k : ℕ). HeadTold side x 1 k before before) (sym t.where_at) (head_wait n e))
  head_stopped (stop.Refused why) e t = head_refused (number_of why.reason) why.place e (t.says, t.where_at)

-- ---- what the reader of a buffer said

pub frames_told : {input : List ℕ} {limit : ℕ} {x : FramesRead} {old_rows new_rows old_messages new_messages old_pairs new_pairs : List ℕ} {r at : ℕ}
    → ReadFrames input limit x old_rows new_rows old_messages new_messages old_pairs new_pairs → Told (stop_answer x.stop) r at
    → SpopReadFrames input limit r at (total_numbers x.totals) old_rows new_rows old_messages new_messages old_pairs new_pairs
frames_told e t =
    let stop = ap (λ (y : FramesTold). answer_of y.stop) e.says in
    record {
      told = record { says = t.says ∙ ap result_of stop; where_at = t.where_at ∙ ap at_of stop };
      sums = ap (λ (y : FramesTold). total_numbers y.totals) e.says;
      fills = e.fills;
    }
