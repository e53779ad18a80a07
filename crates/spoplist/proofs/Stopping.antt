-- Laws about where a listing stops: how it goes on behind a frame, and what the reader's answer is.
use mathlib.Core.Path.{◌≡◌, refl, sym, ap, ap₂, ◌∙◌}
use mathlib.Core.List.{List}
use Prim.Native.Nat.{ℕ, zero, suc, ◌+◌, ◌≤◌, ◌<◌}
use native.Mathlib.Omega.{arith}
use lib.ListN.{length, drop, length-drop}
use lib.Seq.{drop-drop}
use borrow.Author.Tests.{lt-ltb, le-ltb}
use Rattle.answer.specs.Answer.{Answer, done, refused}
use Rattle.answer.specs.Reason.{number_of}
use Rattle.answer.proofs.Cases.{not_both}
use Rattle.frame.specs.declared.Head.{Head}
use Rattle.frame.specs.declared.Side.{Side}
use Rattle.frame.specs.declared.Stop.{Stop}
use Rattle.frame.specs.declared.Stop.TheVariants as stop
use Rattle.frame.specs.Promise.{stop_said}
use Rattle.frame.specs.Read.{Reading, wait, answered, answer_of}
use Rattle.frame.proofs.Answers.{answered_same, wait_same, wait_answered}
use Rattle.answer.proofs.Answers.{refused_same}
use Rattle.payload.specs.declared.Counts.{Counts}
use Rattle.payload.specs.Payload.{Contents}
use Rattle.parser.specs.Frame.{frame_read}
use Rattle.parser.specs.Promise.{frame_tells}
use Rattle.parser.proofs.Entries.{said_done}
use Rattle.parser.proofs.Frames.{frame_cut}
use Rattle.spoplist.specs.Listing.{taken, stop_from, stop_of}
use Rattle.std.specs.Prelude.{Some}
use Rattle.spoplist.specs.Inner.{end_number, end_place, limit, rooms, Accepts, read_in, side_in}

-- ---- what a reader said

said_wait : (x : Reading (Head × Contents)) (n : ℕ) → wait n ≡ frame_tells x → taken x ≡ refused 1 n
said_wait (wait m) n e = ap (refused 1) (sym (wait_same e))
said_wait (answered a) n e = wait_answered e

said_refused : (x : Reading (Head × Contents)) (number place : ℕ) → answered (refused number place) ≡ frame_tells x → taken x ≡ refused number place
said_refused (wait m) number place e = wait_answered (sym e)
said_refused (answered (refused m p)) number place e = let o = refused_same (answered_same e) in ap₂ refused (sym o.0) (sym o.1)
said_refused (answered (done y u)) number place e = not_both refl (sym (answered_same e))

-- so what is said of a frame that there is not is what it takes
pub said_stopped : (x : Reading (Head × Contents)) (e : Stop) → stop_said e ≡ frame_tells x → taken x ≡ answer_of (stop_said e)
said_stopped x (stop.Wait n) e = said_wait x n e
said_stopped x (stop.Refused r) e = said_refused x (number_of r.reason) r.place e

side_taken : (x : Side) (limit : ℕ) (rooms : Counts) (s : List ℕ) (h : Head) (k : Counts) (used : ℕ) → answered (done (h, k) used) ≡ frame_tells (frame_read x limit rooms s)
    → Accepts s (taken (frame_read x limit rooms s)) used
side_taken x limit rooms s h k used e =
    let o = said_done (frame_read x limit rooms s) h k used e in
    let c = frame_cut x limit rooms s h o.0 used o.1 in
    record { is = ap taken o.1; some = omega (arith, c.four); most = c.there }

pub said_taken : (x : Side) (s : List ℕ) (h : Head) (k : Counts) (used : ℕ) → answered (done (h, k) used) ≡ frame_tells (read_in x s)
    → Accepts s (side_in x s) used
said_taken x s h k used e = side_taken x limit (rooms x) s h k used e

-- ---- how it goes on

-- What is left from a place on comes to this stop.
pub record Stopping (read : List ℕ → Answer Unit) (input : List ℕ) (at : ℕ) : Type 0 where
  pub fuel : ℕ
  pub enough : length input ≤ at + fuel
  pub is : stop_of read input ≡ stop_from read fuel at (drop at input)

pub stopping_none : (read : List ℕ → Answer Unit) (input : List ℕ) → Stopping read input 0
stopping_none read input = record { fuel = length input; enough = omega arith; is = refl }

module _ {read : List ℕ → Answer Unit} {input : List ℕ} {at : ℕ} (g : Stopping read input at) where
  module _ (h : at < length input) where
    long : 0 < length (drop at input)
    long = omega (arith, length-drop at input)

    -- behind a frame
    go_on : (k used : ℕ) → length input ≤ at + k → 1 ≤ used → read (drop at input) ≡ done tt used
        → stop_of read input ≡ stop_from read k at (drop at input) → Stopping read input (at + used)
    unfolding stop_from
    go_on zero used l s is e = absurd (omega arith)
    go_on (suc k) used l s is e =
        record { fuel = k; enough = omega arith; is = e ∙ rw (lt-ltb 0 (length (drop at input)) long, is) (ap (stop_from read k (at + used)) (drop-drop used at input)) }

    pub stopping_on : (used : ℕ) → Accepts (drop at input) (read (drop at input)) used → Stopping read input (at + used)
    stopping_on used t = go_on g.fuel used g.enough t.some t.is g.is

    -- at one that is not accepted
    stops : (k number place : ℕ) → length input ≤ at + k → read (drop at input) ≡ refused number place
        → stop_from read k at (drop at input) ≡ record { used = at; number = number; at = place }
    unfolding stop_from
    stops zero number place l is = absurd (omega arith)
    stops (suc k) number place l is = rw (lt-ltb 0 (length (drop at input)) long, is)

    pub stopping_stop : (e : Stop) → read (drop at input) ≡ answer_of (stop_said e)
        → stop_of read input ≡ record { used = at; number = end_number (Some e); at = end_place (Some e) }
    stopping_stop (stop.Wait n) is = g.is ∙ stops g.fuel 1 n g.enough is
    stopping_stop (stop.Refused r) is = g.is ∙ stops g.fuel (number_of r.reason) r.place g.enough is

  -- and where no byte is left
  over : length input ≤ at → (k : ℕ) → stop_from read k at (drop at input) ≡ record { used = at; number = 0; at = 0 }
  unfolding stop_from
  over h zero = refl
  over h (suc k) = rw (le-ltb 0 (length (drop at input)) (omega (arith, length-drop at input)))

  pub stopping_over : length input ≤ at → stop_of read input ≡ record { used = at; number = 0; at = 0 }
  stopping_over h = g.is ∙ over h g.fuel
