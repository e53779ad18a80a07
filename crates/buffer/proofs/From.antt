-- Laws about the frames behind what was read: what the single reader's answer there makes of them.
use mathlib.Core.Path.{◌≡◌, refl, sym, ap, ap₂, subst}
use mathlib.Core.List.{List}
use Prim.Native.Nat.{ℕ, zero, suc}
use Rattle.answer.specs.Answer.{done, refused}
use Rattle.answer.proofs.Cases.{not_both}
use Rattle.answer.proofs.Answers.{refused_same}
use Rattle.frame.specs.declared.Head.{Head}
use Rattle.frame.specs.Read.{Reading, wait, answered}
use Rattle.frame.proofs.Answers.{wait_same, wait_answered, answered_same, reading_cases}
use Rattle.payload.specs.declared.Counts.{Counts}
use Rattle.payload.specs.Payload.{Contents}
use Rattle.std.specs.Prelude.{Result, Ok, Err}
use Rattle.answer.specs.declared.Read.{Read}
use Rattle.answer.specs.Reason.{number_of}
use Rattle.frame.specs.declared.Stop.{Stop}
use Rattle.frame.specs.declared.Stop.TheVariants as stop
use Rattle.frame.specs.Promise.{stop_said}
use Rattle.parser.specs.declared.Frame.{Frame}
use Rattle.parser.specs.Promise.{frame_said, frame_tells}
use Rattle.parser.proofs.Entries.{said_done}
use Rattle.buffer.specs.declared.Totals.{Totals}
use Rattle.buffer.specs.Buffer.{FrameIn, FramesIn, with_read, stopped, frame_first, frame_behind, frames_from}
use Rattle.buffer.specs.Inner.{stop_of}

-- what a frame comes to that is said to wait, or to be refused
pub said_wait : (x : Reading (Head × Contents)) (n : ℕ) → wait n ≡ frame_tells x → x ≡ wait n
said_wait (wait m) n e = ap wait (sym (wait_same e))
said_wait (answered (done y used)) n e = wait_answered e
said_wait (answered (refused number place)) n e = wait_answered e

pub said_refused : (x : Reading (Head × Contents)) (n p : ℕ) → answered (refused n p) ≡ frame_tells x → x ≡ answered (refused n p)
said_refused (wait m) n p e = wait_answered (sym e)
said_refused (answered (done y used)) n p e = not_both refl (sym (answered_same e))
said_refused (answered (refused number place)) n p e =
    let o = refused_same (answered_same e) in ap₂ (λ (a b : ℕ). answered (refused a b)) (sym o.0) (sym o.1)

pub said_stop : (x : Reading (Head × Contents)) (e : Stop) → stop_said e ≡ frame_tells x → x ≡ stop_said e
said_stop x (stop.Wait n) e = said_wait x n e
said_stop x (stop.Refused r) e = said_refused x (number_of r.reason) r.place e

-- the frame that is read there
abbrev pub frame_there : Totals → Head × Contents → ℕ → FrameIn
frame_there x y used = record { before = x; head = y.0; contents = y.1; used = used }

module _ (limit : ℕ) (rooms : Counts) (s : List ℕ) where
  pub from_wait : (n : ℕ) (x : Totals) (missing : ℕ) → frame_behind limit rooms s x ≡ wait missing → frames_from limit rooms s n x ≡ stopped x (wait missing)
  unfolding frames_from
  from_wait zero x missing e = rw e
  from_wait (suc n) x missing e = rw e

  pub from_refused : (n : ℕ) (x : Totals) (number place : ℕ) → frame_behind limit rooms s x ≡ answered (refused number place)
      → frames_from limit rooms s n x ≡ stopped x (answered (refused number place))
  unfolding frames_from
  from_refused zero x number place e = rw e
  from_refused (suc n) x number place e = rw e

  pub from_full : (x : Totals) (y : Head × Contents) (used : ℕ) → frame_behind limit rooms s x ≡ answered (done y used)
      → frames_from limit rooms s 0 x ≡ stopped x (answered (refused 10 used))
  unfolding frames_from
  from_full x y used e = rw e

  pub from_done : (n : ℕ) (x : Totals) (y : Head × Contents) (used : ℕ) → frame_behind limit rooms s x ≡ answered (done y used)
      → frames_from limit rooms s (suc n) x ≡ frame_first (frame_there x y used) (frames_from limit rooms s n (with_read x y.1 used))
  unfolding frames_from
  from_done n x y used e = rw e

  pub from_stop : (n : ℕ) (x : Totals) (e : Stop) → frame_behind limit rooms s x ≡ stop_said e → frames_from limit rooms s n x ≡ stopped x (stop_said e)
  from_stop n x (stop.Wait missing) is = from_wait n x missing is
  from_stop n x (stop.Refused r) is = from_refused n x (number_of r.reason) r.place is

  -- Law: where no row is left, what is said of the frame there stops it.
  pub from_none : (x : Totals) (r : Result (Read Frame) Stop) → frame_said r ≡ frame_tells (frame_behind limit rooms s x)
      → frames_from limit rooms s 0 x ≡ stopped x (stop_said (stop_of r))
  from_none x (Ok y) e = let o = said_done (frame_behind limit rooms s x) y.value.head y.value.counts y.used e in from_full x (y.value.head, o.0) y.used o.1
  from_none x (Err q) e = from_stop 0 x q (said_stop (frame_behind limit rooms s x) q e)

  -- A law about the frames behind what was read goes by the single reader's answers.
  pub by_frames : (P : ℕ → Totals → FramesIn → Type 0)
      → ((n : ℕ) (x : Totals) (missing : ℕ) → frame_behind limit rooms s x ≡ wait missing → P n x (stopped x (wait missing)))
      → ((n : ℕ) (x : Totals) (number place : ℕ) → frame_behind limit rooms s x ≡ answered (refused number place) → P n x (stopped x (answered (refused number place))))
      → ((x : Totals) (y : Head × Contents) (used : ℕ) → frame_behind limit rooms s x ≡ answered (done y used) → P 0 x (stopped x (answered (refused 10 used))))
      → ((n : ℕ) (x : Totals) (y : Head × Contents) (used : ℕ) → frame_behind limit rooms s x ≡ answered (done y used)
      → P n (with_read x y.1 used) (frames_from limit rooms s n (with_read x y.1 used))
      → P (suc n) x (frame_first (frame_there x y used) (frames_from limit rooms s n (with_read x y.1 used))))
      → (n : ℕ) (x : Totals) → P n x (frames_from limit rooms s n x)
  by_frames P waits refuses full more zero x =
      reading_cases (frame_behind limit rooms s x)
      (λ missing e. subst (P 0 x) (sym (from_wait 0 x missing e)) (waits 0 x missing e))
      (λ number place e. subst (P 0 x) (sym (from_refused 0 x number place e)) (refuses 0 x number place e))
      (λ y used e. subst (P 0 x) (sym (from_full x y used e)) (full x y used e))
  by_frames P waits refuses full more (suc n) x =
      reading_cases (frame_behind limit rooms s x)
      (λ missing e. subst (P (suc n) x) (sym (from_wait (suc n) x missing e)) (waits (suc n) x missing e))
      (λ number place e. subst (P (suc n) x) (sym (from_refused (suc n) x number place e)) (refuses (suc n) x number place e))
      (λ y used e.
      subst (P (suc n) x) (sym (from_done n x y used e))
      (more n x y used e (by_frames P waits refuses full more n (with_read x y.1 used))))
