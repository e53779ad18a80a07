-- Demand 3, for both sides: a reading repeated with bytes appended, a limit no lower and tables no smaller keeps an accepted frame whole, and a refusal's
-- number and place, except 2 under a higher limit and 10 where the one table that was full is larger; and a wait is given exactly where bytes are missing.
use mathlib.Core.Path.{◌≡◌, sym, ap, subst, ◌∙◌}
use mathlib.Core.Logic.{⊎_elim}
use mathlib.Core.List.{List, ◌++◌}
use Prim.Native.Nat.{ℕ, ◌≤◌}
use native.Mathlib.Omega.{arith}
use lib.ListN.{length, get_or}
use lib.Seq.{get_or-take, length-take-le}
use Rattle.answer.specs.Answer.{Answer, done, refused, next}
use Rattle.frame.specs.declared.Head.{Head}
use Rattle.frame.specs.declared.Side.{Side}
use Rattle.frame.specs.Read.{wait, answered, cut, Sender, sender, head}
use Rattle.frame.proofs.Answers.{onward_waits, onward_done, onward_refused}
use Rattle.frame.proofs.Cutting.{Missing, cut_waits, cut_out, cut_refused, cut_kept, cut_over_kept, cut_waits_once}
use Rattle.frame.proofs.Heads.{head_says}
use Rattle.payload.specs.declared.Counts.{Counts}
use Rattle.payload.specs.declared.Payload.{Payload}
use Rattle.payload.specs.Payload.{Contents, payload}
use Rattle.answer.proofs.Row.{kept_done, kept_refused}
use Rattle.payload.proofs.Kept.{Table, table, Within, Stays, Keeps, same_keeps, next_keeps, payload_keeps}
use Rattle.parser.specs.Frame.{payload_of, framed, frame_read}
use Rattle.parser.proofs.Frames.{frame_on}

-- ---- waits

-- Waits: a wait is given exactly when fewer than four bytes are there, and then for the rest of the four; or when the length is within the limit
-- and the frame is not whole, and then for exactly the rest of it. Waits once: with the bytes that were asked for, from the fourth byte on, it is
-- answered.
module _ (x : Side) (limit : ℕ) (rooms : Counts) (s : List ℕ) (n : ℕ) where
  pub waits : (frame_read x limit rooms s ≡ wait n → Missing limit s n) × (Missing limit s n → frame_read x limit rooms s ≡ wait n)
  unfolding frame_read
  waits = (
    λ e. (cut_waits limit s n).0 (onward_waits (framed (sender x) rooms) (cut limit s) n e),
    λ m. frame_on x limit rooms s ((cut_waits limit s n).1 m),
  )

  pub waits_once : (t : List ℕ) → 4 ≤ length s → frame_read x limit rooms s ≡ wait n → n ≤ length t
      → (a : Answer (Head × Contents)) × (frame_read x limit rooms (s ++ t) ≡ answered a)
  unfolding frame_read
  waits_once t h e m =
      let o = cut_waits_once limit s t n h (onward_waits (framed (sender x) rooms) (cut limit s) n e) m in
      (framed (sender x) rooms o.0, frame_on x limit rooms (s ++ t) o.2)

-- ---- larger tables

-- Law: larger tables keep a frame that was cut out, of which the payload is of this kind.
pub framed_keeps : (sent : Sender) (rooms : Counts) (f : List ℕ) (kind : Payload) → ((h : Head) (start : ℕ) → head sent f ≡ done h start → payload_of h.frame_type ≡ kind)
    → Keeps kind rooms (λ y. framed sent y f)
unfolding framed
framed_keeps sent rooms f kind is =
    next_keeps kind rooms (λ y. head sent f) (λ y h start. next (payload (payload_of h.frame_type) y start f) (λ c end. done (h, c) end)) (same_keeps kind rooms (head sent f))
    (λ h start e.
    next_keeps kind rooms (λ y. payload (payload_of h.frame_type) y start f) (λ y c end. done (h, c) end)
    (subst (λ (k : Payload). Keeps kind rooms (λ y. payload k y start f)) (sym (is h start e)) (payload_keeps kind rooms start f))
    (λ c end g. same_keeps kind rooms (done (h, c) end)))

-- ---- kept

module _ (x : Side) (limit higher : ℕ) (up : limit ≤ higher) (rooms : Counts) (s t : List ℕ) where
  -- the frame's type stands in the bytes
  type_there : (f : List ℕ) (end : ℕ) → cut limit s ≡ answered (done f end) → (h : Head) (start : ℕ) → head (sender x) f ≡ done h start
      → payload_of h.frame_type ≡ payload_of (get_or s 4 0)
  type_there f end c h start e =
      let o = cut_out limit s c in
      let p = head_says (sender x) f h start e in
      let long : 9 ≤ end = omega (arith, p.long, ap length o.is, length-take-le end s o.all) in
      ap payload_of (sym p.type ∙ ap (λ (l : List ℕ). get_or l 4 0) o.is ∙ get_or-take end s 4 0 (omega (arith, long)))

  kept_after : (f : List ℕ) (end : ℕ) → cut limit s ≡ answered (done f end) → Keeps (payload_of (get_or s 4 0)) rooms (λ y. framed (sender x) y f)
  kept_after f end c = framed_keeps (sender x) rooms f (payload_of (get_or s 4 0)) (type_there f end c)

  -- Kept, an accepted frame: the same length, type, flags, ids, and the same records in the same order.
  pub accepted_kept : (y : Head × Contents) (used : ℕ) → frame_read x limit rooms s ≡ answered (done y used)
      → (others : Counts) → Within rooms others → frame_read x higher others (s ++ t) ≡ answered (done y used)
  unfolding frame_read
  accepted_kept y used e others larger =
      let o = onward_done (framed (sender x) rooms) (cut limit s) e in
      frame_on x higher others (s ++ t) (cut_kept limit higher up s t o.2)
      ∙ ap answered (kept_done {T = Table (payload_of (get_or s 4 0))} rooms (Within rooms) (Stays rooms) (λ z. framed (sender x) z o.0) (kept_after o.0 o.1 o.2) y used o.3 others larger)

  -- Kept, a refusal: its number and its place, except 2 under a higher limit, and 10 where the table that was full has more room. Which table that is goes by
  -- the frame's type.
  pub refusal_kept : (number place : ℕ) → frame_read x limit rooms s ≡ answered (refused number place) → (number ≡ 2 → limit ≡ higher)
      → (full : Table (payload_of (get_or s 4 0))) × ((others : Counts) → Stays rooms full number others → frame_read x higher others (s ++ t) ≡ answered (refused number place))
  unfolding frame_read
  refusal_kept number place e two =
      ⊎_elim
      (λ c. (
        table (payload_of (get_or s 4 0)),
        λ others stays. frame_on x higher others (s ++ t) (subst (λ (n : ℕ). cut n (s ++ t) ≡ answered (refused number place)) (two (cut_refused limit s c).two) (cut_over_kept limit s t c)),
      ))
      (λ o.
      let k = kept_refused {T = Table (payload_of (get_or s 4 0))} rooms (Within rooms) (Stays rooms) (λ z. framed (sender x) z o.0) (kept_after o.0 o.1 o.2) number place o.3 in
      (k.0, λ others stays. frame_on x higher others (s ++ t) (cut_kept limit higher up s t o.2) ∙ ap answered (k.1 others stays)))
      (onward_refused (framed (sender x) rooms) (cut limit s) e)
