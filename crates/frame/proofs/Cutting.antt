-- Laws about the cut of a frame by its length: each way out, when it waits, and what stays with more bytes.
use mathlib.Core.Path.{◌≡◌, refl, sym, ap, ap₂, ◌∙◌}
use mathlib.Core.Logic.{◌⊎◌, inl, inr, ⊎_elim}
use mathlib.Core.List.{List, ◌++◌}
use Prim.Native.Nat.{ℕ, ◌+◌, ◌-◌, ◌≤◌, ◌<◌}
use native.Mathlib.Omega.{arith}
use lib.ListN.{length, take, length-append}
use lib.Seq.{take-append-le, length-take-le}
use borrow.Author.Tests.{le-leb, lt-leb}
use Rattle.answer.specs.Answer.{done, refused}
use Rattle.answer.specs.Order.{in_order}
use Rattle.answer.proofs.Cases.{lt_or_le, not_both}
use Rattle.std.specs.Prelude.{Result}
use Rattle.frame.specs.declared.Stop.{Stop}
use Rattle.frame.specs.Head.{four_number}
use Rattle.frame.specs.Read.{wait, answered, cut}
use Rattle.frame.specs.Promise.{cut_said, Cut}
use Rattle.frame.proofs.Laws.{four_kept}
use Rattle.frame.proofs.Answers.{wait_same, wait_answered, answered_same}
use Rattle.answer.proofs.Answers.{done_same, refused_same}

module _ (limit : ℕ) (s : List ℕ) where
  pub cut_start : length s < 4 → cut limit s ≡ wait (4 - length s)
  unfolding cut in_order
  cut_start h = rw (lt-leb 4 (length s) h)

  module _ (h : 4 ≤ length s) where
    pub cut_over : limit < four_number s → cut limit s ≡ answered (refused 2 4)
    unfolding cut in_order
    cut_over l = rw (le-leb 4 (length s) h, lt-leb (four_number s) limit l)

    module _ (l : four_number s ≤ limit) where
      pub cut_wait : length s < 4 + four_number s → cut limit s ≡ wait (4 + four_number s - length s)
      unfolding cut in_order
      cut_wait w = rw (le-leb 4 (length s) h, le-leb (four_number s) limit l, lt-leb (4 + four_number s) (length s) w)

      pub cut_whole : 4 + four_number s ≤ length s → cut limit s ≡ answered (done (take (4 + four_number s) s) (4 + four_number s))
      unfolding cut in_order
      cut_whole w = rw (le-leb 4 (length s) h, le-leb (four_number s) limit l, le-leb (4 + four_number s) (length s) w)

  -- Where a reading stands: the length bytes are missing, the frame is over the limit, it is not whole, or it is whole.
  pub by_cut : {G : Type 0}
      → (length s < 4 → G)
      → (4 ≤ length s → limit < four_number s → G)
      → (4 ≤ length s → four_number s ≤ limit → length s < 4 + four_number s → G)
      → (4 ≤ length s → four_number s ≤ limit → 4 + four_number s ≤ length s → G)
      → G
  by_cut short over part whole =
      ⊎_elim short
      (λ h.
      ⊎_elim (λ l. over h l)
      (λ l. ⊎_elim (λ w. part h l w) (λ w. whole h l w) (lt_or_le (length s) (4 + four_number s)))
      (lt_or_le limit (four_number s)))
      (lt_or_le (length s) 4)

  -- what a wait says: the length bytes are missing, or the rest of a frame within the limit
  abbrev pub Missing : ℕ → Type 0
  Missing n =
      ((length s < 4) × (n ≡ 4 - length s))
      ⊎ ((4 ≤ length s) × (four_number s ≤ limit) × (length s < 4 + four_number s) × (n ≡ 4 + four_number s - length s))

  -- what a refusal says: the length is there and over the limit
  pub record Over (number place : ℕ) : Type 0 where
    pub two : number ≡ 2
    pub four : place ≡ 4
    pub there : 4 ≤ length s
    pub over : limit < four_number s

  -- what is said of a frame that was cut out
  pub record CutOut (f : List ℕ) (end : ℕ) : Type 0 where
    pub there : 4 ≤ length s
    pub fits : four_number s ≤ limit
    pub says : end ≡ 4 + four_number s
    pub all : end ≤ length s
    pub is : f ≡ take end s

  -- Laws: the cut waits exactly where bytes are missing, for all of them; it refuses an oversize frame; and else it cuts the frame out.
  pub cut_waits : (n : ℕ) → (cut limit s ≡ wait n → Missing n) × (Missing n → cut limit s ≡ wait n)
  cut_waits n = (there, back)
    where
      there : cut limit s ≡ wait n → Missing n
      there e =
          by_cut
          (λ h. inl (h, wait_same (sym e ∙ cut_start h)))
          (λ h l. wait_answered (sym e ∙ cut_over h l))
          (λ h l w. inr (h, l, w, wait_same (sym e ∙ cut_wait h l w)))
          (λ h l w. wait_answered (sym e ∙ cut_whole h l w))

      back : Missing n → cut limit s ≡ wait n
      back m = ⊎_elim (λ y. cut_start y.0 ∙ ap wait (sym y.1)) (λ y. cut_wait y.0 y.1 y.2 ∙ ap wait (sym y.3)) m

  pub cut_refused : {number place : ℕ} → cut limit s ≡ answered (refused number place) → Over number place
  cut_refused e =
      by_cut
      (λ h. wait_answered (sym (cut_start h) ∙ e))
      (λ h l. let q = refused_same (answered_same (sym e ∙ cut_over h l)) in record { two = q.0; four = q.1; there = h; over = l })
      (λ h l w. wait_answered (sym (cut_wait h l w) ∙ e))
      (λ h l w. not_both refl (answered_same (sym (cut_whole h l w) ∙ e)))

  pub cut_out : {f : List ℕ} {end : ℕ} → cut limit s ≡ answered (done f end) → CutOut f end
  cut_out {f} {end} e =
      by_cut
      (λ h. wait_answered (sym (cut_start h) ∙ e))
      (λ h l. not_both refl (answered_same (sym e ∙ cut_over h l)))
      (λ h l w. wait_answered (sym (cut_wait h l w) ∙ e))
      (λ h l w.
      let o = done_same (answered_same (sym e ∙ cut_whole h l w)) in
      record { there = h; fits = l; says = o.1; all = omega (arith, o.1); is = o.0 ∙ ap (λ (n : ℕ). take n s) (sym o.1) })

-- Law: with bytes behind it and under a limit no lower, a frame is cut out as before; an oversize one is refused under the same limit; and with the
-- bytes that were asked for, from the fourth byte on, a frame is cut out.
module _ (limit higher : ℕ) (up : limit ≤ higher) (s t : List ℕ) where
  pub cut_kept : {f : List ℕ} {end : ℕ} → cut limit s ≡ answered (done f end) → cut higher (s ++ t) ≡ answered (done f end)
  cut_kept {f} {end} e =
      let o = cut_out limit s e in
      let same = four_kept s t o.there in
      let all = length-append s t in
      let ends : 4 + four_number (s ++ t) ≡ end = omega (arith, o.says) in
      cut_whole higher (s ++ t) (omega (arith, o.there)) (omega (arith, o.fits)) (omega (arith, o.says, o.all))
      ∙ ap (λ (n : ℕ). answered (done (take n (s ++ t)) n)) ends
      ∙ ap (λ (l : List ℕ). answered (done l end)) (take-append-le end s t o.all ∙ sym o.is)

pub cut_over_kept : (limit : ℕ) (s t : List ℕ) {number place : ℕ} → cut limit s ≡ answered (refused number place) → cut limit (s ++ t) ≡ answered (refused number place)
cut_over_kept limit s t e =
    let o = cut_refused limit s e in
    cut_over limit (s ++ t) (omega (arith, o.there, length-append s t)) (omega (arith, o.over, four_kept s t o.there))
    ∙ ap₂ (λ (n p : ℕ). answered (refused n p)) (sym o.two) (sym o.four)

pub cut_waits_once : (limit : ℕ) (s t : List ℕ) (n : ℕ) → 4 ≤ length s → cut limit s ≡ wait n → n ≤ length t
    → (f : List ℕ) × (end : ℕ) × (cut limit (s ++ t) ≡ answered (done f end))
cut_waits_once limit s t n h e m =
    ⊎_elim
    (λ y. absurd (omega (arith, y.0, h)))
    (λ y.
    let same = four_kept s t h in
    let all = length-append s t in
    (_, _, cut_whole limit (s ++ t) (omega (arith, all, h)) (rw same y.1) (rw same (omega (arith, all, y.3, m)))))
    ((cut_waits limit s n).0 e)

-- what a call that says so was given, and how long a frame that was cut out is
pub cut_said_lem : (limit : ℕ) (s : List ℕ) {r q : Result ℕ Stop} → Cut s limit r → r ≡ q → cut limit s ≡ cut_said s q
cut_said_lem limit s p e = sym p ∙ ap (cut_said s) e

pub cut_long : (limit : ℕ) (s : List ℕ) (end : ℕ) → cut limit s ≡ answered (done (take end s) end) → end ≡ length (take end s)
cut_long limit s end e = sym (length-take-le end s (cut_out limit s e).all)
