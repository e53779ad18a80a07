-- Walking over two texts at once: what the walk needs of each turn.
use mathlib.Core.Path.{◌≡◌, sym, ap, ap₂, ◌∙◌}
use mathlib.Core.Bool.{true, false}
use mathlib.Core.List.{List, [], ◌∷◌, ◌++◌}
use Prim.Native.Nat.{ℕ, ◌+◌, ◌≤◌}
use native.Mathlib.Omega.{arith}
use lib.Dec.{eqb, eqb-suc-zero}
use lib.Seq.{take-add, take-take, take-length}
use lib.ListN.{length, take, drop, take-append-drop}
use borrow.Author.Tests.{ne_eqb}
use Rattle.std.proofs.Common.{Some, None}
use Rattle.utf8.specs.Text.{step, step_size, lossy, same_bytes, same_text}
use Rattle.utf8.specs.Inner.{Walks, ascii}
use Rattle.utf8.proofs.Ascii.{ascii_well}
use Rattle.utf8.proofs.Lossy.{lossy_none, lossy_front}
use Rattle.utf8.proofs.Advance.{step_advances, lossy_some}
use Rattle.utf8.proofs.Same.{piece, same_true, same_front, same_none, same_text_on, same_text_off}

-- a step of each
module _ (s t : List ℕ) where
  pub walks_apart : same_bytes (piece s) (piece t) ≡ false → Walks s t None
  walks_apart e = same_text_off s t e

  pub walks_on : (m n : ℕ) → m ≡ step_size (step s) → n ≡ step_size (step t) → same_bytes (piece s) (piece t) ≡ true → Walks s t (Some (m, n))
  walks_on m n p q e = rw (p, q) (same_text_on s t e, (step_advances s).there, (step_advances t).there, (step_advances s).moves)

-- the first text has ended: they are the same where the second has too
pub same_text_none : (t : List ℕ) → same_text [] t ≡ eqb (length t) 0
unfolding same_text
same_text_none [] = rw lossy_none (same_none [])
same_text_none (b ∷ t) =
    rw lossy_none
    (same_none (lossy (b ∷ t))
    ∙ ne_eqb (length (lossy (b ∷ t))) 0 (λ e. omega (arith, lossy_some (b ∷ t) (omega arith)))
    ∙ sym (eqb-suc-zero (length t)))

-- ---- eight of each at once

pub walks_eight : (s t : List ℕ) → 8 ≤ length s → 8 ≤ length t → ascii (take 8 s) ≡ true → same_bytes (take 8 s) (take 8 t) ≡ true → Walks s t (Some (8, 8))
unfolding same_text
walks_eight s t h g plain same = (front, h, g, λ p. omega arith)
  where
    front : same_text s t ≡ same_text (drop 8 s) (drop 8 t)
    front =
        let q = same_true (take 8 s) (take 8 t) same in
        let well = ascii_well (take 8 s) plain in
        ap₂ same_bytes (ap lossy (sym (take-append-drop 8 s)) ∙ lossy_front (drop 8 s) (take 8 s) well)
        (ap lossy (sym (take-append-drop 8 t)) ∙ rw (sym q) (lossy_front (drop 8 t) (take 8 s) well))
        ∙ same_front (take 8 s) (lossy (drop 8 s)) (lossy (drop 8 t))

-- ---- the same bytes, in eights

module _ (s t : List ℕ) (at : ℕ) (e : take at s ≡ take at t) where
  pub equal_less : (last : ℕ) → last ≤ at → take last s ≡ take last t
  equal_less last h = sym (take-take last at s h) ∙ ap (take last) e ∙ take-take last at t h

  pub equal_on : same_bytes (take 8 (drop at s)) (take 8 (drop at t)) ≡ true → take (at + 8) s ≡ take (at + 8) t
  equal_on q = take-add at 8 s ∙ ap₂ ◌++◌ e (same_true (take 8 (drop at s)) (take 8 (drop at t)) q) ∙ sym (take-add at 8 t)

  pub equal_all : at + 8 ≡ length s → at + 8 ≡ length t → same_bytes (take 8 (drop at s)) (take 8 (drop at t)) ≡ true → s ≡ t
  equal_all h g q =
      sym (take-length s)
      ∙ ap (λ (k : ℕ). take k s) (sym h)
      ∙ equal_on q
      ∙ ap (λ (k : ℕ). take k t) g
      ∙ take-length t
