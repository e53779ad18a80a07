-- A slice that was lent to a function, `&mut [T]`, and that it lends on to a call and then has again: what a walk by hand says before the call and after it.
-- κ is the lifetime that the slice came with, and κ' one that is made for the call. While the call has the slice, under a name of its own, the function keeps
-- `LentAgain`: what waits for κ' to end, and its own borrow, open. n is how many elements the slice has, then and now.
--     lends_again    before the call: what the slice owns, and a share of κ's token, are what the callee's slice owns, and `LentAgain`
--     comes_back     after it, once κ' is dead: `LentAgain`, and the list that the callee left, are what the slice owns at that list, and the share
-- Assumes `Logic`.
use mathlib.Core.Path.{◌≡◌, sym, ap, subst, ◌∙◌}
use Prim.Native.Nat.{ℕ}
use mathlib.Core.List.{List, [], ◌∷◌}
use lib.ListN.{length}
use seplogic.Ra.Ura.{Ura}
use base.Fraction.{full_share}
use mir.Syntax.{Lifetime}
use mir.Val.{Val}
use base.Logic.{ent, sep, ex}
use base.Fml.{Lft, GName, Share, Fml, fsep, flft, fdead, fobs, fauth, flent, fobor}
use types.Logic.{Logic, sem}
use types.Kit.{‵, ◌⊛◌, some, later, ◌$◌, ◌∵◌, !, qed, move, use1, use3, drop, split, pick, fsplit, fjoin, frame, await, updating, now as at_once, show, done}
use types.SemTy.{cells, Arr}
use denote.RattleType.{RattleType}
use denote.Shadow.{pure_l, pure_i}
use denote.Memory.{mem}
use denote.Ref.{MutBor}
use denote.Slice.{slice_val, MutSlice, heres, Room, finally, mut_slice_at, coded_holeys}
use denote.Lend.{Held, lends_slice, slice_back}
use denote.Index.{row, whole_out, whole_in, opens_slice, closes_slice}

module _ (R : RattleType) (κ κ' : Lft) (q : Share) (γ : GName) (b o : ℕ) where
  -- the slice at a list, under a name
  abbrev slice_at : GName → List R.Denot → MutBor (List R.Denot)
  slice_at δ ys = record { ref_ptr = (b, o); ghost_name = δ; now = ys }

  abbrev pub LentAgain : GName → List R.Denot → Fml
  LentAgain δ ys =
      let code = (coded_holeys R).code (heres R ys) in
      fsep (flent κ' (Held R (length ys) b o δ)) (fsep (fobor κ q (Held R (length ys) b o γ)) (fsep (fobs γ code) (fauth γ code)))

  module _ {M : Type 1} {𝓤 : Ura M} (𝓛 : Logic 𝓤) (ℓ ℓ' : Lifetime) (n : ℕ) (ys : List R.Denot) (e : length ys ≡ n) where
    open 𝓛 use {H, A}

    abbrev vals : List Val
    vals = slice_val (b, o) n ∷ []

    pub lends_again : ent 𝓤 (sep 𝓤 (sem 𝓛 ((MutSlice ℓ κ R).own_val (slice_at γ ys) vals)) (A.lft κ q))
        (H.⇛ (ex 𝓤 (λ (δ : GName). sep 𝓤 (sem 𝓛 ((MutSlice ℓ' κ' R).own_val (slice_at δ ys) vals)) (sem 𝓛 (LentAgain δ ys)))))
    lends_again =
        qed 𝓛 (‵ ((MutSlice ℓ κ R).own_val (slice_at γ ys) vals) ∷ ‵ (flft κ q) ∷ []) ∵ updating ! $ fsplit ! $ pure_l ! (mut_slice_at R (slice_at γ ys) vals) (λ p. fsplit ! $ opens_slice ! tt R ys b o $
        use1 𝓛 (‵ (cells (mem R) ys b o)) (whole_in 𝓛 R ys b o) $
        use1 𝓛 (later (some (λ (δ : GName). ‵ ((MutSlice ℓ' κ' R).own_val (slice_at δ ys) vals) ⊛ ‵ (flent κ' (Held R (length ys) b o δ))))) (lent p.1) $ await ! tt $ pick ! (λ δ. split ! $
        -- [the callee's slice; what waits for κ'; the open borrow; obs; auth]
        at_once ! $ show ! (λ (δ' : GName). sep 𝓤 (sem 𝓛 ((MutSlice ℓ' κ' R).own_val (slice_at δ' ys) vals)) (sem 𝓛 (LentAgain δ' ys))) δ $ frame ! $
        move ! (2 ∷ 3 ∷ []) $ fjoin ! $ move ! (2 ∷ 0 ∷ []) $ fjoin ! $ move ! (1 ∷ 0 ∷ []) $ fjoin ! $ done !))
      where
        lent : Room R (length ys) → ent 𝓤 (sem 𝓛 (cells (mem R) ys b o))
            (H.⇛ (ex 𝓤 (λ (δ : GName). sep 𝓤 (sem 𝓛 ((MutSlice ℓ' κ' R).own_val (slice_at δ ys) vals)) (sem 𝓛 (flent κ' (Held R (length ys) b o δ))))))
        lent room =
            subst
            (λ (k : ℕ). ent 𝓤 (sem 𝓛 (cells (mem R) ys b o)) (H.⇛ (ex 𝓤 (λ (δ : GName). sep 𝓤 (sem 𝓛 ((MutSlice ℓ' κ' R).own_val (slice_at δ ys) (slice_val (b, o) k ∷ []))) (sem 𝓛 (flent κ' (Held R (length ys) b o δ)))))))
            e (lends_slice 𝓛 R ℓ' κ' ys b o room)

    pub comes_back : (δ : GName) (zs : List R.Denot) → Room R n → length zs ≡ length ys
        → ent 𝓤 (sep 𝓤 (A.dead κ') (sep 𝓤 (sem 𝓛 (LentAgain δ ys)) (sem 𝓛 (finally R δ zs)))) (H.⇛ (sep 𝓤 (sem 𝓛 ((MutSlice ℓ κ R).own_val (slice_at γ zs) vals)) (A.lft κ q)))
    comes_back δ zs room l =
        let same : length zs ≡ n = l ∙ e in
        qed 𝓛 (‵ (fdead κ') ∷ ‵ (LentAgain δ ys) ∷ ‵ (finally R δ zs) ∷ []) ∵ updating ! $ move ! (1 ∷ []) $ fsplit ! $ move ! (2 ∷ 0 ∷ 3 ∷ []) $
        use3 𝓛 (later (‵ ((Arr (mem R) (length ys)).own_at zs b o))) (slice_back 𝓛 R κ' δ zs (length ys) b o) $ await ! tt $ fsplit ! $ drop ! $ use1 𝓛 (‵ (row R full_share zs b o)) (whole_out 𝓛 R zs b o) $
        move ! (1 ∷ []) $ fsplit ! $ move ! (1 ∷ []) $ fsplit ! $ move ! (3 ∷ 2 ∷ 0 ∷ 1 ∷ []) $ closes_slice ! tt R ys zs l b o $ at_once ! $
        fjoin ! $ pure_i ! (mut_slice_at R (slice_at γ zs) vals) (tt, (tt, tt)) (ap (λ (k : ℕ). slice_val (b, o) k ∷ []) (sym same), subst (Room R) (sym same) room) $ fjoin ! $ done !
