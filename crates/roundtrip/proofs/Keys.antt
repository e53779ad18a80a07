-- Laws about keys that are met once: as a reader asks it and as a writer does.
use mathlib.Core.Path.{◌≡◌, refl, sym, ap, ap₂, ◌∙◌}
use mathlib.Core.Bool.{Bool, true, false, cond}
use mathlib.Core.List.{List, [], ◌∷◌, ◌++◌, map, map-append}
use Prim.Native.Nat.{ℕ, zero, suc, ◌+◌, ◌<◌}
use native.Mathlib.Omega.{arith}
use lib.ListN.{length}
use Rattle.answer.specs.Table.{records, some}
use Rattle.answer.proofs.Cases.{bool_cases, true_false}
use Rattle.answer.proofs.Records.{records_snoc}
use Rattle.utf8.specs.Text.{same_text}
use Rattle.utf8.proofs.Same.{same_text_sym}
use Rattle.frame.specs.declared.Pair.{Pair}
use Rattle.frame.specs.Records.{key_of, same_key}
use Rattle.payload.specs.Payload.{met}
use Rattle.payload.proofs.Accepted.{Once}

some_map : {A B : Type 0} (test : B → Bool) (f : A → B) (xs : List A) → some (λ x. test (f x)) xs ≡ some test (map f xs)
unfolding some
some_map test f [] = refl
some_map test f (x ∷ xs) = ap (cond (test (f x)) true) (some_map test f xs)

some_same : {A : Type 0} (test other : A → Bool) → ((x : A) → test x ≡ other x) → (xs : List A) → some test xs ≡ some other xs
unfolding some
some_same test other same [] = refl
some_same test other same (x ∷ xs) = ap₂ (λ (b c : Bool). cond b true c) (same x) (some_same test other same xs)

same_either_way : (s t : List ℕ) → same_text s t ≡ same_text t s
same_either_way s t =
    bool_cases (same_text s t) (λ e. e ∙ sym (same_text_sym s t e))
    (λ e. bool_cases (same_text t s) (λ f. true_false (same_text_sym t s f) e) (λ f. e ∙ sym f))

-- Law: a key is met among some pairs where the writer finds the same key among them.
pub met_so : (s : List ℕ) (ps : List Pair) (p : Pair) → met s ps p ≡ some (same_key s p) ps
met_so s ps p = some_same (λ q. same_key s q p) (same_key s p) (λ q. same_either_way (key_of s q) (key_of s p)) ps

-- records from the next on are those behind one more
one_more : {A : Type 0} (at : ℕ → A) (i : ℕ) → records at 0 i ++ (at i ∷ []) ≡ records at 0 (suc i)
one_more at i = let one : i + 1 ≡ suc i = omega arith in sym (records_snoc at i) ∙ ap (records at 0) one

-- Law: of pairs of a table whose keys are met once, none has the key of one before it.
pub once_at : (f : List ℕ) (at : ℕ → Pair) (n j : ℕ) → Once f (records at 0 j) (records at j n) → (i : ℕ) → i < n → some (same_key f (at (j + i))) (records at 0 (j + i)) ≡ false
unfolding records
once_at f at zero j d i h = absurd (omega arith)
once_at f at (suc n) j d zero h = let here : j + 0 ≡ j = omega arith in rw here (sym (met_so f (records at 0 j) (at j)) ∙ d.0)
once_at f at (suc n) j d (suc i) h =
    let on : j + suc i ≡ suc j + i = omega arith in
    rw on (once_at f at n (suc j) (rw (one_more at j) at d.1) i (omega arith))

-- a key is met among pairs as it is among others that have the same keys
met_as : (f buffer : List ℕ) (ps qs : List Pair) (p q : Pair) → map (key_of f) ps ≡ map (key_of buffer) qs → key_of f p ≡ key_of buffer q → met f ps p ≡ met buffer qs q
met_as f buffer ps qs p q before here =
    some_map (λ (k : List ℕ). same_text k (key_of f p)) (key_of f) ps
    ∙ ap₂ (λ (k : List ℕ) (l : List (List ℕ)). some (λ (x : List ℕ). same_text x k) l) here before
    ∙ sym (some_map (λ (k : List ℕ). same_text k (key_of buffer q)) (key_of buffer) qs)

map_more : {A B : Type 0} (f g : A → B) (xs ys : List A) (x y : A) → map f xs ≡ map g ys → f x ≡ g y → map f (xs ++ (x ∷ [])) ≡ map g (ys ++ (y ∷ []))
map_more f g xs ys x y e h = map-append f xs (x ∷ []) ∙ ap₂ (λ (l : List _) (z : _). l ++ (z ∷ [])) e h ∙ sym (map-append g ys (y ∷ []))

-- Law: pairs with the keys of a table's, of which none has the key of one before it, have keys that are met once.
pub once_so : (f buffer : List ℕ) (at : ℕ → Pair) (n i : ℕ) (before ps : List Pair) → map (key_of f) before ≡ map (key_of buffer) (records at 0 i)
    → map (key_of f) ps ≡ map (key_of buffer) (records at i n) → ((k : ℕ) → k < i + n → some (same_key buffer (at k)) (records at 0 k) ≡ false) → Once f before ps
unfolding records
once_so f buffer at n i before [] e g fresh = tt
once_so f buffer at zero i before (p ∷ ps) e g fresh = absurd (omega (arith, ap length g))
once_so f buffer at (suc n) i before (p ∷ ps) e g fresh =
    let key : key_of f p ≡ key_of buffer (at i) = cc in
    let rest : map (key_of f) ps ≡ map (key_of buffer) (records at (suc i) n) = cc in (
      met_as f buffer before (records at 0 i) p (at i) e key ∙ met_so buffer (records at 0 i) (at i) ∙ fresh i (omega arith),
      once_so f buffer at n (suc i) (before ++ (p ∷ [])) ps
          (map_more (key_of f) (key_of buffer) before (records at 0 i) p (at i) e key ∙ ap (map (key_of buffer)) (one_more at i)) rest (λ k l. fresh k (omega arith)),
    )
