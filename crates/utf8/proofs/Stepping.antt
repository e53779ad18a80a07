-- Laws about one step: its row, how many of the row's places are filled, and how many bytes it takes.
use mathlib.Core.Path.{◌≡◌, refl, sym, ap, ap₂, ◌∙◌}
use mathlib.Core.Bool.{Bool, true, false, ◌&&◌}
use mathlib.Core.List.{List, [], ◌∷◌, ◌++◌}
use Prim.Native.Nat.{ℕ, zero, suc, ◌-◌, ◌≤◌, ◌<◌, zero-le, suc-le-suc}
use native.Mathlib.Omega.{arith}
use native.Mathlib.Decide.{ℕ_discrete}
use lib.Dec.{leb}
use lib.ListN.{length, take, drop, get_or, drop_of_length-le}
use lib.Seq.{drop-cons}
use borrow.Author.Tests.{le-leb, lt-leb, eq-eqb, ne_eqb, leb-true}
use Rattle.answer.proofs.Cases.{bool_cases, both_true}
use Rattle.utf8.specs.Text.{Range, ◌to◌, Row, row, rows, follow, places, in_range, starts_in, matching, Step, ends, char, mark, taken, Led, unused, led, row_for, step_for, step, replacement}

-- ---- a byte and its range

module _ (low high b : ℕ) where
  pub in_range_in : low ≤ b → b ≤ high → in_range (low to high) b ≡ true
  unfolding in_range
  in_range_in h g = simp (le-leb low b h, le-leb b high g)

  pub in_range_below : b < low → in_range (low to high) b ≡ false
  unfolding in_range
  in_range_below h = simp (lt-leb low b h)

  pub in_range_above : low ≤ b → high < b → in_range (low to high) b ≡ false
  unfolding in_range
  in_range_above h g = simp (le-leb low b h, lt-leb b high g)

module _ (p : Range) (s : List ℕ) (at : ℕ) where
  pub starts_in_end : length s ≤ at → starts_in p (drop at s) ≡ false
  starts_in_end h = rw (drop_of_length-le s {i = at} h)

  pub starts_in_at : at < length s → starts_in p (drop at s) ≡ in_range p (get_or s at 0)
  starts_in_at h = rw (drop-cons s at 0 h)

-- ---- how many bytes are as the places say

pub matching_none : (s : List ℕ) → matching [] s ≡ 0
unfolding matching
matching_none s = refl

module _ (p : Range) (ps : List Range) (s : List ℕ) where
  pub matching_stop : starts_in p s ≡ false → matching (p ∷ ps) s ≡ 0
  unfolding matching
  matching_stop e = simp e

  pub matching_on : starts_in p s ≡ true → matching (p ∷ ps) s ≡ suc (matching ps (drop 1 s))
  unfolding matching
  matching_on e = simp e

-- no more than there are places, and than there are bytes: place by place
pub matching_places : (ps : List Range) (s : List ℕ) → matching ps s ≤ length ps
matching_places [] s = rw (matching_none s) zero-le
matching_places (p ∷ ps) s =
    bool_cases (starts_in p s)
    (λ e. rw (matching_on p ps s e) (suc-le-suc (matching_places ps (drop 1 s))))
    (λ e. rw (matching_stop p ps s e) zero-le)

-- a byte that is in a range is there
starts_in_some : (p : Range) (s : List ℕ) → starts_in p s ≡ true → 1 ≤ length s
starts_in_some p [] e = let z : ◌≡◌ {A = ℕ} 0 1 = cc in absurd (omega arith)
starts_in_some p (b ∷ s) e = suc-le-suc zero-le

length_rest : (s : List ℕ) → 1 ≤ length s → suc (length (drop 1 s)) ≡ length s
length_rest [] h = absurd (omega arith)
length_rest (b ∷ s) h = refl

pub matching_there : (ps : List Range) (s : List ℕ) → matching ps s ≤ length s
matching_there [] s = rw (matching_none s) zero-le
matching_there (p ∷ ps) s =
    bool_cases (starts_in p s)
    (λ e. rw (matching_on p ps s e) (let h = matching_there ps (drop 1 s) in omega (arith, length_rest s (starts_in_some p s e))))
    (λ e. rw (matching_stop p ps s e) zero-le)

-- the places after the first
pub follow_none : (p : Range) → follow 0 p ≡ []
unfolding follow
follow_none p = refl

pub follow_on : (left : ℕ) (p : Range) → follow (suc left) p ≡ p ∷ follow left (0x80 to 0xBF)
unfolding follow
follow_on left p = refl

pub follow_length : (left : ℕ) (p : Range) → length (follow left p) ≡ left
unfolding follow
follow_length zero p = refl
follow_length (suc left) p = ap suc (follow_length left (0x80 to 0xBF))

-- all places filled: the bytes behind them do not matter, place by place
pub matching_kept : (ps : List Range) (s t : List ℕ) → matching ps s ≡ length ps → matching ps (take (length ps) s ++ t) ≡ length ps
matching_kept [] s t e = matching_none _
matching_kept (p ∷ ps) [] t e =
    bool_cases (starts_in p [])
    (λ q. let h = starts_in_some p [] q in absurd (omega arith))
    (λ q. let h = sym (matching_stop p ps [] q) ∙ e in absurd (omega arith))
matching_kept (p ∷ ps) (b ∷ s) t e =
    bool_cases (starts_in p (b ∷ s))
    (λ q.
    let h : matching ps s ≡ length ps = (let h = sym (matching_on p ps (b ∷ s) q) ∙ e in omega arith) in
    matching_on p ps (b ∷ (take (length ps) s ++ t)) q ∙ ap suc (matching_kept ps s t h))
    (λ q. let h = sym (matching_stop p ps (b ∷ s) q) ∙ e in absurd (omega arith))

-- ---- the row of a first byte

module _ (lead second : Range) (bytes : ℕ) (rs : List Row) (b : ℕ) where
  pub row_for_past : in_range lead b ≡ false → row_for (row lead second bytes ∷ rs) b ≡ row_for rs b
  unfolding row_for
  row_for_past e = simp e

  pub row_for_here : in_range lead b ≡ true → row_for (row lead second bytes ∷ rs) b ≡ led (row lead second bytes)
  unfolding row_for
  row_for_here e = simp e

pub row_for_none : (b : ℕ) → row_for [] b ≡ unused
unfolding row_for
row_for_none b = refl

-- the table's rule: no row has more than four places
unfoldable at_most_four : List Row → Bool
at_most_four [] = true
at_most_four (r ∷ rs) = leb (length (places r)) 4 && at_most_four rs

rows_four : at_most_four rows ≡ true
unfolding at_most_four rows follow
rows_four = refl

row_four : (r : Row) (rs : List Row) → at_most_four (r ∷ rs) ≡ true → (length (places r) ≤ 4) × (at_most_four rs ≡ true)
unfolding at_most_four
row_four r rs e = let q = both_true (leb (length (places r)) 4) (at_most_four rs) e in (leb-true (length (places r)) 4 q.0, q.1)

-- what a row that was found says of the byte: row by row
abbrev Found : ℕ → Led → Type 0
Found b unused = Unit
Found b (led (row lead second bytes)) = (in_range lead b ≡ true) × (length (places (row lead second bytes)) ≤ 4)

found_in : (rs : List Row) (b : ℕ) → at_most_four rs ≡ true → Found b (row_for rs b)
found_in [] b e = rw (row_for_none b) tt
found_in (row lead second bytes ∷ rs) b e =
    let four = row_four (row lead second bytes) rs e in
    bool_cases (in_range lead b)
    (λ q. rw (row_for_here lead second bytes rs b q) (q, four.0))
    (λ q. rw (row_for_past lead second bytes rs b q) (found_in rs b four.1))

found : (b : ℕ) → Found b (row_for rows b)
found b = found_in rows b rows_four

-- ---- how many of a row's places are filled: all of them, or fewer

taken_all : (all n : ℕ) → n ≡ all → taken all n ≡ char n
taken_all all n e = simp (eq-eqb n all e)

taken_some : (all n : ℕ) → (n ≡ all → ⊥) → taken all n ≡ mark n
taken_some all n ne = simp (ne_eqb n all ne)

-- ---- law: a step never takes more bytes than are there, takes at least one, and at most three for a mark

abbrev pub Bounded : Step → ℕ → Type 0
Bounded ends there = there ≡ 0
Bounded (char n) there = (1 ≤ n) × (n ≤ there) × (n ≤ 4)
Bounded (mark n) there = (1 ≤ n) × (n ≤ there) × (n ≤ 3)

-- by whether all places are filled: a mark lacks one of at most four
taken_bounds : (all n there : ℕ) → 1 ≤ n → n ≤ there → n ≤ all → all ≤ 4 → Bounded (taken all n) there
taken_bounds all n there some most places four = go (ℕ_discrete n all)
  where
    go : Dec (n ≡ all) → Bounded (taken all n) there
    go (yes e) = rw (taken_all all n e) (some, most, omega arith)
    go (no ne) = rw (taken_some all n ne) (some, most, omega arith)

pub step_bounds : (s : List ℕ) → Bounded (step s) (length s)
unfolding step
step_bounds [] = refl
step_bounds (b ∷ s) = go (row_for rows b) (found b)
  where
    go : (x : Led) → Found b x → Bounded (step_for x (b ∷ s)) (suc (length s))
    go unused f = (omega arith, omega arith, omega arith)
    go (led (row lead second bytes)) f =
        let ps = places (row lead second bytes) in
        taken_bounds (length ps) (matching ps (b ∷ s)) (suc (length s))
        (rw (matching_on lead (follow (bytes - 1) second) (b ∷ s) f.0) (suc-le-suc zero-le))
        (matching_there ps (b ∷ s))
        (matching_places ps (b ∷ s))
        f.1

-- ---- a well-formed sequence in front of a list stays in front: its bytes fill all of its row's places

-- only all places make a well-formed sequence
taken_char : (all m n : ℕ) → taken all m ≡ char n → (m ≡ all) × (m ≡ n)
taken_char all m n e = go (ℕ_discrete m all)
  where
    go : Dec (m ≡ all) → (m ≡ all) × (m ≡ n)
    go (yes q) = let f = sym (taken_all all m q) ∙ e in (q, cc f)
    go (no ne) = let f = sym (taken_some all m ne) ∙ e in let z : ◌≡◌ {A = ℕ} 0 1 = cc f in absurd (omega arith)

pub step_kept : (s t : List ℕ) (n : ℕ) → step s ≡ char n → step (take n s ++ t) ≡ char n
unfolding step
step_kept [] t n e = let z : ◌≡◌ {A = ℕ} 0 1 = cc in absurd (omega arith)
step_kept (b ∷ s) t zero e = let h = rw e at (step_bounds (b ∷ s)) in absurd (omega arith)
step_kept (b ∷ s) t (suc n) e = go (row_for rows b) e
  where
    go : (x : Led) → step_for x (b ∷ s) ≡ char (suc n) → step_for x (b ∷ (take n s ++ t)) ≡ char (suc n)
    go unused f = let z : ◌≡◌ {A = ℕ} 0 1 = cc f in absurd (omega arith)
    go (led (row lead second bytes)) f =
        let ps = follow (bytes - 1) second in
        let m = taken_char (suc (length ps)) (matching (lead ∷ ps) (b ∷ s)) (suc n) f in
        let k : n ≡ length ps = omega (arith, m.0, m.1) in
        let h = matching_kept (lead ∷ ps) (b ∷ s) t m.0 in
        rw k (taken_all (suc (length ps)) (matching (lead ∷ ps) (b ∷ (take (length ps) s ++ t))) h ∙ ap char h)

-- ---- where the first byte decides

pub step_ends : (s : List ℕ) → length s ≡ 0 → step s ≡ ends
unfolding step
step_ends [] h = refl
step_ends (b ∷ s) h = absurd (omega arith)

-- in the code's terms: the first byte is in its range, and the places behind it are left
abbrev pub step_behind : Led → List ℕ → Step
step_behind unused s = mark 1
step_behind (led (row lead second bytes)) s = taken (suc (bytes - 1)) (suc (matching (follow (bytes - 1) second) (drop 1 s)))

pub step_for_lem : (s : List ℕ) (b : ℕ) → 1 ≤ length s → get_or s 0 0 ≡ b → step s ≡ step_behind (row_for rows b) s
unfolding step
step_for_lem [] b h e = absurd (omega arith)
step_for_lem (b ∷ s) d h e = rw (sym e) (go (row_for rows b) (found b))
  where
    go : (x : Led) → Found b x → step_for x (b ∷ s) ≡ step_behind x (b ∷ s)
    go unused f = refl
    go (led (row lead second bytes)) f = ap₂ taken (ap suc (follow_length (bytes - 1) second)) (matching_on lead (follow (bytes - 1) second) (b ∷ s) f.0)

-- ---- two steps that are known

pub step_none : step [] ≡ ends
unfolding step
step_none = refl

pub step_replacement : (t : List ℕ) → step (replacement ++ t) ≡ char 3
unfolding step row_for rows follow matching in_range
step_replacement t = refl

-- ASCII
pub step_ascii : (b : ℕ) (s : List ℕ) → b < 128 → step (b ∷ s) ≡ char 1
unfolding step row_for rows follow matching in_range
step_ascii b s h = simp (le-leb 0 b zero-le, le-leb b 127 (omega arith))

pub step_ascii_front : (s : List ℕ) → 1 ≤ length s → get_or s 0 0 < 128 → step s ≡ char 1
step_ascii_front [] h g = absurd (omega arith)
step_ascii_front (b ∷ s) h g = step_ascii b s g
