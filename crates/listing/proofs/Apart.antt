-- Laws about two lines that start the same bytes: they say the same, and the same follows them.
use mathlib.Core.Path.{◌≡◌, refl, sym, ap, ap₂, ◌∙◌}
use mathlib.Core.Bool.{Bool, true, false, cond, ◌&&◌}
use mathlib.Core.List.{List, [], ◌∷◌, ◌++◌, append_assoc, append_cancel_left, head-eq_of_cons-eq, tail-eq_of_cons-eq}
use Prim.Native.Nat.{ℕ, ◌+◌, ◌≤◌}
use native.Mathlib.Omega.{arith}
use lib.Dec.{leb, eqb}
use lib.ListN.{length, drop}
use borrow.Author.Tests.{leb-true, eq-eqb, ne_eqb, eqb-true, eqb-false}
use Rattle.answer.proofs.Cases.{bool_cases, both_true, true_false}
use Rattle.answer.proofs.Each.{Each}
use Rattle.types.specs.Value.{value, shape}
use Rattle.types.specs.Form.{part, writable_record}
use Rattle.types.specs.Promise.{record_of}
use Rattle.types.proofs.Roundtrip.{Meaning}
use Rattle.frame.specs.declared.Head.{Head}
use Rattle.frame.specs.declared.Pair.{Pair}
use Rattle.frame.specs.declared.Message.{Message}
use Rattle.frame.specs.declared.Action.{Action}
use Rattle.frame.specs.Records.{key_of}
use Rattle.payload.proofs.Standing.{by_verb}
use Rattle.listing.specs.Digits.{letters, decimal, shown}
use Rattle.listing.specs.Lines.{filled, value_text, frame_line, message_line, pair_texts, pair_line, action_line, end_line}
use Rattle.listing.proofs.Text.{gap}
use Rattle.listing.proofs.Accepted.{Acts}
use Rattle.listing.proofs.Distinct.{line_meaning, Plain, decimal_apart, shown_apart, values_apart, decimal_plain, shown_plain, value_plain, texts_apart}

-- ---- a line

-- how many marks a form has, and whether a space or a line's end stands behind each
abbrev pub marks : List ℕ → ℕ
marks [] = 0
marks (b ∷ form) = cond (eqb b gap) 1 0 + marks form

abbrev pub stops : List ℕ → Bool
stops [] = false
stops (b ∷ form) = leb b 32

abbrev pub spaced : List ℕ → Bool
spaced [] = true
spaced (b ∷ form) = cond (eqb b gap) (stops form) true && spaced form

filled_plain : (b : ℕ) (form : List ℕ) (ts : List (List ℕ)) → eqb b gap ≡ false → filled (b ∷ form) ts ≡ b ∷ filled form ts
unfolding filled
filled_plain b form ts e = rw e

filled_mark : (b : ℕ) (form t : List ℕ) (ts : List (List ℕ)) → eqb b gap ≡ true → filled (b ∷ form) (t ∷ ts) ≡ t ++ filled form ts
unfolding filled
filled_mark b form t ts e = rw e

-- what stands behind a mark is a space or a line's end
behind_mark : (form : List ℕ) (ts : List (List ℕ)) → stops form ≡ true → (x : ℕ) × (rest : List ℕ) × (x ≤ 32) × (filled form ts ≡ x ∷ rest)
behind_mark [] ts e = true_false e refl
behind_mark (b ∷ form) ts e =
    let h = leb-true b 32 e in
    (b, filled form ts, h, bool_cases (eqb b gap) (λ t. absurd (omega (arith, eqb-true b gap t))) (λ t. filled_plain b form ts t))

-- Two lines of this form that start the same bytes have the same texts, and the same follows them.
abbrev pub Apart : List ℕ → Type 0
Apart form = (ts us : List (List ℕ)) (u v : List ℕ)
    → marks form ≡ length ts → marks form ≡ length us → Each Plain ts → Each Plain us
    → filled form ts ++ u ≡ filled form us ++ v → (ts ≡ us) × (u ≡ v)

module _ (b : ℕ) (form : List ℕ) (on : Apart form) where
  apart_plain : eqb b gap ≡ false → Apart (b ∷ form)
  apart_plain t ts us u v m n p q e =
      on ts us u v (omega (arith, rw t at m)) (omega (arith, rw t at n)) p q
      (tail-eq_of_cons-eq (rw (filled_plain b form ts t, filled_plain b form us t) at e))

  apart_mark : eqb b gap ≡ true → stops form ≡ true → Apart (b ∷ form)
  apart_mark t s [] us u v m n p q e = absurd (omega (arith, rw t at m))
  apart_mark t s (x ∷ ts) [] u v m n p q e = absurd (omega (arith, rw t at n))
  apart_mark t s (x ∷ ts) (y ∷ us) u v m n p q e =
      let one = behind_mark form ts s in
      let two = behind_mark form us s in
      let whole : x ++ (filled form ts ++ u) ≡ y ++ (filled form us ++ v) =
      sym (append_assoc x (filled form ts) u) ∙ rw (filled_mark b form x ts t, filled_mark b form y us t) at e ∙ append_assoc y (filled form us) v in
      let cut : x ++ (one.0 ∷ (one.1 ++ u)) ≡ y ++ (two.0 ∷ (two.1 ++ v)) = rw (one.3, two.3) at whole in
      let text = (texts_apart x y one.0 two.0 (one.1 ++ u) (two.1 ++ v) p.0 q.0 one.2 two.2 cut).0 in
      let o = on ts us u v (omega (arith, rw t at m)) (omega (arith, rw t at n)) p.1 q.1 (append_cancel_left x _ _ (whole ∙ ap (λ (l : List ℕ). l ++ (filled form us ++ v)) (sym text))) in
      (ap₂ ◌∷◌ text o.0, o.1)

apart_none : Apart []
unfolding filled
apart_none [] [] u v m n p q e = (refl, e)
apart_none [] (y ∷ us) u v m n p q e = absurd (omega arith)
apart_none (x ∷ ts) us u v m n p q e = absurd (omega arith)

-- Law: so it is with every form that has a space or a line's end behind each mark.
pub filled_apart : (form : List ℕ) → spaced form ≡ true → Apart form
filled_apart [] s = apart_none
filled_apart (b ∷ form) s =
    let o = both_true (cond (eqb b gap) (stops form) true) (spaced form) s in
    bool_cases (eqb b gap)
    (λ t. apart_mark b form (filled_apart form o.1) t (rw t at o.0))
    (λ t. apart_plain b form (filled_apart form o.1) t)

-- ---- a frame's line, a message's and a pair's

pub frame_apart : (i j : ℕ) (m n : Head) (b c : ℕ) (u v : List ℕ) → frame_line i m b ++ u ≡ frame_line j n c ++ v
    → (i ≡ j) × (m.frame_type ≡ n.frame_type) × (m.stream ≡ n.stream) × (m.frame ≡ n.frame) × (b ≡ c) × (u ≡ v)
unfolding frame_line
frame_apart i j m n b c u v e =
    let o = filled_apart (letters "frame # type # stream # id # bytes #\n") refl _ _ u v refl refl (texts i m b) (texts j n c) e in
    let t1 = tail-eq_of_cons-eq o.0 in
    let t2 = tail-eq_of_cons-eq t1 in
    let t3 = tail-eq_of_cons-eq t2 in
    let t4 = tail-eq_of_cons-eq t3 in (
      decimal_apart i j (head-eq_of_cons-eq o.0),
      decimal_apart m.frame_type n.frame_type (head-eq_of_cons-eq t1),
      decimal_apart m.stream n.stream (head-eq_of_cons-eq t2),
      decimal_apart m.frame n.frame (head-eq_of_cons-eq t3),
      decimal_apart b c (head-eq_of_cons-eq t4),
      o.1,
    )
  where
    texts : (i : ℕ) (m : Head) (b : ℕ) → Each Plain (decimal i ∷ decimal m.frame_type ∷ decimal m.stream ∷ decimal m.frame ∷ decimal b ∷ [])
    texts i m b = (decimal_plain i, (decimal_plain m.frame_type, (decimal_plain m.stream, (decimal_plain m.frame, (decimal_plain b, tt)))))

-- what a line says of a message, and of a pair: its bytes wherever they stand, and its count or its value
abbrev pub message_means : List ℕ → Message → List ℕ × ℕ
message_means f m = (part f m.start m.len, m.count)

abbrev pub pair_means : List ℕ → Pair → List ℕ × Meaning
pair_means f p = (key_of f p, line_meaning f (record_of p.value))

pub message_apart : (i : ℕ) (f g : List ℕ) (m n : Message) (u v : List ℕ) → message_line i f m ++ u ≡ message_line i g n ++ v
    → (part f m.start m.len ≡ part g n.start n.len) × (m.count ≡ n.count) × (u ≡ v)
unfolding message_line
message_apart i f g m n u v e =
    let o = filled_apart (letters "message # name # args #\n") refl _ _ u v refl refl (texts f m) (texts g n) e in
    let t1 = tail-eq_of_cons-eq o.0 in (
      shown_apart _ _ (head-eq_of_cons-eq t1),
      decimal_apart m.count n.count (head-eq_of_cons-eq (tail-eq_of_cons-eq t1)),
      o.1,
    )
  where
    texts : (f : List ℕ) (m : Message) → Each Plain (decimal i ∷ shown (part f m.start m.len) ∷ decimal m.count ∷ [])
    texts f m = (decimal_plain i, (shown_plain (part f m.start m.len), (decimal_plain m.count, tt)))

-- a value's kind stands in its line
kinds_apart : (k l a b x c d y : ℕ) (f g : List ℕ) → k ≡ l → writable_record (value k a b x) ≡ true → writable_record (value l c d y) ≡ true
    → value_text f (value k a b x) ≡ value_text g (value l c d y) → line_meaning f (value k a b x) ≡ line_meaning g (value l c d y)
kinds_apart k l a b x c d y f g e h w t = rw (sym e) (values_apart k a b x c d y f g h (rw (sym e) at w) (rw (sym e) at t))

abbrev pub Fields : Pair → Type 0
Fields p = writable_record (record_of p.value) ≡ true

pair_plain : (f : List ℕ) (p : Pair) → Each Plain (pair_texts f p)
pair_plain f p = (shown_plain (key_of f p), (decimal_plain p.value.kind, (value_plain f (record_of p.value), tt)))

pub pair_apart : (i : ℕ) (f g : List ℕ) (p q : Pair) (u v : List ℕ) → Fields p → Fields q → pair_line i f p ++ u ≡ pair_line i g q ++ v
    → (pair_means f p ≡ pair_means g q) × (u ≡ v)
unfolding pair_line
pair_apart i f g p q u v h l e =
    let o = filled_apart (letters "pair # key # kind # value #\n") refl _ _ u v refl refl (decimal_plain i, pair_plain f p) (decimal_plain i, pair_plain g q) e in
    let t1 = tail-eq_of_cons-eq o.0 in
    let t2 = tail-eq_of_cons-eq t1 in
    let key : key_of f p ≡ key_of g q = shown_apart _ _ (head-eq_of_cons-eq t1) in
    let kind = decimal_apart p.value.kind q.value.kind (head-eq_of_cons-eq t2) in
    let val = kinds_apart p.value.kind q.value.kind p.value.a p.value.b p.value.flags q.value.a q.value.b q.value.flags f g kind h l (head-eq_of_cons-eq (tail-eq_of_cons-eq t2)) in
    ((λ j. (key j, val j)), o.1)

-- ---- an action's line

-- what a line says of an action: what it does, its scope, and its name and value
abbrev pub action_means : List ℕ → Action → ℕ × ℕ × (List ℕ × Meaning)
action_means f x = (x.verb, x.scope, pair_means f x.pair)

-- an action that has a line, in a frame of any length
abbrev pub Lined : Action → Type 0
Lined x = (n : ℕ) × Acts n x

abbrev set_form : List ℕ
set_form = letters "action # set scope # name # kind # value #\n"

abbrev unset_form : List ℕ
unset_form = letters "action # unset scope # name #\n"

module _ (i : ℕ) (f : List ℕ) (x : Action) where
  set_line : x.verb ≡ 1 → action_line i f x ≡ filled set_form (decimal i ∷ decimal x.scope ∷ pair_texts f x.pair)
  unfolding action_line
  set_line one = rw (eq-eqb x.verb 1 one)

  unset_line : (x.verb ≡ 1 → ⊥) → action_line i f x ≡ filled unset_form (decimal i ∷ decimal x.scope ∷ shown (key_of f x.pair) ∷ [])
  unfolding action_line filled
  unset_line ne = rw (ne_eqb x.verb 1 ne)

  set_plain : Each Plain (decimal i ∷ decimal x.scope ∷ pair_texts f x.pair)
  set_plain = (decimal_plain i, (decimal_plain x.scope, pair_plain f x.pair))

  unset_plain : Each Plain (decimal i ∷ decimal x.scope ∷ shown (key_of f x.pair) ∷ [])
  unset_plain = (decimal_plain i, (decimal_plain x.scope, (shown_plain (key_of f x.pair), tt)))

-- a set's line and an unset's part behind the index
verbs_apart : (i : ℕ) (ts us : List (List ℕ)) (u v : List ℕ) → filled set_form (decimal i ∷ ts) ++ u ≡ filled unset_form (decimal i ∷ us) ++ v → ⊥
unfolding filled
verbs_apart i ts us u v e =
    let o = append_cancel_left (decimal i) _ _ (sym (append_assoc (decimal i) _ u) ∙ ap (drop 7) e ∙ append_assoc (decimal i) _ v) in
    omega (arith, head-eq_of_cons-eq (tail-eq_of_cons-eq o))

module _ (i : ℕ) (f g : List ℕ) (x y : Action) (u v : List ℕ) (h : Lined x) (l : Lined y) (e : action_line i f x ++ u ≡ action_line i g y ++ v) where
  sets_apart : x.verb ≡ 1 → y.verb ≡ 1 → (action_means f x ≡ action_means g y) × (u ≡ v)
  sets_apart one other =
      let p = x.pair.value in
      let q = y.pair.value in
      let o = filled_apart set_form refl _ _ u v refl refl (set_plain i f x) (set_plain i g y)
      (ap (λ (t : List ℕ). t ++ u) (sym (set_line i f x one)) ∙ e ∙ ap (λ (t : List ℕ). t ++ v) (set_line i g y other)) in
      let t1 = tail-eq_of_cons-eq o.0 in
      let t2 = tail-eq_of_cons-eq t1 in
      let t3 = tail-eq_of_cons-eq t2 in
      let verb = one ∙ sym other in
      let scope = decimal_apart x.scope y.scope (head-eq_of_cons-eq t1) in
      let name : key_of f x.pair ≡ key_of g y.pair = shown_apart _ _ (head-eq_of_cons-eq t2) in
      let kind = decimal_apart p.kind q.kind (head-eq_of_cons-eq t3) in
      let val = kinds_apart p.kind q.kind p.a p.b p.flags q.a q.b q.flags f g kind h.1.whole.fields l.1.whole.fields (head-eq_of_cons-eq (tail-eq_of_cons-eq t3)) in
      ((λ j. (verb j, scope j, (name j, val j))), o.1)

  unsets_apart : x.verb ≡ 2 → y.verb ≡ 2 → (action_means f x ≡ action_means g y) × (u ≡ v)
  unfolding shape value_text
  unsets_apart two other =
      let o = filled_apart unset_form refl _ _ u v refl refl (unset_plain i f x) (unset_plain i g y)
      (ap (λ (t : List ℕ). t ++ u) (sym (unset_line i f x (λ z. omega arith))) ∙ e ∙ ap (λ (t : List ℕ). t ++ v) (unset_line i g y (λ z. omega arith))) in
      let t1 = tail-eq_of_cons-eq o.0 in
      let verb = two ∙ sym other in
      let scope = decimal_apart x.scope y.scope (head-eq_of_cons-eq t1) in
      let name : key_of f x.pair ≡ key_of g y.pair = shown_apart _ _ (head-eq_of_cons-eq (tail-eq_of_cons-eq t1)) in
      let val : line_meaning f (record_of x.pair.value) ≡ line_meaning g (record_of y.pair.value) =
      ap (line_meaning f) (h.1.null two) ∙ kinds_apart 0 0 0 0 0 0 0 0 f g refl refl refl refl ∙ sym (ap (line_meaning g) (l.1.null other)) in
      ((λ j. (verb j, scope j, (name j, val j))), o.1)

  -- Law: two lines that start the same bytes are of actions that mean the same, and the same follows them.
  pub action_apart : (action_means f x ≡ action_means g y) × (u ≡ v)
  action_apart =
      by_verb x h.1.verbs
      (λ one.
      by_verb y l.1.verbs (sets_apart one)
      (λ other. absurd (verbs_apart i _ _ u v (ap (λ (t : List ℕ). t ++ u) (sym (set_line i f x one)) ∙ e ∙ ap (λ (t : List ℕ). t ++ v) (unset_line i g y (λ z. omega arith))))))
      (λ two.
      by_verb y l.1.verbs
      (λ other. absurd (verbs_apart i _ _ v u (ap (λ (t : List ℕ). t ++ v) (sym (set_line i g y other)) ∙ sym e ∙ ap (λ (t : List ℕ). t ++ u) (unset_line i f x (λ z. omega arith)))))
      (unsets_apart two))

-- ---- the last line

-- Law: two last lines that are the same say the same.
pub end_apart : (used number at taken other place : ℕ) → end_line used number at ≡ end_line taken other place → (used ≡ taken) × (number ≡ other) × (at ≡ place)
unfolding end_line
end_apart used number at taken other place e =
    let o = filled_apart (letters "end # # #\n") refl _ _ [] [] refl refl (texts used number at) (texts taken other place) (ap (λ (l : List ℕ). l ++ []) e) in
    let t1 = tail-eq_of_cons-eq o.0 in (
      decimal_apart used taken (head-eq_of_cons-eq o.0),
      decimal_apart number other (head-eq_of_cons-eq t1),
      decimal_apart at place (head-eq_of_cons-eq (tail-eq_of_cons-eq t1)),
    )
  where
    texts : (a b c : ℕ) → Each Plain (decimal a ∷ decimal b ∷ decimal c ∷ [])
    texts a b c = (decimal_plain a, (decimal_plain b, (decimal_plain c, tt)))

-- ---- with what they start

pub message_starts : (i : ℕ) (f : List ℕ) (m : Message) → (t : List ℕ) × (message_line i f m ≡ 109 ∷ t)
unfolding message_line filled
message_starts i f m = (_, refl)

pub pair_starts : (i : ℕ) (f : List ℕ) (p : Pair) → (t : List ℕ) × (pair_line i f p ≡ 112 ∷ t)
unfolding pair_line filled
pair_starts i f p = (_, refl)

pub action_starts : (i : ℕ) (f : List ℕ) (x : Action) → (t : List ℕ) × (action_line i f x ≡ 97 ∷ t)
unfolding filled
action_starts i f x =
    bool_cases (eqb x.verb 1) (λ t. (_, set_line i f x (eqb-true x.verb 1 t))) (λ t. (_, unset_line i f x (eqb-false x.verb 1 t)))
