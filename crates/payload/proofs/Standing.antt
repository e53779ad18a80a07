-- Laws about an accepted action: which bytes it is read from.
use Rattle.types.specs.declared.Span.{Span}
use mathlib.Core.Path.{◌≡◌, refl, sym, ap, ap₂, ◌∙◌}
use mathlib.Core.Bool.{true, ◌||◌}
use mathlib.Core.Logic.{⊎_elim}
use mathlib.Core.List.{List, [], ◌∷◌}
use Prim.Native.Nat.{ℕ, ◌+◌, ◌≤◌}
use native.Mathlib.Omega.{arith}
use lib.Dec.{eqb}
use lib.ListN.{length, drop, get_or, length-drop}
use lib.Seq.{drop-drop}
use borrow.Author.Tests.{eqb-true, eqb-false}
use Rattle.answer.specs.Answer.{Answer, done, refused, next, behind}
use Rattle.answer.proofs.Cases.{lt_or_le, bool_cases, true_false, answer_cases, not_both}
use Rattle.types.specs.Value.{span, string, value, shape}
use Rattle.frame.specs.declared.Pair.{Pair}
use Rattle.frame.specs.declared.Action.{Action}
use Rattle.answer.proofs.Answers.{done_same}
use Rattle.payload.specs.Pair.{pair_of, moved_pair, pair_from}
use Rattle.payload.specs.Action.{argument_count, variable, action, moved_action, action_from}
use Rattle.payload.specs.Payload.{moved_span, string_from}
use Rattle.payload.specs.Inner.{Headed}
use Rattle.payload.proofs.Rows.{from_moved}
use Rattle.payload.proofs.Actions.{action_none, action_verb, action_short, action_count, action_shorter, action_scope, action_headed, set_is, unset_refused, unset_done}

-- ---- an action at the front

-- how an accepted action unrolls: three bytes, and its variable behind them
record Acted (s : List ℕ) (x : Action) (used : ℕ) : Type 0 where
  front : s ≡ x.verb ∷ argument_count x.verb ∷ x.scope ∷ drop 3 s
  verbs : eqb x.verb 1 || eqb x.verb 2 ≡ true
  scope : x.scope ≤ 4
  long : 3 ≤ length s
  inner : behind moved_pair 3 (variable x.verb (drop 3 s)) ≡ done x.pair used

three : (s : List ℕ) → 3 ≤ length s → s ≡ get_or s 0 0 ∷ get_or s 1 0 ∷ get_or s 2 0 ∷ drop 3 s
three [] h = absurd (omega arith)
three (a ∷ []) h = absurd (omega arith)
three (a ∷ b ∷ []) h = absurd (omega arith)
three (a ∷ b ∷ c ∷ s) h = refl

unroll : (s : List ℕ) (x : Action) (used : ℕ) → action s ≡ done x used → Acted s x used
unroll s x used e =
    ⊎_elim (λ h. not_both e (action_none s h))
    (λ a.
    bool_cases (eqb (get_or s 0 0) 1 || eqb (get_or s 0 0) 2)
    (λ t.
    ⊎_elim (λ h. not_both e (action_short s a t h))
    (λ b.
    bool_cases (eqb (get_or s 1 0) (argument_count (get_or s 0 0)))
    (λ g.
    let n = eqb-true (get_or s 1 0) (argument_count (get_or s 0 0)) g in
    ⊎_elim (λ h. not_both e (action_shorter s a t b n h))
    (λ d. ⊎_elim (λ h. not_both e (action_scope s a t b n d h)) (λ h. headed t n d h (action_headed s a t b n d h)) (lt_or_le 4 (get_or s 2 0)))
    (lt_or_le (length s) 3))
    (λ g. not_both e (action_count s a t b (eqb-false (get_or s 1 0) (argument_count (get_or s 0 0)) g))))
    (lt_or_le (length s) 2))
    (λ t. not_both e (action_verb s a t)))
    (lt_or_le (length s) 1)
  where
    headed : eqb (get_or s 0 0) 1 || eqb (get_or s 0 0) 2 ≡ true → get_or s 1 0 ≡ argument_count (get_or s 0 0) → 3 ≤ length s → get_or s 2 0 ≤ 4
        → Headed s (get_or s 0 0) (get_or s 2 0) → Acted s x used
    headed t n d h y =
        answer_cases (behind moved_pair 3 (variable (get_or s 0 0) (drop 3 s)))
        (λ p u g.
        let o = done_same (sym (y.is ∙ ap (λ (a : Answer Pair). next a (λ (p : Pair) (n : ℕ). done (record { verb = get_or s 0 0; scope = get_or s 2 0; pair = p }) n)) g) ∙ e) in
        let verb : get_or s 0 0 ≡ x.verb = ap (λ (z : Action). z.verb) o.0 in
        let scope : get_or s 2 0 ≡ x.scope = ap (λ (z : Action). z.scope) o.0 in
        let two = n ∙ ap argument_count verb in
        record {
          front = three s d ∙ ap₂ (λ (i j : ℕ). i ∷ j ∷ get_or s 2 0 ∷ drop 3 s) verb two ∙ ap (λ (i : ℕ). x.verb ∷ argument_count x.verb ∷ i ∷ drop 3 s) scope;
          verbs = rw verb at t;
          scope = omega arith;
          long = d;
          inner = ap (λ (i : ℕ). behind moved_pair 3 (variable i (drop 3 s))) (sym verb) ∙ g ∙ ap₂ done (ap (λ (z : Action). z.pair) o.0) o.1;
        })
        (λ k place r. not_both e (y.is ∙ ap (λ (a : Answer Pair). next a (λ (p : Pair) (n : ℕ). done (record { verb = get_or s 0 0; scope = get_or s 2 0; pair = p }) n)) r))

-- ---- an action at a place

-- What an accepted action at a place says of the bytes: three of them, and behind them a set's name and value or an unset's name.
pub record Stands (f : List ℕ) (at : ℕ) (x : Action) (next : ℕ) : Type 0 where
  pub front : drop at f ≡ x.verb ∷ argument_count x.verb ∷ x.scope ∷ drop (at + 3) f
  pub verbs : eqb x.verb 1 || eqb x.verb 2 ≡ true
  pub scope : x.scope ≤ 4
  pub inside : at + 3 ≤ length f
  pub set : x.verb ≡ 1 → pair_from (at + 3) f ≡ done x.pair next
  pub unset : x.verb ≡ 2 → (string_from (at + 3) f ≡ done (span x.pair.start x.pair.len) next) × (pair_of (span x.pair.start x.pair.len) (value 0 0 0 0) ≡ x.pair)

-- what stands behind three bytes behind so many
string_moved : (f : List ℕ) (at n start len used : ℕ) → string (drop n (drop at f)) ≡ done (span start len) used → string_from (at + n) f ≡ done (span (at + n + start) len) (at + n + used)
string_moved f at n start len used e = ap (behind moved_span (at + n)) (ap string (sym (drop-drop n at f)) ∙ e)

module _ (f : List ℕ) (at : ℕ) (x : Action) (next : ℕ) (e : action_from at f ≡ done x next) where
  there : (y : Action) × (n : ℕ) × (action (drop at f) ≡ done y n) × (moved_action at y ≡ x) × (at + n ≡ next)
  there =
      answer_cases (action (drop at f))
      (λ y n d. let o = done_same (sym (ap (behind moved_action at) d) ∙ e) in (y, n, d, o.0, o.1))
      (λ n place r. not_both e (ap (behind moved_action at) r))

  o : Acted (drop at f) there.0 there.1
  o = unroll (drop at f) there.0 there.1 there.2

  verb : there.0.verb ≡ x.verb
  verb = ap (λ (z : Action). z.verb) there.3

  scope : there.0.scope ≡ x.scope
  scope = ap (λ (z : Action). z.scope) there.3

  variable_there : moved_pair at there.0.pair ≡ x.pair
  variable_there = ap (λ (z : Action). z.pair) there.3

  set_there : x.verb ≡ 1 → pair_from (at + 3) f ≡ done x.pair next
  set_there one =
      let inner : pair_from 3 (drop at f) ≡ done there.0.pair there.1 =
      ap (behind moved_pair 3) (sym (set_is (drop 3 (drop at f))) ∙ ap (λ (i : ℕ). variable i (drop 3 (drop at f))) (sym (verb ∙ one))) ∙ o.inner in
      from_moved f at 3 ∙ ap (behind moved_pair at) inner ∙ ap₂ done variable_there there.4

  unset_there : x.verb ≡ 2 → (string_from (at + 3) f ≡ done (span x.pair.start x.pair.len) next) × (pair_of (span x.pair.start x.pair.len) (value 0 0 0 0) ≡ x.pair)
  unfolding shape
  unset_there two = go (string (drop 3 (drop at f))) refl
    where
      inner : behind moved_pair 3 (variable 2 (drop 3 (drop at f))) ≡ done there.0.pair there.1
      inner = ap (λ (i : ℕ). behind moved_pair 3 (variable i (drop 3 (drop at f)))) (sym (verb ∙ two)) ∙ o.inner

      go : (a : Answer Span) → string (drop 3 (drop at f)) ≡ a
          → (string_from (at + 3) f ≡ done (span x.pair.start x.pair.len) next) × (pair_of (span x.pair.start x.pair.len) (value 0 0 0 0) ≡ x.pair)
      go (done y used) d =
          let q = done_same (sym (ap (behind moved_pair 3) (unset_done (drop 3 (drop at f)) y.start y.len used d)) ∙ inner) in
          let is : moved_pair at (moved_pair 3 (pair_of y (value 0 0 0 0))) ≡ x.pair = ap (moved_pair at) q.0 ∙ variable_there in
          let named : pair_of (span (at + 3 + y.start) y.len) (value 0 0 0 0) ≡ x.pair = ap (λ (i : ℕ). pair_of (span i y.len) (value 0 0 0 0)) (omega arith) ∙ is in
          let begins : at + 3 + y.start ≡ x.pair.start = ap (λ (p : Pair). p.start) named in
          let long : y.len ≡ x.pair.len = ap (λ (p : Pair). p.len) named in
          let ends : at + 3 + used ≡ next = omega (arith, q.1, there.4) in (
            string_moved f at 3 y.start y.len used d ∙ ap₂ (λ (i j : ℕ). done (span i j) (at + 3 + used)) begins long ∙ ap (done (span x.pair.start x.pair.len)) ends,
            ap₂ (λ (i j : ℕ). pair_of (span i j) (value 0 0 0 0)) (sym begins) (sym long) ∙ named,
          )
      go (refused n place) r = not_both inner (ap (behind moved_pair 3) (unset_refused (drop 3 (drop at f)) n place r))

  pub stands : Stands f at x next
  stands =
      record {
        front =
            o.front
            ∙ ap₂ (λ (i j : ℕ). i ∷ argument_count i ∷ j ∷ drop 3 (drop at f)) verb scope
            ∙ ap (λ (l : List ℕ). x.verb ∷ argument_count x.verb ∷ x.scope ∷ l) (drop-drop 3 at f);
        verbs = rw verb at o.verbs;
        scope = omega (arith, scope, o.scope);
        inside = omega (arith, o.long, length-drop at f);
        set = set_there;
        unset = unset_there;
      }

-- a law about an action goes by what it does
pub by_verb : {G : Type 0} (x : Action) → eqb x.verb 1 || eqb x.verb 2 ≡ true → (x.verb ≡ 1 → G) → (x.verb ≡ 2 → G) → G
by_verb x t set unset =
    bool_cases (eqb x.verb 1) (λ a. set (eqb-true x.verb 1 a))
    (λ a. bool_cases (eqb x.verb 2) (λ b. unset (eqb-true x.verb 2 b)) (λ b. true_false t (rw (a, b))))
