-- Laws about reading an action: each line of its order, what an accepted one says of the bytes, and where it is refused.
use Rattle.std.specs.Prelude.{Result, Ok, Err}
use Rattle.answer.specs.declared.Read.{Read}
use Rattle.answer.specs.declared.Refusal.{Refusal}
use Rattle.answer.specs.Writes.{read_said}
use Rattle.payload.specs.Inner.{action_behind, variable_moved}
use mathlib.Core.Path.{◌≡◌, refl, sym, ap, ◌∙◌}
use mathlib.Core.Bool.{true, false, ◌||◌}
use mathlib.Core.Logic.{⊎_elim}
use mathlib.Core.List.{List}
use Prim.Native.Nat.{ℕ, ◌+◌, ◌-◌, ◌≤◌, ◌<◌}
use native.Mathlib.Omega.{arith}
use lib.Dec.{eqb}
use lib.ListN.{length, drop, get_or, length-drop}
use borrow.Author.Tests.{lt-ltb, le-ltb, le-leb, lt-leb, eq-eqb, ne_eqb, eqb-true, eqb-false}
use Rattle.answer.specs.Answer.{Answer, done, refused, next, behind}
use Rattle.answer.specs.Order.{in_order}
use Rattle.answer.proofs.Cases.{lt_or_le, bool_cases, answer_cases, not_both}
use Rattle.types.specs.Value.{span, string, value}
use Rattle.types.specs.declared.Span.{Span}
use Rattle.types.proofs.Reading.{string_accepted, string_place}
use Rattle.types.proofs.Shapes.{points_yes}
use Rattle.frame.specs.declared.Pair.{Pair}
use Rattle.frame.specs.declared.Action.{Action}
use Rattle.payload.specs.Pair.{pair_of, moved_pair, pair}
use Rattle.payload.proofs.Pairs.{pair_accepted, pair_place}
use Rattle.answer.proofs.Answers.{ends, done_same, refused_same}
use Rattle.payload.specs.Action.{argument_count, variable, action, moved_action, action_from}
use Rattle.payload.specs.Inner.{Headed}

-- ---- the order

module _ (s : List ℕ) where
  pub action_none : length s < 1 → action s ≡ refused 3 0
  unfolding action in_order
  action_none h = rw (le-ltb 0 (length s) (omega arith))

  module _ (a : 1 ≤ length s) where
    pub action_verb : eqb (get_or s 0 0) 1 || eqb (get_or s 0 0) 2 ≡ false → action s ≡ refused 18 1
    unfolding action in_order
    action_verb t = rw (lt-ltb 0 (length s) a, t)

    module _ (t : eqb (get_or s 0 0) 1 || eqb (get_or s 0 0) 2 ≡ true) where
      pub action_short : length s < 2 → action s ≡ refused 3 1
      unfolding action in_order
      action_short h = rw (lt-ltb 0 (length s) a, t, le-ltb 1 (length s) (omega arith))

      module _ (b : 2 ≤ length s) where
        pub action_count : (get_or s 1 0 ≡ argument_count (get_or s 0 0) → ⊥) → action s ≡ refused 18 2
        unfolding action in_order
        action_count ne = rw (lt-ltb 0 (length s) a, t, lt-ltb 1 (length s) b, ne_eqb (get_or s 1 0) (argument_count (get_or s 0 0)) ne)

        module _ (n : get_or s 1 0 ≡ argument_count (get_or s 0 0)) where
          pub action_shorter : length s < 3 → action s ≡ refused 3 2
          unfolding action in_order
          action_shorter h =
              rw (lt-ltb 0 (length s) a, t, lt-ltb 1 (length s) b, eq-eqb (get_or s 1 0) (argument_count (get_or s 0 0)) n, le-ltb 2 (length s) (omega arith))

          module _ (d : 3 ≤ length s) where
            pub action_scope : 4 < get_or s 2 0 → action s ≡ refused 18 3
            unfolding action in_order
            action_scope h =
                rw (lt-ltb 0 (length s) a, t, lt-ltb 1 (length s) b, eq-eqb (get_or s 1 0) (argument_count (get_or s 0 0)) n, lt-ltb 2 (length s) d, lt-leb (get_or s 2 0) 4 h)

            on : get_or s 2 0 ≤ 4
                → action s ≡ next (behind moved_pair 3 (variable (get_or s 0 0) (drop 3 s))) (λ (p : Pair) (used : ℕ). done (record { verb = get_or s 0 0; scope = get_or s 2 0; pair = p }) used)
            unfolding action in_order
            on h =
                rw (lt-ltb 0 (length s) a, t, lt-ltb 1 (length s) b, eq-eqb (get_or s 1 0) (argument_count (get_or s 0 0)) n, lt-ltb 2 (length s) d, le-leb (get_or s 2 0) 4 h)

            pub action_headed : get_or s 2 0 ≤ 4 → Headed s (get_or s 0 0) (get_or s 2 0)
            action_headed h = record { long = d; is = on h }

  -- a law about an action goes by its three bytes: it is refused within them, or its variable is left
  pub action_cases : {G : Type 0}
      → ((n place : ℕ) → action s ≡ refused n place → place ≤ length s → G)
      → ((verb scope : ℕ) → Headed s verb scope → G)
      → G
  action_cases bad left =
      ⊎_elim (λ h. bad 3 0 (action_none h) (omega arith))
      (λ a.
      bool_cases (eqb (get_or s 0 0) 1 || eqb (get_or s 0 0) 2)
      (λ t.
      ⊎_elim (λ h. bad 3 1 (action_short a t h) a)
      (λ b.
      bool_cases (eqb (get_or s 1 0) (argument_count (get_or s 0 0)))
      (λ e.
      let n = eqb-true (get_or s 1 0) (argument_count (get_or s 0 0)) e in
      ⊎_elim (λ h. bad 3 2 (action_shorter a t b n h) b)
      (λ d.
      ⊎_elim (λ h. bad 18 3 (action_scope a t b n d h) d) (λ h. left (get_or s 0 0) (get_or s 2 0) (action_headed a t b n d h)) (lt_or_le 4 (get_or s 2 0)))
      (lt_or_le (length s) 3))
      (λ e. bad 18 2 (action_count a t b (eqb-false (get_or s 1 0) (argument_count (get_or s 0 0)) e)) b))
      (lt_or_le (length s) 2))
      (λ t. bad 18 1 (action_verb a t) a))
      (lt_or_le (length s) 1)

-- ---- the variable

-- It takes a byte at least and no more than are there; its name lies inside them, and so does its value where it points.
pub record Inside (there : ℕ) (p : Pair) (used : ℕ) : Type 0 where
  pub some : 1 ≤ used
  pub most : used ≤ there
  pub name : p.start + p.len ≤ used
  pub value : 6 ≤ p.value.kind → p.value.kind < 10 → p.value.a + p.value.b ≤ used

module _ (s : List ℕ) where
  pub set_is : variable 1 s ≡ pair s
  unfolding variable
  set_is = refl

  pub unset_refused : (n place : ℕ) → string s ≡ refused n place → variable 2 s ≡ refused n place
  unfolding variable
  unset_refused n place e = rw e

  pub unset_done : (start len used : ℕ) → string s ≡ done (span start len) used → variable 2 s ≡ done (pair_of (span start len) (value 0 0 0 0)) used
  unfolding variable
  unset_done start len used e = rw e

  -- the name alone, of anything but a set
  named : Answer Span → Answer Pair
  named a = next a (λ (name : Span) (used : ℕ). done (pair_of name (value 0 0 0 0)) used)

  variable_by : {G : Type 0} (verb : ℕ) → (variable verb s ≡ pair s → G) → (variable verb s ≡ named (string s) → G) → G
  unfolding variable named
  variable_by verb set unset = bool_cases (eqb verb 1) (λ t. set (rw t)) (λ t. unset (rw t))

  named_inside : (x : Answer Span) (p : Pair) (used : ℕ) → string s ≡ x → named x ≡ done p used → Inside (length s) p used
  unfolding named
  named_inside (done x n) p used e is =
      let k = string_accepted s x.start x.len n e in
      let o = done_same is in
      rw (sym o.0, sym o.1)
      (record { some = omega (arith, k.0); most = omega (arith, k.1); name = omega (arith, k.3); value = λ h l. absurd (omega arith) })
  named_inside (refused n place) p used e is = not_both is refl

  named_place : (x : Answer Span) (n place : ℕ) → string s ≡ x → named x ≡ refused n place → place ≤ length s
  unfolding named
  named_place (done x k) n place e is = not_both refl is
  named_place (refused k p) n place e is = omega (arith, string_place s k p e, refused_same is)

  pub variable_inside : (verb : ℕ) (p : Pair) (used : ℕ) → variable verb s ≡ done p used → Inside (length s) p used
  variable_inside verb p used e =
      variable_by verb
      (λ is. let i = pair_accepted s p used (sym is ∙ e) in record { some = omega (arith, i.some); most = i.most; name = i.key; value = i.value })
      (λ is. named_inside (string s) p used refl (sym is ∙ e))

  pub variable_place : (verb n place : ℕ) → variable verb s ≡ refused n place → place ≤ length s
  variable_place verb n place e =
      variable_by verb (λ is. pair_place s n place (sym is ∙ e)) (λ is. named_place (string s) n place refl (sym is ∙ e))

-- ---- the action

-- behind other bytes it lies there
inside_moved : (k there : ℕ) (p : Pair) (used : ℕ) → Inside there p used → Inside (k + there) (moved_pair k p) (k + used)
inside_moved k there p used i =
    record {
      some = omega (arith, i.some);
      most = omega (arith, i.most);
      name = omega (arith, i.name);
      value = λ h l. rw (points_yes p.value.kind h l) (omega (arith, i.value h l));
    }

module _ (s : List ℕ) (verb scope : ℕ) (h : Headed s verb scope) where
  headed_refused : (n place : ℕ) → variable verb (drop 3 s) ≡ refused n place → action s ≡ refused n (3 + place)
  headed_refused n place e = h.is ∙ ap (λ (a : Answer Pair). next (behind moved_pair 3 a) (λ (p : Pair) (used : ℕ). done (record { verb = verb; scope = scope; pair = p }) used)) e

  headed_done : (p : Pair) (used : ℕ) → variable verb (drop 3 s) ≡ done p used → action s ≡ done (record { verb = verb; scope = scope; pair = moved_pair 3 p }) (3 + used)
  headed_done p used e = h.is ∙ ap (λ (a : Answer Pair). next (behind moved_pair 3 a) (λ (q : Pair) (n : ℕ). done (record { verb = verb; scope = scope; pair = q }) n)) e

pub set_refused : (s : List ℕ) (scope : ℕ) → Headed s 1 scope → (n place : ℕ) → pair (drop 3 s) ≡ refused n place → action s ≡ refused n (3 + place)
set_refused s scope h n place e = headed_refused s 1 scope h n place (set_is (drop 3 s) ∙ e)

pub set_done : (s : List ℕ) (scope : ℕ) → Headed s 1 scope → (p : Pair) (used : ℕ) → pair (drop 3 s) ≡ done p used
    → action s ≡ done (record { verb = 1; scope = scope; pair = moved_pair 3 p }) (3 + used)
set_done s scope h p used e = headed_done s 1 scope h p used (set_is (drop 3 s) ∙ e)

pub name_refused : (s : List ℕ) (scope : ℕ) → Headed s 2 scope → (n place : ℕ) → string (drop 3 s) ≡ refused n place → action s ≡ refused n (3 + place)
name_refused s scope h n place e = headed_refused s 2 scope h n place (unset_refused (drop 3 s) n place e)

pub name_done : (s : List ℕ) (scope : ℕ) → Headed s 2 scope → (start len used : ℕ) → string (drop 3 s) ≡ done (span start len) used
    → action s ≡ done (record { verb = 2; scope = scope; pair = moved_pair 3 (pair_of (span start len) (value 0 0 0 0)) }) (3 + used)
name_done s scope h start len used e = headed_done s 2 scope h (pair_of (span start len) (value 0 0 0 0)) used (unset_done (drop 3 s) start len used e)

-- Law: what an accepted action says of the bytes, and where one is refused: within them, their end included.
pub action_inside : (s : List ℕ) (x : Action) (used : ℕ) → action s ≡ done x used → Inside (length s) x.pair used
action_inside s x used e =
    action_cases s
    (λ n place r l. not_both e r)
    (λ verb scope h.
    answer_cases (variable verb (drop 3 s))
    (λ p u d.
    let o = done_same (sym (headed_done s verb scope h p u d) ∙ e) in
    let all : 3 + length (drop 3 s) ≡ length s = omega (arith, length-drop 3 s, h.long) in
    rw (sym o.0, sym o.1) (rw all at (inside_moved 3 (length (drop 3 s)) p u (variable_inside (drop 3 s) verb p u d))))
    (λ n place r. not_both e (headed_refused s verb scope h n place r)))

pub action_place : (s : List ℕ) (n place : ℕ) → action s ≡ refused n place → place ≤ length s
action_place s n place e =
    action_cases s
    (λ m p r l. omega (arith, l, refused_same (sym r ∙ e)))
    (λ verb scope h.
    answer_cases (variable verb (drop 3 s))
    (λ p u d. not_both (headed_done s verb scope h p u d) e)
    (λ m p r. omega (arith, variable_place (drop 3 s) verb m p r, length-drop 3 s, h.long, refused_same (sym (headed_refused s verb scope h m p r) ∙ e))))

pub action_ends : (s : List ℕ) → ends (action s) ≤ length s
action_ends s =
    answer_cases (action s)
    (λ x used e. rw e (action_inside s x used e).most)
    (λ n place e. rw e (action_place s n place e))

-- What the reader of an action says is what it gives, with its variable counted from its first byte.
pub action_moved : (r : Result (Read Action) Refusal) → action_behind r ≡ next (read_said r) (λ x used. done (variable_moved x) used)
action_moved (Ok x) = refl
action_moved (Err y) = refl

-- ---- the action that stands at a place

module _ (s : List ℕ) (at : ℕ) (there : at ≤ length s) where
  pub action_none_at : (n place : ℕ) → action (drop at s) ≡ refused n place → (action_from at s ≡ refused n (at + place)) × (at + place ≤ length s)
  action_none_at n place e = (ap (behind moved_action at) e, omega (arith, action_place (drop at s) n place e, length-drop at s))

  pub action_some_at : (x : Action) (used : ℕ) → action (drop at s) ≡ done x used
      → (action_from at s ≡ done (moved_action at x) (at + used)) × Inside (length s - at) x.pair used
  action_some_at x used e = (ap (behind moved_action at) e, rw (length-drop at s) at (action_inside (drop at s) x used e))

-- Law: it ends behind its place, and within the bytes.
pub action_next : (s : List ℕ) (at : ℕ) (x : Action) (end : ℕ) → action_from at s ≡ done x end → (at < end) × (end ≤ length s)
action_next s at x end e =
    answer_cases (action (drop at s))
    (λ y used d.
    let i = action_inside (drop at s) y used d in
    let o = done_same (sym (ap (behind moved_action at) d) ∙ e) in
    omega (arith, i.some, i.most, o.1, length-drop at s))
    (λ n place r. not_both e (ap (behind moved_action at) r))
