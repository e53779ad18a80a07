-- What was written stands in a row, where it is read: the pairs, the actions, and the messages with their arguments of a payload that stands in the bytes f from a
-- place on. With any bytes t behind f they mean what they meant in the buffer that they were written from.
use mathlib.Core.Path.{◌≡◌, refl, sym, ap, ap₂, subst, ◌∙◌}
use mathlib.Core.Bool.{true}
use mathlib.Core.List.{List, [], ◌∷◌, ◌++◌, map, append_assoc, map-map}
use Prim.Native.Nat.{ℕ, zero, suc, ◌+◌, ◌^◌, ◌≤◌, ◌<◌}
use native.Mathlib.Omega.{arith}
use lib.Dec.{eqb}
use lib.ListN.{length, drop, get_or, length-append, length-map}
use lib.Seq.{drop-drop, drop_at, drop-append-le, get_or-drop, get_or_at}
use borrow.Author.Tests.{eqb-true, eqb-false}
use Rattle.answer.specs.Answer.{done, behind}
use Rattle.answer.specs.Table.{records, joined}
use Rattle.answer.specs.Inner as inner
use Rattle.answer.proofs.Cases.{bool_cases, true_false, both_true}
use Rattle.answer.proofs.Records.{records_length}
use Rattle.types.specs.Value.{span, string, Record, value}
use Rattle.types.specs.Form.{part, string_bytes, value_bytes}
use Rattle.types.specs.Promise.{record_of}
use Rattle.types.proofs.Roundtrip.{Meaning, meaning, ahead, string_reads_back}
use Rattle.types.proofs.Writing.{string_length}
use Rattle.frame.specs.declared.Pair.{Pair}
use Rattle.frame.specs.declared.Message.{Message}
use Rattle.frame.specs.declared.Action.{Action}
use Rattle.frame.specs.Records.{key_of, pair_at, message_at, action_at}
use Rattle.frame.proofs.Meaning.{pair_meaning, message_meaning, action_meaning}
use Rattle.payload.specs.Pair.{moved_pair, pair, pair_from}
use Rattle.payload.specs.Action.{action, moved_action, action_from}
use Rattle.payload.specs.Payload.{moved_span, string_from, message_of}
use Rattle.payload.proofs.Steps.{count_there}
use Rattle.answer.proofs.Row.{Row, Found, found_row}
use Rattle.payload.proofs.Accepted.{Group}
use Rattle.payload.proofs.Back.{part_moved, pair_moved, pair_back, ActionBack, set_back, unset_back}
use Rattle.writer.specs.Pair.{pair_bytes}
use Rattle.writer.specs.Action.{no_value, action_bytes, action_checks}
use Rattle.writer.specs.Message.{name_bytes, message_bytes, run_start}
use Rattle.writer.specs.Inner.{Formed, action_order}
use Rattle.writer.proofs.Pairs.{pair_bytes_lem}
use Rattle.writer.proofs.Messages.{arguments_of}
use Rattle.writer.proofs.Actions.{writable_unset, writable_other, set_bytes, unset_bytes, passed_scope, passed_form}

-- ---- records in a row

-- Record i of a table is written as `form (at i)`. Something that means the same stands where that does.
module _ {P X Y C : Type 0} (Here : P → X → P → Type 0) (place : P → ℕ) (At : ℕ → P → Type 0) (f : List ℕ) (form : Y → List ℕ) (at : ℕ → Y) (g : X → C) (h : Y → C) where
  pub record One (i : ℕ) (p : P) : Type 0 where
    pub found : X
    pub to : P
    pub here : Here p found to
    pub ends : place p + length (form (at i)) ≡ place to
    pub next : At (suc i) to
    pub same : g found ≡ h (at i)

  pub record Many (i n : ℕ) (p : P) (rest : List ℕ) : Type 0 where
    pub these : List X
    pub to : P
    pub row : Row Here p these to
    pub inside : place to + length rest ≡ length f
    pub next : At (i + n) to
    pub same : map g these ≡ map h (records at i n)

  -- Law: where it is so with each of the first records, it is so with all that stand one behind the other.
  pub many_back : (last : ℕ)
      → ((i : ℕ) → i < last → (p : P) (r : List ℕ) → At i p → drop (place p) f ≡ form (at i) ++ r → place p + length (form (at i) ++ r) ≡ length f → One i p)
      → (n i : ℕ) (p : P) (rest : List ℕ) → i + n ≤ last → At i p → drop (place p) f ≡ joined form (records at i n) ++ rest
      → place p + length (joined form (records at i n) ++ rest) ≡ length f → Many i n p rest
  unfolding records joined
  many_back last each zero i p rest l a e long =
      let here : i + 0 ≡ i = omega arith in
      record { these = []; to = p; row = refl; inside = long; next = rw here a; same = refl }
  many_back last each (suc n) i p rest l a e long =
      let behind = joined form (records at (suc i) n) ++ rest in
      let first = form (at i) in
      let split = append_assoc first (joined form (records at (suc i) n)) rest in
      let o = each i (omega arith) p behind a (e ∙ split) (ap (λ (b : List ℕ). place p + length b) (sym split) ∙ long) in
      let there : drop (place o.to) f ≡ behind =
      ap (λ (k : ℕ). drop k f) (sym o.ends) ∙ sym (drop-drop (length first) (place p) f) ∙ ap (drop (length first)) (e ∙ split) ∙ drop_at first behind (length first) refl in
      let m = many_back last each n (suc i) o.to rest (omega arith) o.next there (omega (arith, o.ends, ap length split, length-append first behind)) in
      let on : i + suc n ≡ suc i + n = omega arith in
      record { these = o.found ∷ m.these; to = m.to; row = (o.to, o.here, m.row); inside = m.inside; next = rw on m.next; same = ap₂ ◌∷◌ o.same m.same }

-- two facts of each, taken apart
abbrev two : {A C D : Type 0} → (A → C) → (A → D) → A → C × D
two a b x = (a x, b x)

pub both_same : {A B C D : Type 0} (a : A → C) (b : A → D) (c : B → C) (d : B → D) (xs : List A) (ys : List B) → map (two a b) xs ≡ map (two c d) ys
    → (map a xs ≡ map c ys) × (map b xs ≡ map d ys)
both_same {A} {B} {C} {D} a b c d xs ys e = (
  sym (map-map (λ (z : C × D). z.0) (two a b) xs) ∙ ap (map (λ (z : C × D). z.0)) e ∙ map-map (λ (z : C × D). z.0) (two c d) ys,
  sym (map-map (λ (z : C × D). z.1) (two a b) xs) ∙ ap (map (λ (z : C × D). z.1)) e ∙ map-map (λ (z : C × D). z.1) (two c d) ys,
)

-- what means the same as so many records are as many
pub as_many : {A B C : Type 0} (g : A → C) (h : B → C) (at : ℕ → B) (i n : ℕ) (xs : List A) → map g xs ≡ map h (records at i n) → length xs ≡ n
as_many g h at i n xs e = sym (length-map xs g) ∙ ap length e ∙ length-map (records at i n) h ∙ records_length at n i

-- ---- an action

-- an unset has no value
no_value_lem : (v : Record) → no_value v ≡ true → v ≡ value 0 0 0 0
no_value_lem (value kind a b flags) e =
    let one = both_true (eqb kind 0) _ e in
    let two = both_true (eqb a 0) _ one.1 in
    let three = both_true (eqb b 0) (eqb flags 0) two.1 in
    let k = eqb-true kind 0 one.0 in
    let x = eqb-true a 0 two.0 in
    let y = eqb-true b 0 three.0 in
    let z = eqb-true flags 0 three.1 in
    cc

-- Law: each action that passes the writer's checks reads back.
module _ (buffer : List ℕ) (x : Action) (e : inner.Passes (action_checks buffer x)) (r t : List ℕ) (small : length (action_bytes buffer x) < 2 ^ 64) where
  abbrev key : List ℕ
  key = key_of buffer x.pair

  set_so : x.verb ≡ 1 → ActionBack buffer (action_bytes buffer x) r t (action_meaning buffer x)
  set_so verb =
      let is : action_bytes buffer x ≡ 1 ∷ 3 ∷ x.scope ∷ (string_bytes key ++ value_bytes buffer (record_of x.pair.value)) =
      set_bytes buffer x verb ∙ ap (λ (l : List ℕ). 1 ∷ 3 ∷ x.scope ∷ l) (pair_bytes_lem buffer x.pair) in
      let f = passed_form buffer x e in
      let few : length key < 2 ^ 64 = omega (arith, small, ap length is, length-append (string_bytes key) (value_bytes buffer (record_of x.pair.value)), string_length key) in
      rw (is, verb) (set_back buffer key r t few x.scope (passed_scope buffer x e) (record_of x.pair.value) f.fields f.range)

  unset_so : x.verb ≡ 2 → ActionBack buffer (action_bytes buffer x) r t (action_meaning buffer x)
  unset_so verb =
      let is = unset_bytes buffer x (λ z. omega (arith, z, verb)) in
      let few : length key < 2 ^ 64 = omega (arith, small, ap length is, string_length key) in
      let none = no_value_lem (record_of x.pair.value) (sym (writable_unset x (passed_scope buffer x e) verb) ∙ e.0) in
      subst (λ (v : Record). ActionBack buffer (action_bytes buffer x) r t (x.verb, x.scope, (key, meaning buffer v))) (sym none)
      (rw (is, verb) (unset_back buffer key r t few x.scope (passed_scope buffer x e)))

  pub action_back : ActionBack buffer (action_bytes buffer x) r t (action_meaning buffer x)
  action_back =
      bool_cases (eqb x.verb 1) (λ a. set_so (eqb-true x.verb 1 a))
      (λ a.
      bool_cases (eqb x.verb 2) (λ b. unset_so (eqb-true x.verb 2 b))
      (λ b.
      true_false e.0
      (writable_other x (passed_scope buffer x e) (eqb-false x.verb 1 a) (eqb-false x.verb 2 b))))

-- ---- f, with t behind it, and what was written from a buffer

module _ (f t buffer : List ℕ) (short : length f < 2 ^ 64) where
  abbrev input : List ℕ
  input = f ++ t

  -- where these bytes stand in f, they stand in the input with t behind them
  stands : (at : ℕ) (form r : List ℕ) → drop at f ≡ form ++ r → at + length (form ++ r) ≡ length f → drop at input ≡ form ++ (r ++ t)
  stands at form r e long = drop-append-le at f t (omega arith) ∙ ap (λ (l : List ℕ). l ++ t) e ∙ append_assoc form r t

  -- ---- pairs

  -- what is said of a pair: its key, among the frame's bytes, and its meaning
  abbrev pub pair_is_lem : Pair → List ℕ × (List ℕ × Meaning)
  pair_is_lem p = (key_of f p, pair_meaning input p)

  abbrev pub pair_was : Pair → List ℕ × (List ℕ × Meaning)
  pair_was p = (key_of buffer p, pair_meaning buffer p)

  abbrev pub Anywhere : ℕ → ℕ → Type 0
  Anywhere i at = Unit

  module _ (pairs : List ℕ) (total : ℕ) (formed : (i : ℕ) → i < total → Formed buffer (pair_at pairs i)) where
    pair_one : (i : ℕ) → i < total → (at : ℕ) (r : List ℕ) → Anywhere i at → drop at f ≡ pair_bytes buffer (pair_at pairs i) ++ r
        → at + length (pair_bytes buffer (pair_at pairs i) ++ r) ≡ length f → One (Found (λ n. pair_from n f)) (λ n. n) Anywhere f (pair_bytes buffer) (pair_at pairs) pair_is_lem pair_was i at
    unfolding pair_bytes
    pair_one i l at r a e long =
        let p = pair_at pairs i in
        let key = string_bytes (key_of buffer p) in
        let form = key ++ value_bytes buffer (record_of p.value) in
        let few : length (key_of buffer p) < 2 ^ 64 = omega (arith, short, long, length-append form r, length-append key (value_bytes buffer (record_of p.value)), string_length (key_of buffer p)) in
        let b = pair_back buffer (key_of buffer p) (record_of p.value) few (formed i l).fields (formed i l).range r t in
        record {
          found = moved_pair at b.found;
          to = at + length form;
          here = ap (behind moved_pair at) (ap pair e ∙ b.reads);
          ends = refl;
          next = tt;
          same =
              ap₂ (λ (x : List ℕ) (y : List ℕ × Meaning). (x, y))
              (part_moved f at b.found.start b.found.len ∙ ap (λ (l : List ℕ). key_of l b.found) e ∙ b.key)
              (pair_moved input at b.found ∙ ap (λ (l : List ℕ). pair_meaning l b.found) (stands at form r e long) ∙ b.same);
        }

    -- Law: pairs that were written one behind the other stand so.
    pub pairs_back : (n i at : ℕ) (rest : List ℕ) → i + n ≤ total → drop at f ≡ joined (pair_bytes buffer) (records (pair_at pairs) i n) ++ rest
        → at + length (joined (pair_bytes buffer) (records (pair_at pairs) i n) ++ rest) ≡ length f
        → Many (Found (λ n. pair_from n f)) (λ n. n) Anywhere f (pair_bytes buffer) (pair_at pairs) pair_is_lem pair_was i n at rest
    pairs_back n i at rest l e long =
        many_back (Found (λ n. pair_from n f)) (λ n. n) Anywhere f (pair_bytes buffer) (pair_at pairs) pair_is_lem pair_was total pair_one n i at rest l tt e long

  -- ---- actions

  module _ (rows : List ℕ) (total : ℕ) (passed : inner.Sound (action_order buffer rows) total) where
    action_one : (i : ℕ) → i < total → (at : ℕ) (r : List ℕ) → Anywhere i at → drop at f ≡ action_bytes buffer (action_at rows i) ++ r
        → at + length (action_bytes buffer (action_at rows i) ++ r) ≡ length f
        → One (Found (λ n. action_from n f)) (λ n. n) Anywhere f (action_bytes buffer) (action_at rows) (action_meaning input) (action_meaning buffer) i at
    action_one i l at r a e long =
        let form = action_bytes buffer (action_at rows i) in
        let b = action_back buffer (action_at rows i) (passed.each i l) r t (omega (arith, short, long, length-append form r)) in
        let y = b.found in
        record {
          found = moved_action at y;
          to = at + length form;
          here = ap (behind moved_action at) (ap action e ∙ b.reads);
          ends = refl;
          next = tt;
          same = ap (λ (m : List ℕ × Meaning). (y.verb, y.scope, m)) (pair_moved input at y.pair) ∙ ap (λ (l : List ℕ). action_meaning l y) (stands at form r e long) ∙ b.same;
        }

    -- Law: so do actions.
    pub actions_back : (at : ℕ) → drop at f ≡ joined (action_bytes buffer) (records (action_at rows) 0 total) ++ []
        → at + length (joined (action_bytes buffer) (records (action_at rows) 0 total) ++ []) ≡ length f
        → Many (Found (λ n. action_from n f)) (λ n. n) Anywhere f (action_bytes buffer) (action_at rows) (action_meaning input) (action_meaning buffer) 0 total at []
    actions_back at e long =
        many_back (Found (λ n. action_from n f)) (λ n. n) Anywhere f (action_bytes buffer) (action_at rows) (action_meaning input) (action_meaning buffer) total action_one total 0 at []
        (omega arith) tt e long

  -- ---- messages

  -- what is said of a message with its arguments
  abbrev pub group_is : Message × List Pair → (List ℕ × ℕ × ℕ) × List (List ℕ × Meaning)
  group_is g = (message_meaning input g.0, map (pair_meaning input) g.1)

  abbrev pub group_was : List ℕ → Message → (List ℕ × ℕ × ℕ) × List (List ℕ × Meaning)
  group_was pairs m = (message_meaning buffer m, map (pair_meaning buffer) (arguments_of pairs m))

  -- it is behind so many pairs
  abbrev pub Behind : List ℕ → ℕ → ℕ × ℕ → Type 0
  Behind messages j p = p.1 ≡ run_start messages j

  module _ (messages pairs : List ℕ) (count total : ℕ) (formed : (i : ℕ) → i < total → Formed buffer (pair_at pairs i))
      (starts : (j : ℕ) → j < count → (message_at messages j).first ≡ run_start messages j)
      (ends : (j : ℕ) → j < count → (message_at messages j).first + (message_at messages j).count ≤ total) where
    module _ (j : ℕ) (l : j < count) (p : ℕ × ℕ) (r : List ℕ) (a : Behind messages j p) (e : drop p.0 f ≡ message_bytes buffer pairs (message_at messages j) ++ r)
        (long : p.0 + length (message_bytes buffer pairs (message_at messages j) ++ r) ≡ length f) where
      abbrev m : Message
      m = message_at messages j

      abbrev name : List ℕ
      name = part buffer m.start m.len

      abbrev rest : List ℕ
      rest = joined (pair_bytes buffer) (arguments_of pairs m) ++ r

      parts : message_bytes buffer pairs m ++ r ≡ string_bytes name ++ (m.count ∷ rest)
      unfolding message_bytes name_bytes
      parts = simp append_assoc

      there : drop p.0 f ≡ string_bytes name ++ (m.count ∷ rest)
      there = e ∙ parts

      all : p.0 + length (string_bytes name ++ (m.count ∷ rest)) ≡ length f
      all = ap (λ (b : List ℕ). p.0 + length b) (sym parts) ∙ long

      few : length name < 2 ^ 64
      few = omega (arith, short, all, length-append (string_bytes name) (m.count ∷ rest), string_length name)

      abbrev end : ℕ
      end = p.0 + length (string_bytes name)

      named : string_from p.0 f ≡ done (span (p.0 + ahead name) (length name)) end
      named = ap (behind moved_span p.0) (ap string there ∙ (string_reads_back name (m.count ∷ rest) few).0)

      count_same : get_or f end 0 ≡ m.count
      count_same =
          sym (get_or-drop p.0 f (length (string_bytes name)) 0)
          ∙ ap (λ (b : List ℕ). get_or b (length (string_bytes name)) 0) there
          ∙ get_or_at (string_bytes name) m.count rest 0 (length (string_bytes name)) refl

      behind_name : drop (end + 1) f ≡ rest
      behind_name =
          sym (drop-drop 1 end f)
          ∙ ap (drop 1) (sym (drop-drop (length (string_bytes name)) p.0 f) ∙ ap (drop (length (string_bytes name))) there ∙ drop_at (string_bytes name) (m.count ∷ rest) (length (string_bytes name)) refl)

      run : Many (Found (λ n. pair_from n f)) (λ n. n) Anywhere f (pair_bytes buffer) (pair_at pairs) pair_is_lem pair_was m.first m.count (end + 1) r
      run = pairs_back pairs total formed m.count m.first (end + 1) r (ends j l) behind_name (omega (arith, all, length-append (string_bytes name) (m.count ∷ rest)))

      many : length run.these ≡ m.count
      many = as_many pair_is_lem pair_was (pair_at pairs) m.first m.count run.these run.same

      name_same : part input (p.0 + ahead name) (length name) ≡ name
      name_same =
          part_moved input p.0 (ahead name) (length name)
          ∙ ap (λ (b : List ℕ). part b (ahead name) (length name)) (stands p.0 (string_bytes name) (m.count ∷ rest) there all)
          ∙ (string_reads_back name ((m.count ∷ rest) ++ t) few).1

      message_same : (part input (p.0 + ahead name) (length name), p.1, get_or f end 0) ≡ message_meaning buffer m
      message_same = ap₂ (λ (b : List ℕ) (y : ℕ × ℕ). (b, y.0, y.1)) name_same (ap₂ (λ (y z : ℕ). (y, z)) (a ∙ sym (starts j l)) count_same)

      group_one : One (Group f) (λ (q : ℕ × ℕ). q.0) (Behind messages) f (message_bytes buffer pairs) (message_at messages) group_is (group_was pairs) j p
      group_one =
          record {
            found = (message_of (span (p.0 + ahead name) (length name)) p.1 (get_or f end 0), run.these);
            to = (run.to, p.1 + length run.these);
            here = record {
              place = end + 1;
              message = count_there p.1 p.0 f (span (p.0 + ahead name) (length name)) end named (omega (arith, all, length-append (string_bytes name) (m.count ∷ rest)));
              many = many ∙ sym count_same;
              run = found_row (λ n. pair_from n f) (end + 1) run.these run.to run.row;
              pairs = refl;
            };
            ends = omega (arith, run.inside, long, length-append (message_bytes buffer pairs m) r);
            next = omega (arith, a, starts j l, many);
            same =
                ap₂ (λ (y : List ℕ × ℕ × ℕ) (z : List (List ℕ × Meaning)). (y, z)) message_same
                (both_same (key_of f) (pair_meaning input) (key_of buffer) (pair_meaning buffer) run.these (arguments_of pairs m) run.same).1;
          }

    -- Law: so do messages with their arguments.
    pub messages_back : (at : ℕ) → drop at f ≡ joined (message_bytes buffer pairs) (records (message_at messages) 0 count) ++ []
        → at + length (joined (message_bytes buffer pairs) (records (message_at messages) 0 count) ++ []) ≡ length f
        → Many (Group f) (λ (q : ℕ × ℕ). q.0) (Behind messages) f (message_bytes buffer pairs) (message_at messages) group_is (group_was pairs) 0 count (at, 0) []
    messages_back at e long =
        many_back (Group f) (λ (q : ℕ × ℕ). q.0) (Behind messages) f (message_bytes buffer pairs) (message_at messages) group_is (group_was pairs) count group_one count 0 (at, 0) []
        (omega arith) refl e long
