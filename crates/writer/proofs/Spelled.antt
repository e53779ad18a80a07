-- Pairs, messages and actions spelled out: what they say, wherever their bytes stand. Each is written as what it says, and of what passes the
-- writer's checks no form is empty or the start of another: so the bytes say it again. It goes by the readers of strings and values, which find
-- in what was written what was meant, and its end.
use mathlib.Core.Path.{◌≡◌, refl, sym, ap, ap₂, ◌∙◌}
use mathlib.Core.Bool.{true, cond}
use mathlib.Core.Logic.{◌⊎◌, inl, inr, ⊎_elim}
use mathlib.Core.List.{List, [], ◌∷◌, ◌++◌, append_assoc, append_cancel_right, head-eq_of_cons-eq, tail-eq_of_cons-eq}
use Prim.Native.Nat.{ℕ, ◌^◌, ◌≤◌, ◌<◌}
use native.Mathlib.Omega.{arith}
use lib.Dec.{eqb}
use lib.ListN.{length, length-append}
use borrow.Author.Tests.{eqb-true, eqb-false}
use Rattle.answer.specs.Inner.{Passes}
use Rattle.answer.specs.Table.{records, joined}
use Rattle.answer.proofs.Cases.{bool_cases, true_false}
use Rattle.answer.proofs.Records.{records_length, joined_same, one_of_all}
use Rattle.answer.proofs.Each.{Each, each_record}
use Rattle.answer.proofs.Apart.{joined_front}
use Rattle.types.specs.Value.{Record, value}
use Rattle.types.specs.Form.{part, string_bytes, value_bytes, writable_record, ranged}
use Rattle.types.specs.Promise.{record_of}
use Rattle.types.proofs.Writing.{string_length, value_some}
use Rattle.types.proofs.Roundtrip.{strings_apart, values_apart}
use Rattle.frame.specs.declared.Pair.{Pair}
use Rattle.frame.specs.declared.Action.{Action}
use Rattle.frame.specs.declared.Message.{Message}
use Rattle.frame.specs.Records.{pair_at, key_of}
use Rattle.writer.specs.Pair.{pair_bytes}
use Rattle.writer.specs.Action.{action_bytes, action_checks}
use Rattle.writer.specs.Message.{name_bytes, message_bytes}
use Rattle.writer.specs.Inner.{Formed, Ready}
use Rattle.writer.proofs.Actions.{passed_scope, passed_form, writable_other}
use Rattle.writer.proofs.Messages.{message_bytes_lem, name_bytes_lem}

-- ---- a value's bytes

-- Bytes that a writable value is written as.
pub record Valued (bytes : List ℕ) : Type 0 where
  pub buffer : List ℕ
  pub v : Record
  pub fields : writable_record v ≡ true
  pub range : ranged buffer v ≡ true
  pub is : bytes ≡ value_bytes buffer v

-- Whatever follows two such, where all is the same they are: the reader finds the same end, and what is in front of it is the same.
valued_front : (p q t u : List ℕ) → Valued p → Valued q → p ++ t ≡ q ++ u → (p ≡ q) × (t ≡ u)
valued_front p q t u f g e =
    let o = values_apart f.buffer g.buffer t u f.v g.v f.fields f.range g.fields g.range
    (ap (λ (l : List ℕ). l ++ t) (sym f.is) ∙ e ∙ ap (λ (l : List ℕ). l ++ u) g.is) in
    (append_cancel_right p q t (e ∙ ap (λ (l : List ℕ). q ++ l) (sym o.1)), o.1)

-- they have a type byte
valued_some : (bytes : List ℕ) → Valued bytes → 1 ≤ length bytes
valued_some bytes f = omega (arith, ap length f.is, some f.v f.fields)
  where
    some : (v : Record) → writable_record v ≡ true → 1 ≤ length (value_bytes f.buffer v)
    some (value k a b flags) h = value_some f.buffer k a b flags h

-- ---- pairs

-- A pair spelled out: its key, and the bytes that its value is written as.
pub record Item : Type 0 where
  pub key : List ℕ
  pub value : List ℕ

abbrev pub item_of : List ℕ → Pair → Item
item_of buffer p = record { key = key_of buffer p; value = value_bytes buffer (record_of p.value) }

-- that of a table's record
abbrev pub item_at : List ℕ → List ℕ → ℕ → Item
item_at buffer pairs i = item_of buffer (pair_at pairs i)

-- what it is written as
abbrev pub item_bytes : Item → List ℕ
item_bytes x = string_bytes x.key ++ x.value

pub item_bytes_lem : (buffer : List ℕ) (p : Pair) → pair_bytes buffer p ≡ item_bytes (item_of buffer p)
unfolding pair_bytes
item_bytes_lem buffer p = refl

-- one that a writer lets through
pub record ItemOk (x : Item) : Type 0 where
  pub short : length x.key < 2 ^ 64
  pub form : Valued x.value

-- The key ends where the string reader says, and the value where the value reader does.
pub item_front : (x y : Item) (t u : List ℕ) → ItemOk x → ItemOk y → item_bytes x ++ t ≡ item_bytes y ++ u → (x ≡ y) × (t ≡ u)
item_front x y t u p q e =
    let o = strings_apart x.key y.key (x.value ++ t) (y.value ++ u) p.short q.short
    (sym (append_assoc (string_bytes x.key) x.value t) ∙ e ∙ append_assoc (string_bytes y.key) y.value u) in
    let r = valued_front x.value y.value t u p.form q.form o.1 in
    ((λ i. record { key = o.0 i; value = r.0 i }), r.1)

-- a pair that has a form, and whose key is not too long, is such a one
pub item_ok : (buffer : List ℕ) (p : Pair) → Formed buffer p → length (pair_bytes buffer p) < 2 ^ 64 → ItemOk (item_of buffer p)
item_ok buffer p f l =
    record {
      short = omega (arith, ap length (item_bytes_lem buffer p), length-append (string_bytes (key_of buffer p)) (value_bytes buffer (record_of p.value)), string_length (key_of buffer p));
      form = record { buffer = buffer; v = record_of p.value; fields = f.fields; range = f.range; is = refl };
    }

pub item_some : (x : Item) → ItemOk x → 1 ≤ length (item_bytes x)
item_some x p = omega (arith, valued_some x.value p.form, length-append (string_bytes x.key) x.value)

-- ---- messages

-- A message spelled out: its name and its arguments, of which it says how many they are.
pub record Say : Type 0 where
  pub name : List ℕ
  pub arguments : List Item

abbrev pub say_of : List ℕ → List ℕ → Message → Say
say_of buffer pairs m =
    record { name = part buffer m.start m.len; arguments = records (item_at buffer pairs) m.first m.count }

abbrev pub say_bytes : Say → List ℕ
say_bytes x = string_bytes x.name ++ (length x.arguments ∷ joined item_bytes x.arguments)

-- pair by pair, and as many as its record says
pub say_bytes_lem : (buffer pairs : List ℕ) (m : Message) → message_bytes buffer pairs m ≡ say_bytes (say_of buffer pairs m)
say_bytes_lem buffer pairs m =
    let name = string_bytes (part buffer m.start m.len) in
    let items = item_at buffer pairs in
    message_bytes_lem buffer pairs m
    ∙ ap₂ ◌++◌ (name_bytes_lem buffer m) (joined_same (pair_bytes buffer) item_bytes (pair_at pairs) items (λ i. item_bytes_lem buffer (pair_at pairs i)) m.count m.first)
    ∙ append_assoc name (m.count ∷ []) (joined item_bytes (records items m.first m.count))
    ∙ ap (λ (n : ℕ). name ++ (n ∷ joined item_bytes (records items m.first m.count))) (sym (records_length items m.count m.first))

-- one that a writer lets through
pub record SayOk (x : Say) : Type 0 where
  pub short : length x.name < 2 ^ 64
  pub each : Each ItemOk x.arguments

pub say_some : (x : Say) → SayOk x → 1 ≤ length (say_bytes x)
say_some x p = omega (arith, length-append (string_bytes x.name) (length x.arguments ∷ joined item_bytes x.arguments))

-- The name ends where the string reader says; the count byte says how many arguments there are; and these are told apart one by one.
pub say_front : (x y : Say) (t u : List ℕ) → SayOk x → SayOk y → say_bytes x ++ t ≡ say_bytes y ++ u → (x ≡ y) × (t ≡ u)
say_front x y t u p q e =
    let o = strings_apart x.name y.name (counted x ++ t) (counted y ++ u) p.short q.short
    (sym (append_assoc (string_bytes x.name) (counted x) t) ∙ e ∙ append_assoc (string_bytes y.name) (counted y) u) in
    let r = joined_front item_bytes ItemOk item_some item_front x.arguments y.arguments t u p.each q.each
    (head-eq_of_cons-eq o.1) (tail-eq_of_cons-eq o.1) in
    ((λ i. record { name = o.0 i; arguments = r.0 i }), r.1)
  where
    counted : Say → List ℕ
    counted z = length z.arguments ∷ joined item_bytes z.arguments

-- A message that is ready, and has not too many bytes, is such a one.
pub say_ok : (buffer pairs : List ℕ) (m : Message) → Ready buffer pairs m → length (message_bytes buffer pairs m) < 2 ^ 64 → SayOk (say_of buffer pairs m)
say_ok buffer pairs m r l =
    let name = part buffer m.start m.len in
    let forms = joined (pair_bytes buffer) (records (pair_at pairs) m.first m.count) in
    let all = ap length (message_bytes_lem buffer pairs m) ∙ length-append (name_bytes buffer m) forms in
    record {
      short = omega (arith, ap length (name_bytes_lem buffer m), length-append (string_bytes name) (m.count ∷ []), string_length name);
      each = each_record ItemOk (item_at buffer pairs) m.count m.first
          (λ i k h.
          item_ok buffer (pair_at pairs i) (r.run i k h)
          (omega (arith, one_of_all (pair_bytes buffer) (pair_at pairs) m.count m.first i k h)));
    }

-- ---- actions

-- An action spelled out: set or unset, the scope, the name, and the bytes that its value is written as; an unset has none. Two actions are
-- different where one of these four is.
pub record Act : Type 0 where
  pub verb : ℕ
  pub scope : ℕ
  pub name : List ℕ
  pub value : List ℕ

abbrev pub act_of : List ℕ → Action → Act
act_of buffer x =
    record {
      verb = x.verb;
      scope = x.scope;
      name = key_of buffer x.pair;
      value = cond (eqb x.verb 1) (value_bytes buffer (record_of x.pair.value)) [];
    }

abbrev pub act_bytes : Act → List ℕ
act_bytes x =
    cond (eqb x.verb 1)
    (1 ∷ 3 ∷ x.scope ∷ (string_bytes x.name ++ x.value))
    (2 ∷ 2 ∷ x.scope ∷ string_bytes x.name)

pub act_bytes_lem : (buffer : List ℕ) (x : Action) → action_bytes buffer x ≡ act_bytes (act_of buffer x)
unfolding action_bytes pair_bytes
act_bytes_lem buffer x = bool_cases (eqb x.verb 1) (λ t. rw t) (λ t. rw t)

-- One that a writer lets through: a set with a value's bytes, or an unset with none.
pub record ActOk (x : Act) : Type 0 where
  pub short : length x.name < 2 ^ 64
  pub verbs : ((x.verb ≡ 1) × Valued x.value) ⊎ ((x.verb ≡ 2) × (x.value ≡ []))

act_same : (x y : Act) → x.verb ≡ y.verb → x.scope ≡ y.scope → x.name ≡ y.name → x.value ≡ y.value → x ≡ y
act_same x y a b c d = λ i. record { verb = a i; scope = b i; name = c i; value = d i }

pub act_some : (x : Act) → ActOk x → 1 ≤ length (act_bytes x)
act_some x p = bool_cases (eqb x.verb 1) (λ t. rw t (omega arith)) (λ t. rw t (omega arith))

-- how a set is written, and how an unset
set_act : (x : Act) (t : List ℕ) → x.verb ≡ 1 → act_bytes x ++ t ≡ 1 ∷ 3 ∷ x.scope ∷ (string_bytes x.name ++ (x.value ++ t))
set_act x t v = rw v (ap (λ (l : List ℕ). 1 ∷ 3 ∷ x.scope ∷ l) (append_assoc (string_bytes x.name) x.value t))

unset_act : (x : Act) (t : List ℕ) → x.verb ≡ 2 → act_bytes x ++ t ≡ 2 ∷ 2 ∷ x.scope ∷ (string_bytes x.name ++ t)
unset_act x t v = rw v

-- The first byte says set or unset, the third the scope; the name and a set's value end as a pair's do.
pub act_front : (x y : Act) (t u : List ℕ) → ActOk x → ActOk y → act_bytes x ++ t ≡ act_bytes y ++ u → (x ≡ y) × (t ≡ u)
act_front x y t u p q e =
    ⊎_elim
    (λ a. ⊎_elim
    (λ b.
    let f : 1 ∷ 3 ∷ x.scope ∷ (string_bytes x.name ++ (x.value ++ t)) ≡ 1 ∷ 3 ∷ y.scope ∷ (string_bytes y.name ++ (y.value ++ u)) = sym (set_act x t a.0) ∙ e ∙ set_act y u b.0 in
    let s = strings_apart x.name y.name (x.value ++ t) (y.value ++ u) p.short q.short (cc f) in
    let r = valued_front x.value y.value t u a.1 b.1 s.1 in
    (act_same x y (a.0 ∙ sym b.0) (cc f) s.0 r.0, r.1))
    (λ b. let z : ◌≡◌ {A = ℕ} 1 2 = cc (sym (set_act x t a.0) ∙ e ∙ unset_act y u b.0) in absurd (omega arith))
    q.verbs)
    (λ a. ⊎_elim
    (λ b. let z : ◌≡◌ {A = ℕ} 2 1 = cc (sym (unset_act x t a.0) ∙ e ∙ set_act y u b.0) in absurd (omega arith))
    (λ b.
    let f : 2 ∷ 2 ∷ x.scope ∷ (string_bytes x.name ++ t) ≡ 2 ∷ 2 ∷ y.scope ∷ (string_bytes y.name ++ u) = sym (unset_act x t a.0) ∙ e ∙ unset_act y u b.0 in
    let s = strings_apart x.name y.name t u p.short q.short (cc f) in
    (act_same x y (a.0 ∙ sym b.0) (cc f) s.0 (a.1 ∙ sym b.1), s.1))
    q.verbs)
    p.verbs

-- it has no fewer bytes than its name
act_long : (x : Act) → length x.name ≤ length (act_bytes x)
act_long x =
    bool_cases (eqb x.verb 1)
    (λ t. rw t (omega (arith, length-append (string_bytes x.name) x.value, string_length x.name)))
    (λ t. rw t (omega (arith, string_length x.name)))

-- An action that passes its checks, and whose name is not too long, is such a one.
module _ (buffer : List ℕ) (x : Action) (e : Passes (action_checks buffer x)) where
  written_verb : ((x.verb ≡ 1) × Valued (act_of buffer x).value) ⊎ ((x.verb ≡ 2) × ((act_of buffer x).value ≡ []))
  written_verb =
      bool_cases (eqb x.verb 1)
      (λ s.
      let f = passed_form buffer x e in
      inl (eqb-true x.verb 1 s, record { buffer = buffer; v = record_of x.pair.value; fields = f.fields; range = f.range; is = rw s }))
      (λ s.
      bool_cases (eqb x.verb 2)
      (λ u. inr (eqb-true x.verb 2 u, rw s))
      (λ u. true_false e.0 (writable_other x (passed_scope buffer x e) (eqb-false x.verb 1 s) (eqb-false x.verb 2 u))))

  pub act_ok : length (action_bytes buffer x) < 2 ^ 64 → ActOk (act_of buffer x)
  act_ok l = record { short = omega (arith, act_long (act_of buffer x), ap length (act_bytes_lem buffer x)); verbs = written_verb }
