-- Laws about pairs and names that stand at a place: the bytes from there on are what each is written as, and the rest; of a pair exactly where its value is
-- plain. And what a writer refuses of them.
use mathlib.Core.Path.{◌≡◌, refl, sym, ap, ap₂, ◌∙◌}
use mathlib.Core.Bool.{true, cond, not, ◌||◌}
use mathlib.Core.List.{List, [], ◌∷◌, ◌++◌, append_assoc}
use Prim.Native.Nat.{ℕ, suc, ◌+◌}
use native.Mathlib.Omega.{arith}
use lib.Dec.{eqb}
use lib.ListN.{length, drop}
use lib.Seq.{drop-cons, drop-drop}
use borrow.Author.Tests.{le-leb}
use Rattle.answer.specs.Answer.{Answer, done, refused, behind}
use Rattle.answer.specs.Order.{in_order}
use Rattle.answer.specs.Table.{joined}
use Rattle.answer.proofs.Cases.{bool_cases, answer_cases, not_both}
use Rattle.varint.proofs.Reading.{Bytes}
use Rattle.utf8.specs.Text.{is_utf8}
use Rattle.types.specs.declared.Span.{Span}
use Rattle.types.specs.Value.{span, string, Record, value, points, shape, moved, typed}
use Rattle.types.specs.Form.{part, inside, string_bytes, value_bytes, ranged}
use Rattle.types.specs.Promise.{record_of}
use Rattle.types.proofs.Reading.{string_accepted}
use Rattle.frame.specs.declared.Pair.{Pair}
use Rattle.frame.specs.declared.Message.{Message}
use Rattle.frame.specs.Records.{key_of}
use Rattle.answer.proofs.Answers.{done_same}
use Rattle.payload.specs.Pair.{pair_of, moved_pair, pair, pair_from}
use Rattle.payload.specs.Payload.{moved_span, string_from, message_from}
use Rattle.payload.specs.Inner.{Run}
use Rattle.payload.proofs.Pairs.{pair_cases, pair_key, pair_value, pair_whole}
use Rattle.payload.proofs.Steps.{message_says}
use Rattle.answer.proofs.Row.{Found, row_found}
use Rattle.payload.proofs.Exact.{bytes_drop}
use Rattle.payload.proofs.Back.{part_moved}
use Rattle.answer.proofs.Each.{Each}
use Rattle.listing.proofs.Accepted.{Whole}
use Rattle.writer.specs.Pair.{pair_bytes, pair_checks}
use Rattle.writer.specs.Message.{name_bytes}
use Rattle.writer.proofs.Pairs.{pair_bytes_lem}
use Rattle.writer.proofs.Messages.{name_bytes_lem}
use Rattle.roundtrip.proofs.Plain.{plain_value, plain_pair, well_pair}
use Rattle.roundtrip.proofs.Rows.{cancel, row_form, row_only}
use Rattle.roundtrip.proofs.Value.{form_rest, string_form, value_form_moved, value_form_lem, value_only}

-- ---- a pair at the front

-- how an accepted pair unrolls
record Paired (s : List ℕ) (p : Pair) (used : ℕ) : Type 0 where
  start : ℕ
  len : ℕ
  u : ℕ
  key : string s ≡ done (span start len) u
  kind : ℕ
  a : ℕ
  b : ℕ
  flags : ℕ
  n : ℕ
  inner : typed (drop u s) ≡ done (value kind a b flags) n
  is : pair_of (span start len) (moved u (value kind a b flags)) ≡ p
  all : u + n ≡ used
  sum : start + len ≡ u

unroll : (s : List ℕ) (p : Pair) (used : ℕ) → pair s ≡ done p used → Paired s p used
unroll s p used e =
    pair_cases s
    (λ n place r. not_both e (pair_key s n place r))
    (λ start len u key n place r. not_both e (pair_value s start len u key n place r))
    (λ start len u key kind a b f n d.
    let o = done_same (sym (pair_whole s start len u key (value kind a b f) n d) ∙ e) in
    record {
      start = start;
      len = len;
      u = u;
      key = key;
      kind = kind;
      a = a;
      b = b;
      flags = f;
      n = n;
      inner = d;
      is = o.0;
      all = o.1;
      sum = (string_accepted s start len u key).3;
    })

module _ (s : List ℕ) (p : Pair) (used : ℕ) (small : Bytes s) (e : pair s ≡ done p used) where
  abbrev x : Paired s p used
  x = unroll s p used e

  abbrev v : Record
  v = value x.kind x.a x.b x.flags

  -- the value's bytes stand behind the key
  plain_there : plain_pair s p ≡ plain_value (drop x.u s)
  plain_there = ap (λ (q : Pair). plain_pair s q) (sym x.is) ∙ ap (λ (n : ℕ). plain_value (drop n s)) x.sum

  form : pair_bytes s p ≡ string_bytes (part s x.start x.len) ++ value_bytes (drop x.u s) v
  form =
      ap (pair_bytes s) (sym x.is)
      ∙ pair_bytes_lem s (pair_of (span x.start x.len) (moved x.u v))
      ∙ ap (λ (l : List ℕ). string_bytes (part s x.start x.len) ++ l) (value_form_moved s x.u v)

  key_first : s ≡ string_bytes (part s x.start x.len) ++ drop x.u s
  key_first = form_rest (string_bytes (part s x.start x.len)) s x.u (string_form s x.start x.len x.u small x.key)

  pair_form_lem : plain_pair s p ≡ true → s ≡ pair_bytes s p ++ drop used s
  pair_form_lem h =
      let k = string_bytes (part s x.start x.len) in
      let w = value_bytes (drop x.u s) v in
      let tail : drop x.n (drop x.u s) ≡ drop used s = drop-drop x.n x.u s ∙ ap (λ (n : ℕ). drop n s) x.all in
      key_first
      ∙ ap (λ (l : List ℕ). k ++ l) (form_rest w (drop x.u s) x.n (value_form_lem (drop x.u s) v x.n (bytes_drop x.u s small) x.inner (sym plain_there ∙ h)))
      ∙ ap (λ (l : List ℕ). k ++ (w ++ l)) tail
      ∙ sym (append_assoc k w (drop used s))
      ∙ ap (λ (l : List ℕ). l ++ drop used s) (sym form)

  pair_only : (t : List ℕ) → pair_bytes s p ++ t ≡ s → plain_pair s p ≡ true
  pair_only t is =
      let k = string_bytes (part s x.start x.len) in
      let w = value_bytes (drop x.u s) v in
      let there : w ++ t ≡ drop x.u s = cancel k (w ++ t) (drop x.u s) (sym (append_assoc k w t) ∙ ap (λ (l : List ℕ). l ++ t) (sym form) ∙ is ∙ key_first) in
      plain_there ∙ value_only (drop x.u s) v x.n (bytes_drop x.u s small) x.inner t there

-- ---- a pair at a place

pair_form_moved : (f : List ℕ) (at : ℕ) (p : Pair) → pair_bytes f (moved_pair at p) ≡ pair_bytes (drop at f) p
pair_form_moved f at p =
    pair_bytes_lem f (moved_pair at p)
    ∙ ap₂ (λ (k w : List ℕ). string_bytes k ++ w) (part_moved f at p.start p.len) (value_form_moved f at (record_of p.value))
    ∙ sym (pair_bytes_lem (drop at f) p)

plain_moved : (f : List ℕ) (at : ℕ) (p : Pair) → plain_pair f (moved_pair at p) ≡ plain_pair (drop at f) p
plain_moved f at p =
    let sum : at + p.start + p.len ≡ at + (p.start + p.len) = omega arith in
    ap (λ (n : ℕ). plain_value (drop n f)) sum ∙ ap plain_value (sym (drop-drop (p.start + p.len) at f))

module _ (f : List ℕ) (at : ℕ) (p : Pair) (next : ℕ) (small : Bytes f) (e : pair_from at f ≡ done p next) where
  there : (q : Pair) × (n : ℕ) × (pair (drop at f) ≡ done q n) × (moved_pair at q ≡ p) × (at + n ≡ next)
  there =
      answer_cases (pair (drop at f))
      (λ q n d. let o = done_same (sym (ap (behind moved_pair at) d) ∙ e) in (q, n, d, o.0, o.1))
      (λ n place r. not_both e (ap (behind moved_pair at) r))

  form_there : pair_bytes f p ≡ pair_bytes (drop at f) there.0
  form_there = ap (pair_bytes f) (sym there.3) ∙ pair_form_moved f at there.0

  plain_at : plain_pair f p ≡ plain_pair (drop at f) there.0
  plain_at = ap (λ (q : Pair). plain_pair f q) (sym there.3) ∙ plain_moved f at there.0

  -- Law: from the place of a plain pair on stand the bytes that it is written as, and then what comes next.
  pub pair_at_form : plain_pair f p ≡ true → drop at f ≡ pair_bytes f p ++ drop next f
  pair_at_form h =
      pair_form_lem (drop at f) there.0 there.1 (bytes_drop at f small) there.2 (sym plain_at ∙ h)
      ∙ ap₂ ◌++◌ (sym form_there) (drop-drop there.1 at f ∙ ap (λ (n : ℕ). drop n f) there.4)

  -- Law: and only of a plain one.
  pub pair_at_only : (t : List ℕ) → pair_bytes f p ++ t ≡ drop at f → plain_pair f p ≡ true
  pair_at_only t is =
      plain_at ∙ pair_only (drop at f) there.0 there.1 (bytes_drop at f small) there.2 t (ap (λ (l : List ℕ). l ++ t) (sym form_there) ∙ is)

-- ---- pairs one behind the other

abbrev pub Plain : List ℕ → Pair → Type 0
Plain f p = plain_pair f p ≡ true

module _ (f : List ℕ) (small : Bytes f) where
  pub run_form : (at : ℕ) (ps : List Pair) (end : ℕ) → Run f at ps end → Each (Plain f) ps → drop at f ≡ joined (pair_bytes f) ps ++ drop end f
  run_form at ps end r = row_form {Here = Found (λ n. pair_from n f)} (λ n. n) f (pair_bytes f) (Plain f) (λ n p end e. pair_at_form f n p end small e) at ps end (row_found (λ n. pair_from n f) at ps end r)

  pub run_only : (at : ℕ) (ps : List Pair) (end : ℕ) → Run f at ps end → (t : List ℕ) → joined (pair_bytes f) ps ++ t ≡ drop at f → Each (Plain f) ps × (t ≡ drop end f)
  run_only at ps end r =
      row_only {Here = Found (λ n. pair_from n f)} (λ n. n) f (pair_bytes f) (Plain f) (λ n p end e. pair_at_form f n p end small e) (λ n p end e. pair_at_only f n p end small e) at ps end
      (row_found (λ n. pair_from n f) at ps end r)

-- ---- a name at a place

-- Law: from the place of a string on stand the bytes that it is written as, and then what comes next.
pub string_at_form : (f : List ℕ) (at start len place : ℕ) → Bytes f → string_from at f ≡ done (span start len) place
    → drop at f ≡ string_bytes (part f start len) ++ drop place f
string_at_form f at start len place small e = go (string (drop at f)) refl
  where
    spans : {a b k l : ℕ} → span a k ≡ span b l → (a ≡ b) × (k ≡ l)
    spans q = (ap (λ (x : Span). x.start) q, ap (λ (x : Span). x.len) q)

    go : (x : Answer Span) → string (drop at f) ≡ x → drop at f ≡ string_bytes (part f start len) ++ drop place f
    go (done x used) d =
        let o = done_same (sym (ap (behind moved_span at) d) ∙ e) in
        let q = spans o.0 in
        let same : part f start len ≡ part (drop at f) x.start x.len = ap₂ (part f) (sym q.0) (sym q.1) ∙ part_moved f at x.start x.len in
        form_rest (string_bytes (part (drop at f) x.start x.len)) (drop at f) used (string_form (drop at f) x.start x.len used (bytes_drop at f small) d)
        ∙ ap₂ (λ (w l : List ℕ). string_bytes w ++ l) (sym same) (drop-drop used at f ∙ ap (λ (n : ℕ). drop n f) o.1)
    go (refused n place) r = not_both e (ap (behind moved_span at) r)

-- Law: from the place of a message on stand the bytes that its name and its count are written as, and then what comes next.
pub name_at_form : (f : List ℕ) (first at : ℕ) (m : Message) (end : ℕ) → Bytes f → message_from first at f ≡ done m end → drop at f ≡ name_bytes f m ++ drop end f
name_at_form f first at m end small e =
    let k = string_bytes (part f m.start m.len) in
    let n = message_says first at f m end e in
    let next : suc n.place ≡ end = omega (arith, n.ends) in
    string_at_form f at m.start m.len n.place small n.name
    ∙ ap (λ (l : List ℕ). k ++ l) (drop-cons f n.place 0 n.byte ∙ ap₂ (λ (i j : ℕ). i ∷ drop j f) (sym n.count) next)
    ∙ sym (append_assoc k (m.count ∷ []) (drop end f))
    ∙ ap (λ (l : List ℕ). l ++ drop end f) (sym (name_bytes_lem f m))

-- ---- what a writer refuses of a pair

-- Law: of a pair whose numbers lie in their fields and whose parts lie in the buffer, a writer refuses with 15 a text that is not UTF-8, and nothing else.
pub pair_refuses : (f : List ℕ) (p : Pair) → Whole (length f) p → in_order (pair_checks f p) 0 ≡ cond (well_pair f p) 0 15
unfolding in_order
pair_refuses f p h =
    bool_cases (is_utf8 (key_of f p))
    (λ k.
    bool_cases (not (eqb p.value.kind 8) || is_utf8 (part f p.value.a p.value.b))
    (λ w. rw (h.fields, key, k, range, w))
    (λ w. rw (h.fields, key, k, range, w)))
    (λ k. rw (h.fields, key, k))
  where
    key : inside f p.start p.len ≡ true
    key = le-leb (p.start + p.len) (length f) h.key

    range : ranged f (record_of p.value) ≡ true
    range = bool_cases (points (shape p.value.kind)) (λ t. rw t (le-leb (p.value.a + p.value.b) (length f) (h.range t))) (λ t. rw t)
