-- Laws about reading a pair and an action that were written. Bytes behind them do not matter.
use mathlib.Core.Path.{◌≡◌, refl, sym, ap, ap₂, ◌∙◌}
use mathlib.Core.Bool.{Bool, true, false, cond}
use mathlib.Core.List.{List, [], ◌∷◌, ◌++◌, append_assoc}
use Prim.Native.Nat.{ℕ, suc, ◌+◌, ◌^◌, ◌≤◌, ◌<◌}
use native.Mathlib.Omega.{arith}
use lib.ListN.{length, take, drop, length-append}
use lib.Seq.{drop-drop, drop_at}
use Rattle.answer.specs.Answer.{done}
use Rattle.types.specs.Value.{span, string, Record, value, points, shape, moved, typed}
use Rattle.types.specs.Form.{part, string_bytes, value_bytes, writable_record, ranged}
use Rattle.types.specs.Promise.{record_of}
use Rattle.types.proofs.Reading.{typed_accepted_kept}
use Rattle.types.proofs.Roundtrip.{Meaning, means, meaning, ahead, string_reads_back, read_back}
use Rattle.frame.specs.declared.Pair.{Pair}
use Rattle.frame.specs.declared.Action.{Action}
use Rattle.frame.specs.Records.{key_of}
use Rattle.answer.proofs.Answers.{done_same}
use Rattle.frame.proofs.Meaning.{pair_meaning, action_meaning}
use Rattle.payload.specs.Pair.{pair_of, moved_pair, pair}
use Rattle.payload.specs.Action.{action}
use Rattle.payload.proofs.Pairs.{pair_whole}
use Rattle.payload.proofs.Actions.{action_headed, set_done, name_done}

-- ---- what is moved means the same

-- Law: a part behind n other bytes is the part without them.
pub part_moved : (s : List ℕ) (n a b : ℕ) → part s (n + a) b ≡ part (drop n s) a b
part_moved s n a b = ap (take b) (sym (drop-drop a n s))

value_moved : (s : List ℕ) (n : ℕ) (v : Record) → meaning s (moved n v) ≡ meaning (drop n s) v
value_moved s n (value kind a b f) = by_shape (points (shape kind))
  where
    by_shape : (p : Bool) → means kind (cond p 0 (cond p (n + a) a)) f (cond p (part s (cond p (n + a) a) b) []) ≡ means kind (cond p 0 a) f (cond p (part (drop n s) a b) [])
    by_shape true = ap (means kind 0 f) (part_moved s n a b)
    by_shape false = refl

-- Law: a pair behind n other bytes means what it means without them.
pub pair_moved : (s : List ℕ) (n : ℕ) (p : Pair) → pair_meaning s (moved_pair n p) ≡ pair_meaning (drop n s) p
pair_moved s n p = ap₂ (λ (k : List ℕ) (v : Meaning). (k, v)) (part_moved s n p.start p.len) (value_moved s n (record_of p.value))

-- ---- a pair

-- The key k and the value v of a buffer, one behind the other at the front of r: the pair that is read there means the same, also with t behind r.
pub record PairBack (buffer k : List ℕ) (v : Record) (r t : List ℕ) : Type 0 where
  pub found : Pair
  pub reads : pair ((string_bytes k ++ value_bytes buffer v) ++ r) ≡ done found (length (string_bytes k ++ value_bytes buffer v))
  pub key : key_of ((string_bytes k ++ value_bytes buffer v) ++ r) found ≡ k
  pub same : pair_meaning ((string_bytes k ++ value_bytes buffer v) ++ (r ++ t)) found ≡ (k, meaning buffer v)

module _ (buffer k : List ℕ) (v : Record) (small : length k < 2 ^ 64) (fields : writable_record v ≡ true) (range : ranged buffer v ≡ true) (r t : List ℕ) where
  abbrev key : List ℕ
  key = string_bytes k

  abbrev form : List ℕ
  form = value_bytes buffer v

  key_first : (x : List ℕ) → (key ++ form) ++ x ≡ key ++ (form ++ x)
  key_first x = append_assoc key form x

  key_behind : (x : List ℕ) → drop (length key) ((key ++ form) ++ x) ≡ form ++ x
  key_behind x = ap (drop (length key)) (key_first x) ∙ drop_at key (form ++ x) (length key) refl

  -- the value is found alike with more bytes behind it
  again : (u : Record) → typed (form ++ r) ≡ done u (length form) → meaning (form ++ (r ++ t)) u ≡ meaning buffer v
  again u e =
      let b = read_back buffer (r ++ t) v fields range in
      let more : typed (form ++ (r ++ t)) ≡ done u (length form) = ap typed (sym (append_assoc form r t)) ∙ typed_accepted_kept (form ++ r) t u (length form) e in
      ap (meaning (form ++ (r ++ t))) (done_same (sym more ∙ b.reads)).0 ∙ b.same

  whole : (u : Record) → typed (form ++ r) ≡ done u (length form) → PairBack buffer k v r t
  whole (value kind a b f) e =
      let s = string_reads_back k (form ++ r) small in
      let q = string_reads_back k (form ++ (r ++ t)) small in
      let p = pair_of (span (ahead k) (length k)) (moved (length key) (value kind a b f)) in
      record {
        found = p;
        reads =
            pair_whole ((key ++ form) ++ r) (ahead k) (length k) (length key) (ap string (key_first r) ∙ s.0) (value kind a b f) (length form) (ap typed (key_behind r) ∙ e)
            ∙ ap (done p) (sym (length-append key form));
        key = ap (λ (l : List ℕ). part l (ahead k) (length k)) (key_first r) ∙ s.1;
        same =
            ap₂ (λ (x : List ℕ) (y : Meaning). (x, y))
            (ap (λ (l : List ℕ). part l (ahead k) (length k)) (key_first (r ++ t)) ∙ q.1)
            (value_moved ((key ++ form) ++ (r ++ t)) (length key) (value kind a b f)
            ∙ ap (λ (l : List ℕ). meaning l (value kind a b f)) (key_behind (r ++ t))
            ∙ again (value kind a b f) e);
      }

  -- Law: it does.
  pub pair_back : PairBack buffer k v r t
  pair_back = let b = read_back buffer r v fields range in whole b.found b.reads

-- ---- an action

-- Some bytes at the front of r: the action that is read there means what x means in the buffer, also with t behind r.
pub record ActionBack (buffer bytes r t : List ℕ) (x : ℕ × ℕ × (List ℕ × Meaning)) : Type 0 where
  pub found : Action
  pub reads : action (bytes ++ r) ≡ done found (length bytes)
  pub same : action_meaning (bytes ++ (r ++ t)) found ≡ x

module _ (buffer k r t : List ℕ) (small : length k < 2 ^ 64) (scope : ℕ) (known : scope ≤ 4) where
  -- Law: a set does.
  pub set_back : (v : Record) → writable_record v ≡ true → ranged buffer v ≡ true
      → ActionBack buffer (1 ∷ 3 ∷ scope ∷ (string_bytes k ++ value_bytes buffer v)) r t (1, scope, (k, meaning buffer v))
  set_back v fields range =
      let b = pair_back buffer k v small fields range r t in
      let three : 3 + length (string_bytes k ++ value_bytes buffer v) ≡ suc (suc (suc (length (string_bytes k ++ value_bytes buffer v)))) = omega arith in
      let s : List ℕ = 1 ∷ 3 ∷ scope ∷ ((string_bytes k ++ value_bytes buffer v) ++ r) in
      record {
        found = record { verb = 1; scope = scope; pair = moved_pair 3 b.found };
        reads = set_done s scope (action_headed s (omega arith) refl (omega arith) refl (omega arith) known) b.found _ b.reads ∙ ap (done (record { verb = 1; scope = scope; pair = moved_pair 3 b.found })) three;
        same =
            ap (λ (m : List ℕ × Meaning). (1, scope, m))
            (pair_moved (1 ∷ 3 ∷ scope ∷ ((string_bytes k ++ value_bytes buffer v) ++ (r ++ t))) 3 b.found ∙ b.same);
      }

  -- Law: an unset does.
  pub unset_back : ActionBack buffer (2 ∷ 2 ∷ scope ∷ string_bytes k) r t (2, scope, (k, meaning buffer (value 0 0 0 0)))
  unfolding shape
  unset_back =
      let one = string_reads_back k r small in
      let two = string_reads_back k (r ++ t) small in
      let three : 3 + length (string_bytes k) ≡ suc (suc (suc (length (string_bytes k)))) = omega arith in
      let s : List ℕ = 2 ∷ 2 ∷ scope ∷ (string_bytes k ++ r) in
      let p = pair_of (span (ahead k) (length k)) (value 0 0 0 0) in
      record {
        found = record { verb = 2; scope = scope; pair = moved_pair 3 p };
        reads = name_done s scope (action_headed s (omega arith) refl (omega arith) refl (omega arith) known) (ahead k) (length k) _ one.0 ∙ ap (done (record { verb = 2; scope = scope; pair = moved_pair 3 p })) three;
        same =
            ap (λ (m : List ℕ × Meaning). (2, scope, m))
            (pair_moved (2 ∷ 2 ∷ scope ∷ (string_bytes k ++ (r ++ t))) 3 p ∙ ap (λ (l : List ℕ). (l, meaning buffer (value 0 0 0 0))) two.1);
      }
