-- Laws about the numbers inside pairs, messages and actions: each that is accepted took exactly the bytes that it is written as, wherever it stands in an accepted payload.
use Rattle.types.proofs.Reading.{span_same}
use mathlib.Core.Path.{◌≡◌, refl, sym, ap, subst, ◌∙◌}
use mathlib.Core.Bool.{Bool, true, false, cond}
use mathlib.Core.List.{List, [], ◌∷◌, ◌++◌}
use Prim.Native.Nat.{ℕ, suc, ◌+◌, ◌-◌, ◌<◌}
use native.Mathlib.Omega.{arith}
use lib.ListN.{length, take, drop, get_or, length-drop}
use lib.Seq.{drop-cons, drop-drop, get_or-drop}
use Rattle.answer.specs.Answer.{Answer, done, refused, behind}
use Rattle.answer.proofs.Cases.{answer_cases, not_both}
use Rattle.answer.proofs.Each.{Each, each_both}
use Rattle.answer.proofs.Row.{Row, row_found}
use Rattle.varint.specs.Number.{number_bytes}
use Rattle.varint.proofs.Reading.{Bytes}
use Rattle.types.specs.declared.Span.{Span}
use Rattle.types.specs.Value.{span, string, value, points, shape, moved, typed}
use Rattle.types.proofs.Reading.{string_accepted, typed_accepted}
use Rattle.types.proofs.Exact.{string_exact, DataExact, typed_exact}
use Rattle.frame.specs.declared.Pair.{Pair}
use Rattle.frame.specs.declared.Message.{Message}
use Rattle.frame.specs.declared.Action.{Action}
use Rattle.answer.proofs.Answers.{done_same}
use Rattle.payload.specs.declared.Counts.{Counts}
use Rattle.payload.specs.declared.Payload.{Payload}
use Rattle.payload.specs.declared.Payload.TheVariants as k
use Rattle.payload.specs.Pair.{pair_of, moved_pair, pair, pair_from}
use Rattle.payload.specs.Action.{action_from}
use Rattle.payload.specs.Payload.{Contents, moved_span, string_from, payload}
use Rattle.payload.specs.Inner.{Run}
use Rattle.payload.proofs.Pairs.{pair_cases, pair_key, pair_value, pair_whole}
use Rattle.payload.proofs.Rows.{from_next}
use Rattle.payload.proofs.Steps.{string_next, message_says}
use Rattle.payload.proofs.Accepted.{Group, messages_of, pairs_of, kv_run, messages_run, actions_run}
use Rattle.payload.proofs.Longer.{pair_longer, string_longer, from_longer}
use Rattle.payload.proofs.Standing.{stands, by_verb}

-- ---- bytes of bytes

pub bytes_drop : (n : ℕ) (s : List ℕ) → Bytes s → Bytes (drop n s)
bytes_drop n s small i h = rw (get_or-drop n s i 0) (small (n + i) (omega (arith, length-drop n s)))

-- ---- a string and a pair

-- The bytes from a place to the start of a string's text are its length number.
abbrev pub LengthExact : List ℕ → ℕ → ℕ → ℕ → Type 0
LengthExact s at start len = take (start - at) (drop at s) ≡ number_bytes len

-- A pair that stands from a place to another: its key's length number, and behind the key and the type byte the number of its value, where it has one.
pub record PairExact (s : List ℕ) (at : ℕ) (p : Pair) (end : ℕ) : Type 0 where
  pub key : LengthExact s at p.start p.len
  pub inner : DataExact (shape p.value.kind) (drop (p.start + p.len + 1) s)
      (cond (points (shape p.value.kind)) (p.value.a - (p.start + p.len + 1)) p.value.a) p.value.b (end - (p.start + p.len + 1))

-- a start that was moved, without the bytes up to a place behind it
unmoved : (y : Bool) (m n c : ℕ) → cond y (cond y (m + c) c - (m + n)) (cond y (m + c) c) ≡ cond y (c - n) c
unmoved true m n c = omega arith
unmoved false m n c = refl

-- Law: so it is of every accepted pair.
pub pair_exact : (s : List ℕ) (p : Pair) (used : ℕ) → Bytes s → pair s ≡ done p used → PairExact s 0 p used
pair_exact s p used small e =
    pair_cases s
    (λ n place r. not_both e (pair_key s n place r))
    (λ start len u key n place r. not_both e (pair_value s start len u key n place r))
    (λ start len u key kind a b f n d.
    let is = done_same (sym (pair_whole s start len u key (value kind a b f) n d) ∙ e) in
    rw (sym is.0, sym is.1) (found start len u key kind a b f n d))
  where
    found : (start len u : ℕ) → string s ≡ done (span start len) u → (kind a b f n : ℕ) → typed (drop u s) ≡ done (value kind a b f) n
        → PairExact s 0 (pair_of (span start len) (moved u (value kind a b f))) (u + n)
    found start len u key kind a b f n d =
        let k = string_accepted s start len u key in
        let v = typed_accepted (drop u s) kind a b f n d in
        let there : u < length s = omega (arith, length-drop u s) in
        let split = drop-cons s u 0 there in
        let front : start - 0 ≡ start = omega arith in
        let end : start + len + 1 ≡ u + 1 = omega arith in
        let next : u + 1 ≡ suc u = omega arith in
        let taken : u + n - (u + 1) ≡ n - 1 = omega arith in
        record {
          key = rw front (string_exact s start len u small key);
          inner = rw (end, taken, unmoved (points (shape kind)) u 1 a, next)
              (typed_exact (get_or s u 0) (drop (suc u) s) kind a b f n (bytes_drop (suc u) s small) (ap typed (sym split) ∙ d));
        }

-- Law: so it is of every one that stands at a place, and of a string there.
pub from_exact : (s : List ℕ) (at : ℕ) (p : Pair) (end : ℕ) → Bytes s → pair_from at s ≡ done p end → PairExact s at p end
from_exact s at p end small e =
    answer_cases (pair (drop at s))
    (λ q n d.
    let o = done_same (sym (ap (behind moved_pair at) d) ∙ e) in
    let x = pair_exact (drop at s) q n (bytes_drop at s small) d in
    let m = q.start + q.len + 1 in
    let start : at + q.start - at ≡ q.start - 0 = omega arith in
    let place : at + q.start + q.len + 1 ≡ at + m = omega arith in
    let taken : at + n - (at + m) ≡ n - m = omega arith in
    rw (sym o.0, sym o.1)
    (record {
      key = rw start x.key;
      inner = rw (place, taken, unmoved (points (shape q.value.kind)) at m q.value.a, sym (drop-drop m at s)) x.inner;
    }))
    (λ n place r. not_both e (ap (behind moved_pair at) r))

pub string_from_exact : (s : List ℕ) (at start len end : ℕ) → Bytes s → string_from at s ≡ done (span start len) end → LengthExact s at start len
string_from_exact s at start len end small e = go (string (drop at s)) refl
  where
    go : (x : Answer Span) → string (drop at s) ≡ x → LengthExact s at start len
    go (done x used) d =
        let o = span_same (sym (ap (behind moved_span at) d) ∙ e) in
        let here : start - at ≡ x.start = omega (arith, o.0) in
        rw here (string_exact (drop at s) x.start x.len used (bytes_drop at s small) d ∙ ap number_bytes o.1)
    go (refused n place) r = not_both e (ap (behind moved_span at) r)

-- ---- a payload

-- A name, and a pair, that stands somewhere in these bytes with exact numbers.
abbrev pub NameIn : List ℕ → ℕ → ℕ → Type 0
NameIn s start len = (at : ℕ) × LengthExact s at start len

abbrev pub PairIn : List ℕ → Pair → Type 0
PairIn s p = (at end : ℕ) × PairExact s at p end

-- So does each message's name, each pair and each action's variable that was read.
pub record NumbersExact (s : List ℕ) (c : Contents) : Type 0 where
  pub messages : Each (λ (m : Message). NameIn s m.start m.len) c.messages
  pub pairs : Each (PairIn s) c.pairs
  pub actions : Each (λ (x : Action). PairIn s x.pair) c.actions

-- Law: what holds of each that stands somewhere holds of each in a row.
pub row_each : {P X : Type 0} {Here : P → X → P → Type 0} (Q : X → Type 0) → ((p : P) (x : X) (q : P) → Here p x q → Q x) → (p : P) (xs : List X) (q : P) → Row Here p xs q → Each Q xs
row_each Q each p [] q r = tt
row_each Q each p (x ∷ xs) q r = (each p x r.0 r.1, row_each Q each r.0 xs q r.2)

-- What stands in s, with any bytes t behind it.
module _ (s t : List ℕ) (small : Bytes (s ++ t)) where
  pair_in_lem : (at : ℕ) (p : Pair) (end : ℕ) → pair_from at s ≡ done p end → PairIn (s ++ t) p
  pair_in_lem at p end e = (at, end, from_exact (s ++ t) at p end small (from_longer moved_pair pair pair_longer s t at p end (from_next s at p end e).1 e))

  name_in : (at start len end : ℕ) → string_from at s ≡ done (span start len) end → LengthExact (s ++ t) at start len
  name_in at start len end e =
      let there = string_next s at start len end e in
      string_from_exact (s ++ t) at start len end small (from_longer moved_span string string_longer s t at (span start len) end (omega arith) e)

  -- an unset has no value
  action_in : (at : ℕ) (x : Action) (end : ℕ) → action_from at s ≡ done x end → PairIn (s ++ t) x.pair
  unfolding shape
  action_in at x end e =
      let o = stands s at x end e in
      by_verb x o.verbs
      (λ v. pair_in_lem (at + 3) x.pair end (o.set v))
      (λ v.
      let u = o.unset v in
      let key = name_in (at + 3) x.pair.start x.pair.len end u.0 in
      subst (PairIn (s ++ t)) u.1 (at + 3, end, record { key = key; inner = tt }))

  run_in : (at : ℕ) (ps : List Pair) (end : ℕ) → Run s at ps end → Each (PairIn (s ++ t)) ps
  run_in at ps end r = row_each (PairIn (s ++ t)) pair_in_lem at ps end (row_found (λ n. pair_from n s) at ps end r)

  groups_in : (p : ℕ × ℕ) (gs : List (Message × List Pair)) (q : ℕ × ℕ) → Row (Group s) p gs q
      → Each (λ (m : Message). NameIn (s ++ t) m.start m.len) (messages_of gs) × Each (PairIn (s ++ t)) (pairs_of gs)
  groups_in p [] q r = (tt, tt)
  groups_in p (g ∷ gs) q r =
      let x = r.1 in
      let m = g.0 in
      let n = message_says p.1 p.0 s m x.place x.message in
      let rest = groups_in r.0 gs q r.2 in (
        ((p.0, name_in p.0 m.start m.len n.place n.name), rest.0),
        each_both (PairIn (s ++ t)) g.1 (pairs_of gs) (run_in x.place g.1 r.0.0 x.run) rest.1,
      )

  -- Law: every number inside an accepted payload is exact, whatever its values are, and with any bytes behind it.
  pub payload_exact : (kind : Payload) (rooms : Counts) (start : ℕ) (c : Contents) (end : ℕ) → payload kind rooms start s ≡ done c end → NumbersExact (s ++ t) c
  payload_exact k.KvList rooms start c end e =
      let h = kv_run rooms start s c end e in
      record { messages = rw h.messages tt; pairs = run_in start c.pairs end h.run; actions = rw h.actions tt }
  payload_exact k.Messages rooms start c end e =
      let h = messages_run rooms start s c end e in
      let g = groups_in (start, 0) h.groups (end, length c.pairs) h.run in
      record { messages = rw h.messages g.0; pairs = rw h.pairs g.1; actions = rw h.actions tt }
  payload_exact k.Actions rooms start c end e =
      let h = actions_run rooms start s c end e in
      record {
        messages = rw h.messages tt;
        pairs = rw h.pairs tt;
        actions = row_each (λ (x : Action). PairIn (s ++ t) x.pair) action_in start c.actions end (row_found (λ n. action_from n s) start c.actions end h.run);
      }
