-- Laws about accepted frames, whichever side sent them: each of their records has a line.
use mathlib.Core.Path.{◌≡◌, refl, sym, ap, ◌∙◌}
use mathlib.Core.Bool.{true, cond, ◌&&◌, ◌||◌}
use mathlib.Core.List.{List, [], ◌∷◌}
use Prim.Native.Nat.{ℕ, ◌+◌, ◌≤◌}
use native.Mathlib.Omega.{arith}
use lib.Dec.{eqb}
use lib.ListN.{length, drop, length-drop}
use Rattle.answer.specs.Answer.{done, behind}
use Rattle.answer.specs.Inner.{InRow}
use Rattle.answer.proofs.Cases.{true_false, answer_cases, not_both}
use Rattle.answer.proofs.Each.{Each, each_both}
use Rattle.types.specs.Value.{span, string, Record, value, Shape, nothing, flag, integer, address, text, reserved, shape, points, moved, typed, in_fields, in_flags}
use Rattle.types.specs.Form.{writable_record}
use Rattle.types.specs.Promise.{record_of}
use Rattle.types.proofs.Reading.{string_accepted, typed_accepted}
use Rattle.types.proofs.Shapes.{in_record}
use Rattle.frame.specs.declared.Head.{Head}
use Rattle.frame.specs.declared.Pair.{Pair}
use Rattle.frame.specs.declared.Message.{Message}
use Rattle.frame.specs.declared.Action.{Action}
use Rattle.frame.specs.Read.{Sender}
use Rattle.answer.proofs.Answers.{done_same}
use Rattle.payload.specs.declared.Counts.{Counts}
use Rattle.payload.specs.declared.Payload.{Payload}
use Rattle.payload.specs.declared.Payload.TheVariants as k
use Rattle.payload.specs.Pair.{pair_of, moved_pair, pair, pair_from}
use Rattle.payload.specs.Action.{action_from}
use Rattle.payload.specs.Payload.{Contents, payload}
use Rattle.payload.specs.Inner.{Run}
use Rattle.payload.proofs.Pairs.{pair_key, pair_value, pair_whole, pair_cases}
use Rattle.payload.proofs.Rows.{from_next}
use Rattle.payload.proofs.Steps.{string_next, message_says}
use Rattle.answer.proofs.Row.{Row}
use Rattle.payload.proofs.Standing.{stands, by_verb}
use Rattle.payload.proofs.Accepted.{Group, pairs_of, messages_of, kv_run, messages_run, actions_run}
use Rattle.parser.specs.Frame.{payload_of, framed}
use Rattle.parser.proofs.Frames.{framed_holds}

-- ---- records that have a line

-- A pair whose numbers lie in their fields, and whose key and value lie in so many bytes, apart; and a message whose name does.
pub record Whole (n : ℕ) (p : Pair) : Type 0 where
  pub fields : writable_record (record_of p.value) ≡ true
  pub key : p.start + p.len ≤ n
  pub range : points (shape p.value.kind) ≡ true → p.value.a + p.value.b ≤ n
  pub both : points (shape p.value.kind) ≡ true → p.len + p.value.b ≤ n

abbrev pub Named : ℕ → Message → Type 0
Named n m = m.start + m.len ≤ n

-- A set or an unset of a scope that there is, whose name and value lie in so many bytes; an unset has null for its value.
pub record Acts (n : ℕ) (x : Action) : Type 0 where
  pub verbs : eqb x.verb 1 || eqb x.verb 2 ≡ true
  pub scope : x.scope ≤ 4
  pub whole : Whole n x.pair
  pub null : x.verb ≡ 2 → record_of x.pair.value ≡ value 0 0 0 0

pub record Held (n : ℕ) (c : Contents) : Type 0 where
  pub messages : Each (Named n) c.messages
  pub pairs : Each (Whole n) c.pairs
  pub actions : Each (Acts n) c.actions

-- ---- a pair that was read

-- behind k other bytes
fields_moved : (k : ℕ) (v : Record) → writable_record v ≡ true → writable_record (moved k v) ≡ true
fields_moved k (value kind a b flags) h = by_shape (shape kind) h
  where
    by_shape : (sh : Shape) → in_flags sh flags && in_fields sh a b ≡ true → in_flags sh flags && in_fields sh (cond (points sh) (k + a) a) b ≡ true
    by_shape nothing o = o
    by_shape flag o = o
    by_shape (integer w) o = o
    by_shape (address n) o = o
    by_shape text o = o
    by_shape reserved o = o

whole_moved : (k n : ℕ) (p : Pair) → Whole n p → Whole (k + n) (moved_pair k p)
whole_moved k n p h =
    record {
      fields = fields_moved k (record_of p.value) h.fields;
      key = omega (arith, h.key);
      range = λ t. rw t (omega (arith, h.range t));
      both = λ t. omega (arith, h.both t);
    }

pair_found : (s : List ℕ) (start len u : ℕ) → string s ≡ done (span start len) u → (kind a b f n : ℕ) → typed (drop u s) ≡ done (value kind a b f) n
    → Whole (length s) (pair_of (span start len) (moved u (value kind a b f)))
pair_found s start len u key kind a b f n d =
    let k = string_accepted s start len u key in
    let v = typed_accepted (drop u s) kind a b f n d in
    record {
      fields = fields_moved u (value kind a b f) (in_record kind a b f (shape kind) refl v.5 v.3);
      key = omega (arith, k);
      range = λ t. rw t (let o = v.4 t in omega (arith, k, v.1, length-drop u s));
      both = λ t. let o = v.4 t in omega (arith, k, v.1, length-drop u s);
    }

pair_read : (s : List ℕ) (p : Pair) (used : ℕ) → pair s ≡ done p used → Whole (length s) p
pair_read s p used e =
    pair_cases s
    (λ n place r. not_both e (pair_key s n place r))
    (λ start len u key n place r. not_both e (pair_value s start len u key n place r))
    (λ start len u key kind a b f n d.
    rw (sym (done_same (sym (pair_whole s start len u key (value kind a b f) n d) ∙ e)).0) (pair_found s start len u key kind a b f n d))

-- Law: a pair that stands at a place has a line.
pub pair_there : (s : List ℕ) (at : ℕ) (p : Pair) (end : ℕ) → pair_from at s ≡ done p end → Whole (length s) p
pair_there s at p end e =
    let all : at + length (drop at s) ≡ length s = omega (arith, length-drop at s, (from_next s at p end e).1) in
    answer_cases (pair (drop at s))
    (λ q used is.
    rw (sym (done_same (sym (ap (behind moved_pair at) is) ∙ e)).0)
    (rw all at (whole_moved at (length (drop at s)) q (pair_read (drop at s) q used is))))
    (λ n place r. not_both e (ap (behind moved_pair at) r))

-- Law: so has an action that does.
pub action_acts : (s : List ℕ) (at : ℕ) (x : Action) (end : ℕ) → action_from at s ≡ done x end → Acts (length s) x
unfolding shape
action_acts s at x end e =
    let z = stands s at x end e in
    record {
      verbs = z.verbs;
      scope = z.scope;
      whole =
          by_verb x z.verbs
          (λ one. pair_there s (at + 3) x.pair end (z.set one))
          (λ two.
          let u = z.unset two in
          let n = string_next s (at + 3) x.pair.start x.pair.len end u.0 in
          rw (sym u.1) (record { fields = refl; key = omega (arith, n); range = λ t. true_false t refl; both = λ t. true_false t refl }));
      null = λ two. ap (λ (p : Pair). record_of p.value) (sym (z.unset two).1);
    }

-- ---- a payload that was read

run_whole : (s : List ℕ) (at : ℕ) (ps : List Pair) (end : ℕ) → Run s at ps end → Each (Whole (length s)) ps
run_whole s at [] end r = tt
run_whole s at (p ∷ ps) end r = (pair_there s at p r.0 r.1, run_whole s r.0 ps end r.2)

run_acts : (s : List ℕ) (at : ℕ) (xs : List Action) (end : ℕ) → InRow (λ n. action_from n s) at xs end → Each (Acts (length s)) xs
run_acts s at [] end r = tt
run_acts s at (x ∷ xs) end r = (action_acts s at x r.0 r.1, run_acts s r.0 xs end r.2)

groups_held : (s : List ℕ) (from : ℕ × ℕ) (gs : List (Message × List Pair)) (to : ℕ × ℕ) → Row (Group s) from gs to
    → Each (Named (length s)) (messages_of gs) × Each (Whole (length s)) (pairs_of gs)
groups_held s from [] to r = (tt, tt)
groups_held s from (g ∷ gs) to r =
    let m = g.0 in
    let n = message_says from.1 from.0 s m r.1.place r.1.message in
    let o = groups_held s r.0 gs to r.2 in (
      (omega (arith, string_next s from.0 m.start m.len n.place n.name), o.0),
      each_both (Whole (length s)) g.1 (pairs_of gs) (run_whole s r.1.place g.1 r.0.0 r.1.run) o.1,
    )

-- Law: each record of an accepted payload has a line.
pub payload_held : (kind : Payload) (rooms : Counts) (start : ℕ) (s : List ℕ) (c : Contents) (end : ℕ) → payload kind rooms start s ≡ done c end → Held (length s) c
payload_held k.KvList rooms start s c end e =
    let h = kv_run rooms start s c end e in
    record { messages = rw h.messages tt; pairs = run_whole s start c.pairs end h.run; actions = rw h.actions tt }
payload_held k.Messages rooms start s c end e =
    let h = messages_run rooms start s c end e in
    let o = groups_held s (start, 0) h.groups (end, length c.pairs) h.run in
    record { messages = rw h.messages o.0; pairs = rw h.pairs o.1; actions = rw h.actions tt }
payload_held k.Actions rooms start s c end e =
    let h = actions_run rooms start s c end e in
    record { messages = rw h.messages tt; pairs = rw h.pairs tt; actions = run_acts s start c.actions end h.run }

-- Law: so has each record of an accepted frame.
pub whole_held : (sent : Sender) (rooms : Counts) (f : List ℕ) (m : Head) (c : Contents) (used : ℕ) → framed sent rooms f ≡ done (m, c) used → Held (length f) c
whole_held sent rooms f m c used e =
    let h = framed_holds sent rooms f m c used e in
    payload_held (payload_of m.frame_type) rooms h.start f c used h.holds
