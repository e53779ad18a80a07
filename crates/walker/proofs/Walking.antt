-- Laws about walking: from the place that the makers give, the steps find exactly the pairs that the frame reader gives, in order, and then
-- the end.
use mathlib.Core.Path.{◌≡◌, refl, sym, ap, ap₂, ◌∙◌}
use mathlib.Core.Bool.{true, false}
use mathlib.Core.List.{List, [], ◌∷◌}
use Rattle.std.specs.Prelude.{Option}
use Prim.Native.Nat.{ℕ, suc, ◌+◌, ◌<◌, ◌^◌}
use native.Mathlib.Omega.{arith}
use lib.ListN.{length, take, drop, length-drop}
use lib.Seq.{length-take-le}
use borrow.Author.Tests.{lt-ltb, le-ltb}
use Rattle.answer.specs.Answer.{Answer, done, behind}
use Rattle.answer.proofs.Each.{Each, each_on}
use Rattle.varint.specs.Number.{number}
use Rattle.frame.specs.declared.Pair.{Pair}
use Rattle.frame.specs.declared.Message.{Message}
use Rattle.frame.specs.declared.Head.{Head}
use Rattle.frame.specs.declared.Side.{Side}
use Rattle.frame.specs.Read.{still, answered, Sender, head}
use Rattle.frame.proofs.Heads.{head_says}
use Rattle.payload.specs.declared.Counts.{Counts}
use Rattle.payload.specs.declared.Payload.{Payload}
use Rattle.payload.specs.declared.Payload.TheVariants as k
use Rattle.payload.specs.Pair.{pair_from}
use Rattle.payload.specs.Payload.{Contents, payload}
use Rattle.payload.specs.Inner.{Run}
use Rattle.payload.proofs.Rows.{from_next}
use Rattle.answer.proofs.Row.{Row, row_as, row_found}
use Rattle.answer.proofs.Row.{Found as Read}
use Rattle.payload.proofs.Accepted.{payload_all, kv_run, messages_run, arguments_in, Whole, messages_whole}
use Rattle.parser.specs.Frame.{payload_of, frame_read}
use Rattle.parser.proofs.Frames.{frame_cut}
use Rattle.payload.specs.Item.{one, no_more}
use Rattle.walker.specs.declared.Found.{Found}
use Rattle.walker.specs.declared.Place.{Place}
use Rattle.walker.specs.Walk.{end_or, behind_number, kv_of, arguments_place, walk_step}
use Rattle.walker.proofs.Stepping.{step_end, step_is}

-- ---- what a walk finds

abbrev found : Pair → Place → Answer (Option Found)
found p y = one (record { pair = p; next = y })

-- From one place to another the steps find these pairs.
abbrev pub Steps : List ℕ → Place → Pair → Place → Type 0
Steps s x p y = walk_step s x ≡ found p y

abbrev pub Finds : List ℕ → Place → List Pair → Place → Type 0
Finds s x ps y = Row (Steps s) x ps y

-- And behind them is the end.
pub record FindsAll (s : List ℕ) (x : Place) (ps : List Pair) : Type 0 where
  pub last : Place
  pub finds : Finds s x ps last
  pub ends : walk_step s last ≡ no_more

-- ---- pairs that stand in a row

abbrev kv_at : ℕ → Place
kv_at at = record { at = at; left = 0; kv = true }

abbrev arguments_at : ℕ → ℕ → Place
arguments_at at n = record { at = at; left = n; kv = false }

-- a walk over a KV list finds them, and so does one over so many arguments
kv_finds : (s : List ℕ) (at : ℕ) (ps : List Pair) (end : ℕ) → Run s at ps end → Finds s (kv_at at) ps (kv_at end)
kv_finds s at ps end r = row_as (Steps s) kv_at one at ps end (row_found (λ n. pair_from n s) at ps end r)
  where
    one : (n : ℕ) (p : Pair) (m : ℕ) → Read (λ i. pair_from i s) n p m → Steps s (kv_at n) p (kv_at m)
    one n p m e = step_is s (kv_at n) (lt-ltb n (length s) (omega (arith, from_next s n p m e))) _ e

arguments_finds : (s : List ℕ) (at : ℕ) (ps : List Pair) (end left : ℕ) → Run s at ps end → Finds s (arguments_at at (length ps + left)) ps (arguments_at end left)
arguments_finds s at [] end left r = ap₂ arguments_at r (omega arith)
arguments_finds s at (p ∷ ps) end left r = (
  arguments_at r.0 (length ps + left),
  step_is s (arguments_at at (suc (length ps) + left)) (lt-ltb 0 (suc (length ps) + left) (omega arith)) _ r.1 ∙ ap (λ (n : ℕ). found p (arguments_at r.0 n)) (omega arith),
  arguments_finds s r.0 ps end left r.2,
)

-- ---- in a frame

-- Law: in a frame whose head is accepted, a KV list starts where the payload does.
pub kv_start : (sent : Sender) (f : List ℕ) (h : Head) (start : ℕ) → head sent f ≡ done h start → kv_of f ≡ kv_at start
unfolding kv_of
kv_start sent f h start e =
    let p = head_says sent f h start e in
    ap kv_at (ap (behind_number f) (number_ends 9 h.stream p.first p.stream) ∙ number_ends (9 + p.first) h.frame p.second p.frame ∙ p.ends)
  where
    number_ends : (at n used : ℕ) → number (drop at f) ≡ done n used → behind_number f at ≡ at + used
    number_ends at n used d = ap (λ (a : Answer ℕ). end_or (length f) (behind still at a)) d

-- Law: a walk over the KV list of an accepted frame finds the pairs that the frame reader gives, in order, and then the end.
pub kv_walked : (x : Side) (limit : ℕ) (rooms : Counts) (s : List ℕ) (h : Head) (c : Contents) (used : ℕ) → frame_read x limit rooms s ≡ answered (done (h, c) used)
    → payload_of h.frame_type ≡ k.KvList → FindsAll (take used s) (kv_of (take used s)) c.pairs
kv_walked x limit rooms s h c used e is =
    let f = take used s in
    let q = (frame_cut x limit rooms s h c used e).held in
    let holds : payload k.KvList rooms q.start f ≡ done c used = ap (λ (y : Payload). payload y rooms q.start f) (sym is) ∙ q.holds in
    rw (kv_start _ f h q.start q.reads)
    (record {
      last = kv_at used;
      finds = kv_finds f q.start c.pairs used (kv_run rooms q.start f c used holds).run;
      ends = step_end f (kv_at used) (le-ltb used (length f) (omega (arith, payload_all k.KvList rooms q.start f c used holds)));
    })

-- a message's arguments start behind its count byte
arguments_start : (x : Message) → x.start + x.len + 1 < 2 ^ 64 → arguments_place x ≡ arguments_at (x.start + x.len + 1) x.count
unfolding arguments_place
arguments_start x h = rw (lt-ltb (x.start + x.len + 1) (2 ^ 64) h)

-- Law: a walk over a message's arguments finds those pairs that the message's record names, in order, and then the end.
pub messages_walked : (x : Side) (limit : ℕ) (rooms : Counts) (s : List ℕ) (h : Head) (c : Contents) (used : ℕ) → frame_read x limit rooms s ≡ answered (done (h, c) used)
    → payload_of h.frame_type ≡ k.Messages → length s < 2 ^ 64 → Each (λ m. FindsAll (take used s) (arguments_place m) (arguments_in c.pairs m)) c.messages
messages_walked x limit rooms s h c used e is small =
    let q = frame_cut x limit rooms s h c used e in
    let f = take used s in
    let start = q.held.start in
    let holds = messages_run rooms start f c used (ap (λ (y : Payload). payload y rooms start f) (sym is) ∙ q.held.holds) in
    each_on (λ m w. one f (omega (arith, length-take-le used s q.there, q.there)) c.pairs m w) c.messages (messages_whole f start c used holds)
  where
    one : (f : List ℕ) → length f < 2 ^ 64 → (ps : List Pair) (m : Message) → Whole f ps m → FindsAll f (arguments_place m) (arguments_in ps m)
    one f fits ps m w =
        let qs = arguments_in ps m in
        let many : length qs ≡ m.count = length-take-le m.count (drop m.first ps) (omega (arith, w.within, length-drop m.first ps)) in
        let all : length qs + 0 ≡ m.count = omega arith in
        rw (arguments_start m (omega (arith, w.inside)))
        (record {
          last = arguments_at w.last 0;
          finds = rw all at (arguments_finds f (m.start + m.len + 1) qs w.last 0 w.run);
          ends = step_end f (arguments_at w.last 0) refl;
        })
