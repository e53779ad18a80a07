-- Laws about a whole frame: what it comes to by its head and its payload, and what an accepted one is.
use mathlib.Core.Path.{◌≡◌, sym, ap, ap₂, ◌∙◌}
use mathlib.Core.List.{List, []}
use Prim.Native.Nat.{ℕ, ◌+◌, ◌≤◌}
use native.Mathlib.Omega.{arith}
use lib.Dec.{leb, eqb}
use lib.ListN.{length, take}
use lib.Seq.{length-take-le}
use borrow.Author.Tests.{leb-true, eqb-true, eqb-false}
use Rattle.answer.specs.Answer.{Answer, done, refused, next}
use Rattle.answer.proofs.Cases.{bool_cases, both_true}
use Rattle.frame.specs.declared.Head.{Head}
use Rattle.frame.specs.declared.Side.{Side}
use Rattle.frame.specs.declared.Side.TheVariants as side
use Rattle.frame.specs.Head.{four_number}
use Rattle.frame.specs.Read.{Reading, answered, onward, cut, Sender, sender, head}
use Rattle.frame.proofs.Answers.{onward_done}
use Rattle.answer.proofs.Answers.{done_same, next_done}
use Rattle.frame.proofs.Cutting.{cut_out}
use Rattle.frame.proofs.Heads.{head_says, three}
use Rattle.payload.specs.declared.Counts.{Counts}
use Rattle.payload.specs.declared.Payload.{Payload}
use Rattle.payload.specs.declared.Payload.TheVariants as k
use Rattle.payload.specs.Payload.{Contents, payload}
use Rattle.payload.proofs.Accepted.{payload_all, kv_run, messages_run, actions_run}
use Rattle.parser.specs.Frame.{payload_of, framed, frame_read}

-- ---- by its head and its payload

-- a payload in its frame
abbrev pub in_frame_lem : Head → Answer Contents → Answer (Head × Contents)
in_frame_lem h a = next a (λ c end. done (h, c) end)

module _ (sent : Sender) (rooms : Counts) (f : List ℕ) where
  pub framed_refused : (number place : ℕ) → head sent f ≡ refused number place → framed sent rooms f ≡ refused number place
  unfolding framed
  framed_refused number place e = rw e

  pub framed_payload : (h : Head) (start : ℕ) → head sent f ≡ done h start → framed sent rooms f ≡ in_frame_lem h (payload (payload_of h.frame_type) rooms start f)
  unfolding framed
  framed_payload h start e = rw e

-- what is read goes on with the frame that was cut out
pub frame_on : (x : Side) (limit : ℕ) (rooms : Counts) (s : List ℕ) {r : Reading (List ℕ)} → cut limit s ≡ r → frame_read x limit rooms s ≡ onward r (framed (sender x) rooms)
unfolding frame_read
frame_on x limit rooms s e = ap (λ (y : Reading (List ℕ)). onward y (framed (sender x) rooms)) e

-- ---- an accepted frame

-- what it holds, of its own bytes: its head, and behind it its payload
pub record Held (sent : Sender) (rooms : Counts) (f : List ℕ) (h : Head) (c : Contents) (used : ℕ) : Type 0 where
  pub start : ℕ
  pub reads : head sent f ≡ done h start
  pub holds : payload (payload_of h.frame_type) rooms start f ≡ done c used

-- and how it stands in the bytes that it was read from
pub record Cut (x : Side) (limit : ℕ) (rooms : Counts) (s : List ℕ) (h : Head) (c : Contents) (used : ℕ) : Type 0 where
  pub four : 4 ≤ used
  pub there : used ≤ length s
  pub says : used ≡ 4 + four_number s
  pub fits : four_number s ≤ limit
  pub is : framed (sender x) rooms (take used s) ≡ done (h, c) used
  pub held : Held (sender x) rooms (take used s) h c used

module _ (sent : Sender) (rooms : Counts) (f : List ℕ) (h : Head) (c : Contents) (used : ℕ) (e : framed sent rooms f ≡ done (h, c) used) where
  pub framed_holds : Held sent rooms f h c used
  unfolding framed
  framed_holds =
      let o = next_done (head sent f) _ e in
      let p = next_done (payload (payload_of o.0.frame_type) rooms o.1 f) _ o.3 in
      let q = done_same p.3 in
      let one : o.0 ≡ h = ap (λ (y : Head × Contents). y.0) q.0 in
      let two : p.0 ≡ c = ap (λ (y : Head × Contents). y.1) q.0 in
      record {
        start = o.1;
        reads = o.2 ∙ ap (λ (y : Head). done y o.1) one;
        holds = ap (λ (y : Head). payload (payload_of y.frame_type) rooms o.1 f) (sym one) ∙ p.2 ∙ ap₂ done two q.1;
      }

  -- Law: it takes all of its bytes.
  pub framed_all : used ≡ length f
  framed_all = let x = framed_holds in payload_all (payload_of h.frame_type) rooms x.start f c used x.holds

-- Law: of the bytes that a frame was read from, it takes those that its length says, which are there.
pub frame_cut : (x : Side) (limit : ℕ) (rooms : Counts) (s : List ℕ) (h : Head) (c : Contents) (used : ℕ) → frame_read x limit rooms s ≡ answered (done (h, c) used)
    → Cut x limit rooms s h c used
unfolding frame_read
frame_cut x limit rooms s h c used e =
    let o = onward_done (framed (sender x) rooms) (cut limit s) e in
    let q = cut_out limit s o.2 in
    let all = framed_all (sender x) rooms o.0 h c used o.3 in
    let end : o.1 ≡ used = sym (length-take-le o.1 s q.all) ∙ ap length (sym q.is) ∙ sym all in
    let is : framed (sender x) rooms (take used s) ≡ done (h, c) used = ap (λ (n : ℕ). framed (sender x) rooms (take n s)) (sym end) ∙ ap (framed (sender x) rooms) (sym q.is) ∙ o.3 in
    record {
      four = omega (arith, end, q.says);
      there = omega (arith, end, q.all);
      says = sym end ∙ q.says;
      fits = q.fits;
      is = is;
      held = framed_holds (sender x) rooms (take used s) h c used is;
    }

-- ---- what each side's frames hold

-- a law about a payload goes by its kind
pub by_kind : {G : Type 0} (type : ℕ) → (type ≡ 3 → payload_of type ≡ k.Messages → G) → (type ≡ 103 → payload_of type ≡ k.Actions → G)
    → ((type ≡ 3 → ⊥) → (type ≡ 103 → ⊥) → payload_of type ≡ k.KvList → G) → G
by_kind type messages actions list =
    bool_cases (eqb type 3) (λ a. messages (eqb-true type 3 a) (rw a))
    (λ a.
    bool_cases (eqb type 103) (λ b. actions (eqb-true type 103 b) (rw (a, b)))
    (λ b. list (eqb-false type 3 a) (eqb-false type 103 b) (rw (a, b))))

-- the types of each side
pub haproxy_type : (f : List ℕ) (h : Head) (start : ℕ) → head (sender side.HAProxy) f ≡ done h start → h.frame_type ≤ 3
haproxy_type f h start e =
    let t = h.frame_type in
    leb-true t 3 (both_true (leb 1 t) (leb t 3) (sym (three 1 t) ∙ (head_says (sender side.HAProxy) f h start e).own)).1

pub agent_type : (f : List ℕ) (h : Head) (start : ℕ) → head (sender side.Agents) f ≡ done h start → 101 ≤ h.frame_type
agent_type f h start e =
    let t = h.frame_type in
    leb-true 101 t (both_true (leb 101 t) (leb t 103) (sym (three 101 t) ∙ (head_says (sender side.Agents) f h start e).own)).0

-- Law: a frame that HAProxy sends has no actions, and one that an agent sends has no messages.
module _ (rooms : Counts) (f : List ℕ) (h : Head) (c : Contents) (used : ℕ) where
  pub haproxy_actions : Held (sender side.HAProxy) rooms f h c used → c.actions ≡ []
  haproxy_actions x =
      by_kind h.frame_type
      (λ t is. (messages_run rooms x.start f c used (ap (λ (y : Payload). payload y rooms x.start f) (sym is) ∙ x.holds)).actions)
      (λ t is. absurd (omega (arith, haproxy_type f h x.start x.reads)))
      (λ t u is. (kv_run rooms x.start f c used (ap (λ (y : Payload). payload y rooms x.start f) (sym is) ∙ x.holds)).actions)

  pub agent_messages : Held (sender side.Agents) rooms f h c used → c.messages ≡ []
  agent_messages x =
      by_kind h.frame_type
      (λ t is. absurd (omega (arith, agent_type f h x.start x.reads)))
      (λ t is. (actions_run rooms x.start f c used (ap (λ (y : Payload). payload y rooms x.start f) (sym is) ∙ x.holds)).messages)
      (λ t u is. (kv_run rooms x.start f c used (ap (λ (y : Payload). payload y rooms x.start f) (sym is) ∙ x.holds)).messages)
