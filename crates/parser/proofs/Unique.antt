-- No second result meets a promise.
use mathlib.Core.Path.{◌≡◌, sym, ap, ◌∙◌}
use mathlib.Core.List.{List}
use Prim.Native.Nat.{ℕ}
use native.Mathlib.Omega.{arith}
use Rattle.frame.specs.declared.Head.{Head}
use Rattle.frame.specs.Read.{Reading}
use Rattle.frame.proofs.Answers.{answered_same}
use Rattle.answer.proofs.Answers.{done_same}
use Rattle.payload.specs.declared.Counts.{Counts}
use Rattle.payload.specs.Payload.{Contents}
use Rattle.std.specs.Prelude.{Result, Ok, Err}
use Rattle.answer.specs.declared.Read.{Read}
use Rattle.frame.specs.declared.Stop.{Stop}
use Rattle.frame.specs.declared.Stop.TheVariants as stop
use Rattle.frame.proofs.Unique.{stop_same}
use Rattle.parser.specs.declared.Frame.{Frame}
use Rattle.parser.specs.Promise.{frame_said, FrameFills, ReadFrame, ReadAgentFrame, LookFrame}

-- an accepted frame, by its head, how many records it has, and how many bytes it took
abbrev pub frame_done : Head → Counts → ℕ → Result (Read Frame) Stop
frame_done h counts used = Ok (record { value = record { head = h; counts = counts }; used = used })

-- answers that say the same are the same
pub frame_same : (a b : Result (Read Frame) Stop) → frame_said a ≡ frame_said b → a ≡ b
frame_same (Ok x) (Ok y) e =
    let o = done_same (answered_same e) in
    let one = ap (λ (z : Head × Counts). z.0) o.0 in
    let two = ap (λ (z : Head × Counts). z.1) o.0 in
    λ i. Ok (record { value = record { head = one i; counts = two i }; used = o.1 i })
frame_same (Ok x) (Err (stop.Wait m)) e = let z : ◌≡◌ {A = ℕ} 0 1 = cc in absurd (omega arith)
frame_same (Ok x) (Err (stop.Refused q)) e = let z : ◌≡◌ {A = ℕ} 0 1 = cc in absurd (omega arith)
frame_same (Err (stop.Wait k)) (Ok y) e = let z : ◌≡◌ {A = ℕ} 0 1 = cc in absurd (omega arith)
frame_same (Err (stop.Refused r)) (Ok y) e = let z : ◌≡◌ {A = ℕ} 0 1 = cc in absurd (omega arith)
frame_same (Err r) (Err q) e = ap Err (stop_same r q e)

-- of both entries: the answer, and the numbers in each table
fills_unique : {x : Reading (Head × Contents)} {r q : Result (Read Frame) Stop} {om nm om' op np op' oa na oa' : List ℕ} → FrameFills x r om nm op np oa na → FrameFills x q om om' op op' oa oa'
    → (r ≡ q) × (nm ≡ om') × (np ≡ op') × (na ≡ oa')
fills_unique {r = r} {q = q} p s = (
  frame_same r q (p.says ∙ sym s.says),
  p.fills.messages ∙ sym s.fills.messages,
  p.fills.pairs ∙ sym s.fills.pairs,
  p.fills.actions ∙ sym s.fills.actions,
)

pub read_frame_unique : (input : List ℕ) (limit : ℕ) (r q : Result (Read Frame) Stop) (old_messages new_messages other_messages old_pairs new_pairs other_pairs : List ℕ)
    → ReadFrame input limit r old_messages new_messages old_pairs new_pairs → ReadFrame input limit q old_messages other_messages old_pairs other_pairs
    → (r ≡ q) × (new_messages ≡ other_messages) × (new_pairs ≡ other_pairs)
read_frame_unique input limit r q om nm am op np ap' p s = let u = fills_unique p s in (u.0, u.1, u.2)

pub read_agent_frame_unique : (input : List ℕ) (limit : ℕ) (r q : Result (Read Frame) Stop) (old_pairs new_pairs other_pairs old_actions new_actions other_actions : List ℕ)
    → ReadAgentFrame input limit r old_pairs new_pairs old_actions new_actions → ReadAgentFrame input limit q old_pairs other_pairs old_actions other_actions
    → (r ≡ q) × (new_pairs ≡ other_pairs) × (new_actions ≡ other_actions)
read_agent_frame_unique input limit r q op np ap' oa na aa p s = let u = fills_unique p s in (u.0, u.2, u.3)

pub look_frame_unique : (input : List ℕ) (limit : ℕ) (rooms : Counts) (r q : Result (Read Frame) Stop) → LookFrame input limit rooms r → LookFrame input limit rooms q → r ≡ q
look_frame_unique input limit rooms r q p s = frame_same r q (p ∙ sym s)
