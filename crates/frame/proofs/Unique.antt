-- No second result meets a promise.
use Rattle.std.proofs.Common.{◌≡◌, sym, ap, ◌∙◌, List, ℕ, Result, Ok, Err, arith}
use Rattle.answer.specs.declared.Read.{Read}
use Rattle.answer.specs.declared.Refusal.{Refusal}
use Rattle.answer.proofs.Same.{refusal_same, read_same}
use Rattle.frame.specs.declared.Head.{Head}
use Rattle.frame.specs.declared.Side.{Side}
use Rattle.frame.specs.declared.Stop.{Stop}
use Rattle.frame.specs.declared.Stop.TheVariants as stop
use Rattle.frame.specs.Promise.{stop_said, cut_said, Cut, ReadHead}
use lib.ListN.{drop}
use Rattle.types.proofs.Unique.{value_numbers_unique}
use Rattle.frame.specs.declared.Message.{Message}
use Rattle.frame.specs.declared.Pair.{Pair}
use Rattle.frame.specs.declared.Action.{Action}
use Rattle.frame.specs.Records.{message_numbers, pair_numbers, action_numbers}

-- answers that say the same are the same
pub stop_same : {A : Type 0} (r q : Stop) → stop_said {A = A} r ≡ stop_said q → r ≡ q
stop_same (stop.Wait n) (stop.Wait m) e = let z : n ≡ m = cc in ap stop.Wait z
stop_same (stop.Wait n) (stop.Refused q) e = let z : ◌≡◌ {A = ℕ} 0 1 = cc in absurd (omega arith)
stop_same (stop.Refused r) (stop.Wait m) e = let z : ◌≡◌ {A = ℕ} 0 1 = cc in absurd (omega arith)
stop_same (stop.Refused r) (stop.Refused q) e = ap stop.Refused (refusal_same r q (cc) (cc))

cut_same : (s : List ℕ) (r q : Result ℕ Stop) → cut_said s r ≡ cut_said s q → r ≡ q
cut_same s (Ok n) (Ok m) e = let z : n ≡ m = cc in ap Ok z
cut_same s (Ok n) (Err (stop.Wait m)) e = let z : ◌≡◌ {A = ℕ} 0 1 = cc in absurd (omega arith)
cut_same s (Ok n) (Err (stop.Refused q)) e = let z : ◌≡◌ {A = ℕ} 0 1 = cc in absurd (omega arith)
cut_same s (Err (stop.Wait n)) (Ok m) e = let z : ◌≡◌ {A = ℕ} 0 1 = cc in absurd (omega arith)
cut_same s (Err (stop.Refused r)) (Ok m) e = let z : ◌≡◌ {A = ℕ} 0 1 = cc in absurd (omega arith)
cut_same s (Err r) (Err q) e = ap Err (stop_same r q e)

pub cut_unique : (input : List ℕ) (limit : ℕ) (r q : Result ℕ Stop) → Cut input limit r → Cut input limit q → r ≡ q
cut_unique input limit r q p s = cut_same input r q (p ∙ sym s)

pub read_head_unique : (frame : List ℕ) (side : Side) (r q : Result (Read Head) Refusal) → ReadHead frame side r → ReadHead frame side q → r ≡ q
read_head_unique frame side r q p s = read_same r q (p ∙ sym s)

-- a record is known by its numbers
pub message_numbers_unique : (a b : Message) → message_numbers a ≡ message_numbers b → a ≡ b
message_numbers_unique a b e = let start : a.start ≡ b.start = cc in
    let len : a.len ≡ b.len = cc in
    let first : a.first ≡ b.first = cc in
    let count : a.count ≡ b.count = cc in
    λ i. record { start = start i; len = len i; first = first i; count = count i }

pub pair_numbers_unique : (a b : Pair) → pair_numbers a ≡ pair_numbers b → a ≡ b
pair_numbers_unique a b e = let start : a.start ≡ b.start = cc in
    let len : a.len ≡ b.len = cc in
    let value : a.value ≡ b.value = value_numbers_unique a.value b.value (ap (drop 2) e) in
    λ i. record { start = start i; len = len i; value = value i }

pub action_numbers_unique : (a b : Action) → action_numbers a ≡ action_numbers b → a ≡ b
action_numbers_unique a b e = let verb : a.verb ≡ b.verb = cc in
    let scope : a.scope ≡ b.scope = cc in
    let pair : a.pair ≡ b.pair = pair_numbers_unique a.pair b.pair (ap (drop 2) e) in
    λ i. record { verb = verb i; scope = scope i; pair = pair i }
