-- No second result meets a promise.
use Rattle.std.specs.Prelude.{Option, Result, Ok, Err}
use Rattle.answer.specs.declared.Read.{Read}
use Rattle.answer.specs.declared.Refusal.{Refusal}
use Rattle.frame.specs.declared.Pair.{Pair}
use mathlib.Core.Path.{◌≡◌, refl, sym, ap, ◌∙◌}
use mathlib.Core.List.{List}
use Prim.Native.Nat.{ℕ}
use Rattle.answer.proofs.Answers.{done_same, refused_same}
use Rattle.answer.proofs.Cases.{not_both}
use Rattle.answer.proofs.Same.{refusal_same, read_same}
use Rattle.payload.specs.Item.{next_said}
use Rattle.payload.specs.declared.Counts.{Counts}
use Rattle.payload.specs.declared.Cursor.{Cursor}
use Rattle.payload.specs.declared.Item.{Item}
use Rattle.payload.specs.declared.Payload.{Payload}
use Rattle.payload.specs.Promise.{ReadPair, PairFrom, NextItem, LookPayload, ReadPayload}

-- answers of a step that say the same are the same
pub next_same : {A : Type 0} (r q : Result (Option A) Refusal) → next_said r ≡ next_said q → r ≡ q
next_same (Ok x) (Ok y) e = ap Ok (done_same e).0
next_same (Ok x) (Err q) e = not_both refl e
next_same (Err r) (Ok y) e = not_both e refl
next_same (Err r) (Err q) e = ap Err (refusal_same r q (refused_same e).0 (refused_same e).1)

pub read_pair_unique : (input : List ℕ) (r q : Result (Read Pair) Refusal) → ReadPair input r → ReadPair input q → r ≡ q
read_pair_unique input r q p s = read_same r q (p ∙ sym s)

pub pair_from_unique : (input : List ℕ) (at : ℕ) (r q : Result (Read Pair) Refusal) → PairFrom input at r → PairFrom input at q → r ≡ q
pair_from_unique input at r q p s = read_same r q (p ∙ sym s)

pub next_item_unique : (kind : Payload) (input : List ℕ) (x : Cursor) (r q : Result (Option Item) Refusal) → NextItem kind input x r → NextItem kind input x q → r ≡ q
next_item_unique kind input x r q p s = next_same r q (p ∙ sym s)

pub look_payload_unique : (kind : Payload) (start : ℕ) (input : List ℕ) (rooms : Counts) (r q : Result (Read Counts) Refusal)
    → LookPayload kind start input rooms r → LookPayload kind start input rooms q → r ≡ q
look_payload_unique kind start input rooms r q p s = read_same r q (p ∙ sym s)

pub read_payload_unique : (kind : Payload) (start : ℕ) (input : List ℕ) (r q : Result (Read Counts) Refusal)
    (old_messages new_messages other_messages old_pairs new_pairs other_pairs old_actions new_actions other_actions : List ℕ)
    → ReadPayload kind start input r old_messages new_messages old_pairs new_pairs old_actions new_actions
    → ReadPayload kind start input q old_messages other_messages old_pairs other_pairs old_actions other_actions
    → (r ≡ q) × (new_messages ≡ other_messages) × (new_pairs ≡ other_pairs) × (new_actions ≡ other_actions)
read_payload_unique kind start input r q old_messages new_messages other_messages old_pairs new_pairs other_pairs old_actions new_actions other_actions p s =
    let f = p.fills in
    let g = s.fills in
    (read_same r q (p.says ∙ sym s.says), f.messages ∙ sym g.messages, f.pairs ∙ sym g.pairs, f.actions ∙ sym g.actions)
