-- Laws about bytes behind: what was read at a place, and what stands in a row, is so with more bytes behind it.
use Rattle.types.specs.declared.Span.{Span}
use mathlib.Core.Path.{◌≡◌, sym, ap, ap₂, ◌∙◌}
use mathlib.Core.List.{List, ◌++◌}
use Prim.Native.Nat.{ℕ, ◌≤◌}
use native.Mathlib.Omega.{arith}
use lib.ListN.{length, drop, length-append, get_or-append}
use lib.Seq.{drop-append-le}
use Rattle.answer.specs.Answer.{Answer, done, behind}
use Rattle.answer.proofs.Cases.{answer_cases, not_both}
use Rattle.types.specs.Value.{span, string, value, typed}
use Rattle.types.proofs.Reading.{string_accepted, string_accepted_kept, typed_accepted_kept}
use Rattle.frame.specs.declared.Pair.{Pair}
use Rattle.frame.specs.declared.Message.{Message}
use Rattle.payload.specs.Pair.{moved_pair, pair, pair_from}
use Rattle.payload.specs.Payload.{moved_span, message_of, message_from}
use Rattle.payload.specs.Inner.{Run}
use Rattle.payload.proofs.Pairs.{pair_cases, pair_key, pair_value, pair_whole}
use Rattle.payload.proofs.Rows.{from_next}
use Rattle.payload.proofs.Steps.{count_there, string_next, message_says}
use Rattle.answer.proofs.Row.{Row, row_as, Found, found_row, row_found}
use Rattle.payload.proofs.Accepted.{Group}

-- Law: a pair at the front, and a string.
pub pair_longer : (s t : List ℕ) (p : Pair) (used : ℕ) → pair s ≡ done p used → pair (s ++ t) ≡ done p used
pair_longer s t p used e =
    pair_cases s
    (λ n place r. not_both e (pair_key s n place r))
    (λ start len u key n place r. not_both e (pair_value s start len u key n place r))
    (λ start len u key kind a b f n d.
    let there = (string_accepted s start len u key).1 in
    let v = value kind a b f in
    pair_whole (s ++ t) start len u (string_accepted_kept s t start len u key) v n (ap typed (drop-append-le u s t there) ∙ typed_accepted_kept (drop u s) t v n d)
    ∙ sym (pair_whole s start len u key v n d)
    ∙ e)

pub string_longer : (s t : List ℕ) (x : Span) (used : ℕ) → string s ≡ done x used → string (s ++ t) ≡ done x used
string_longer s t x used e = string_accepted_kept s t x.start x.len used e

-- Law: what a reader finds at a place, where it does so at the front.
pub from_longer : {A : Type 0} (moved : ℕ → A → A) (reader : List ℕ → Answer A)
    → ((s t : List ℕ) (x : A) (used : ℕ) → reader s ≡ done x used → reader (s ++ t) ≡ done x used)
    → (s t : List ℕ) (at : ℕ) (x : A) (end : ℕ) → at ≤ length s → behind moved at (reader (drop at s)) ≡ done x end → behind moved at (reader (drop at (s ++ t))) ≡ done x end
from_longer {A} moved reader kept s t at x end h e =
    answer_cases (reader (drop at s))
    (λ y used d. ap (λ (l : List ℕ). behind moved at (reader l)) (drop-append-le at s t h) ∙ ap (behind moved at) (kept (drop at s) t y used d ∙ sym d) ∙ e)
    (λ n place r. not_both e (ap (behind moved at) r))

-- Law: pairs in a row, and messages with their arguments.
pub run_longer : (s t : List ℕ) (at : ℕ) (ps : List Pair) (end : ℕ) → Run s at ps end → Run (s ++ t) at ps end
run_longer s t at ps end r =
    found_row (λ n. pair_from n (s ++ t)) at ps end
    (row_as (Found (λ n. pair_from n (s ++ t))) (λ (n : ℕ). n) (λ n p m f. from_longer moved_pair pair pair_longer s t n p m (from_next s n p m f).1 f) at ps end (row_found (λ n. pair_from n s) at ps end r))

pub message_longer : (first at : ℕ) (s t : List ℕ) (m : Message) (end : ℕ) → message_from first at s ≡ done m end → message_from first at (s ++ t) ≡ done m end
message_longer first at s t m end e =
    let n = message_says first at s m end e in
    let w = string_next s at m.start m.len n.place n.name in
    let name = from_longer moved_span string string_longer s t at (span m.start m.len) n.place (omega arith) n.name in
    let byte = get_or-append s t 0 n.place n.byte in
    count_there first at (s ++ t) (span m.start m.len) n.place name (omega (arith, length-append s t, n.byte))
    ∙ ap₂ (λ (c k : ℕ). done (message_of (span m.start m.len) first c) k) (byte ∙ sym n.count) (sym n.ends)
    ∙ ap (λ (i : ℕ). done (message_of (span m.start m.len) i m.count) end) (sym n.is_first)

pub groups_longer : (s t : List ℕ) (from : ℕ × ℕ) (gs : List (Message × List Pair)) (to : ℕ × ℕ) → Row (Group s) from gs to → Row (Group (s ++ t)) from gs to
groups_longer s t from gs to r =
    row_as (Group (s ++ t)) (λ (p : ℕ × ℕ). p)
    (λ p g q x.
    record {
      place = x.place;
      message = message_longer p.1 p.0 s t g.0 x.place x.message;
      many = x.many;
      run = run_longer s t x.place g.1 q.0 x.run;
      pairs = x.pairs;
    })
    from gs to r
