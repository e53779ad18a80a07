-- The order of what is read: in an accepted payload the keys' starts rise, so the pairs come out in the order of their bytes.
use mathlib.Core.Path.{◌≡◌, ap}
use mathlib.Core.List.{List, [], ◌∷◌, ◌++◌, map}
use Prim.Native.Nat.{ℕ, zero, suc, ◌≤◌, ◌<◌}
use native.Mathlib.Omega.{arith}
use lib.ListN.{length, get_or}
use Rattle.answer.specs.Answer.{done}
use Rattle.frame.specs.declared.Pair.{Pair}
use Rattle.frame.specs.declared.Message.{Message}
use Rattle.payload.specs.declared.Counts.{Counts}
use Rattle.payload.specs.declared.Payload.{Payload}
use Rattle.payload.specs.declared.Payload.TheVariants as k
use Rattle.payload.specs.Payload.{Contents, payload}
use Rattle.payload.specs.Inner.{Run}
use Rattle.payload.proofs.Pairs.{from_lies}
use Rattle.payload.proofs.Steps.{message_next}
use Rattle.answer.proofs.Row.{Row}
use Rattle.payload.proofs.Accepted.{Group, pairs_of, payload_start, payload_all, kv_run, messages_run, actions_run}

-- The keys start behind a place, one behind the other, and not behind an end.
abbrev pub Rises : ℕ → List Pair → ℕ → Type 0
Rises at [] end = at ≤ end
Rises at (p ∷ ps) end = (at < p.start) × Rises p.start ps end

rises_after : (before at : ℕ) (ps : List Pair) (end : ℕ) → before ≤ at → Rises at ps end → Rises before ps end
rises_after before at [] end h r = omega arith
rises_after before at (p ∷ ps) end h r = (omega (arith, r.0), r.1)

rises_both : (at : ℕ) (ps : List Pair) (mid : ℕ) (qs : List Pair) (end : ℕ) → Rises at ps mid → Rises mid qs end → Rises at (ps ++ qs) end
rises_both at [] mid qs end r t = rises_after at mid qs end r t
rises_both at (p ∷ ps) mid qs end r t = (r.0, rises_both p.start ps mid qs end r.1 t)

-- pairs in a row do, and so do those of groups
run_rises : (s : List ℕ) (at : ℕ) (ps : List Pair) (end : ℕ) → Run s at ps end → Rises at ps end
run_rises s at [] end r = omega (arith, r)
run_rises s at (p ∷ ps) end r = let l = from_lies s at p r.0 r.1 in (l.first, rises_after p.start r.0 ps end (omega arith) (run_rises s r.0 ps end r.2))

groups_rise : (s : List ℕ) (from : ℕ × ℕ) (gs : List (Message × List Pair)) (to : ℕ × ℕ) → Row (Group s) from gs to → Rises from.0 (pairs_of gs) to.0
groups_rise s from [] to r = omega (arith, ap (λ (p : ℕ × ℕ). p.0) r)
groups_rise s from (g ∷ gs) to r =
    let x = r.1 in
    rises_both from.0 g.1 r.0.0 (pairs_of gs) to.0
    (rises_after from.0 x.place g.1 r.0.0 (omega (arith, message_next from.1 from.0 s g.0 x.place x.message)) (run_rises s x.place g.1 r.0.0 x.run))
    (groups_rise s r.0 gs to r.2)

-- Law: in an accepted payload they do.
pub payload_rises : (kind : Payload) (rooms : Counts) (start : ℕ) (s : List ℕ) (c : Contents) (end : ℕ) → payload kind rooms start s ≡ done c end → Rises start c.pairs end
payload_rises k.KvList rooms start s c end e = run_rises s start c.pairs end (kv_run rooms start s c end e).run
payload_rises k.Messages rooms start s c end e =
    let h = messages_run rooms start s c end e in rw h.pairs (groups_rise s (start, 0) h.groups (end, length c.pairs) h.run)
payload_rises k.Actions rooms start s c end e =
    rw (actions_run rooms start s c end e).pairs (omega (arith, (payload_start k.Actions rooms start s c end e).0, payload_all k.Actions rooms start s c end e))

-- ---- by index

-- where the keys start
abbrev pub key_starts : List Pair → List ℕ
key_starts ps = map (λ p. p.start) ps

rises_above : (at : ℕ) (ps : List Pair) (end i : ℕ) → Rises at ps end → i < length ps → at < get_or (key_starts ps) i 0
rises_above at [] end i r h = absurd (omega arith)
rises_above at (p ∷ ps) end zero r h = r.0
rises_above at (p ∷ ps) end (suc i) r h = omega (arith, r.0, rises_above p.start ps end i r.1 (omega arith))

-- Law: of two keys the later one starts behind the other.
pub rises_by : (at : ℕ) (ps : List Pair) (end i j : ℕ) → Rises at ps end → i < j → j < length ps → get_or (key_starts ps) i 0 < get_or (key_starts ps) j 0
rises_by at [] end i j r l h = absurd (omega arith)
rises_by at (p ∷ ps) end i zero r l h = absurd (omega arith)
rises_by at (p ∷ ps) end zero (suc j) r l h = rises_above p.start ps end j r.1 (omega arith)
rises_by at (p ∷ ps) end (suc i) (suc j) r l h = rises_by p.start ps end i j r.1 (omega arith) (omega arith)
