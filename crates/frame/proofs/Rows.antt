-- Laws about pairs and actions of a table that starts with those of another: they are the other's, and behind them are those of the rest. And about a
-- table that starts with the numbers of some records: it holds these.
use mathlib.Core.Path.{◌≡◌, refl}
use mathlib.Core.List.{List, ◌++◌}
use Prim.Native.Nat.{ℕ, suc, ◌+◌, ◌*◌, ◌≤◌, ◌<◌}
use native.Mathlib.Omega.{arith}
use lib.ListN.{length, take}
use borrow.Author.Tests.{le-leb}
use Rattle.answer.specs.Table.{records, joined}
use Rattle.answer.proofs.Rows.{number_front, number_behind, number_next, table_holds}
use Rattle.frame.specs.declared.Message.{Message}
use Rattle.frame.specs.declared.Pair.{Pair}
use Rattle.frame.specs.declared.Action.{Action}
use Rattle.frame.specs.Records.{message_width, pair_width, action_width, message_at, pair_in, pair_at, action_at, message_numbers, pair_numbers, action_numbers}

module _ (n : ℕ) (s t : List ℕ) (i : ℕ) where
  pub pair_front_lem : n * pair_width ≤ length s → i < n → pair_at (take (n * pair_width) s ++ t) i ≡ pair_at s i
  unfolding pair_at
  pair_front_lem held h =
      let on = number_front pair_width n s t held i in
      λ j. record {
        start = on 0 h (omega arith) j;
        len = on 1 h (omega arith) j;
        value = record { kind = on 2 h (omega arith) j; a = on 3 h (omega arith) j; b = on 4 h (omega arith) j; flags = on 5 h (omega arith) j };
      }

  pub pair_behind : n * pair_width ≤ length s → pair_at (take (n * pair_width) s ++ t) (n + i) ≡ pair_at t i
  unfolding pair_at
  pair_behind held = let on = number_behind pair_width n s t held i in λ j. pair_in (λ (k : ℕ). on k j) 0

  pub action_front : n * action_width ≤ length s → i < n → action_at (take (n * action_width) s ++ t) i ≡ action_at s i
  unfolding action_at
  action_front held h =
      let on = number_front action_width n s t held i in
      λ j. record {
        verb = on 0 h (omega arith) j;
        scope = on 1 h (omega arith) j;
        pair = record {
          start = on 2 h (omega arith) j;
          len = on 3 h (omega arith) j;
          value = record { kind = on 4 h (omega arith) j; a = on 5 h (omega arith) j; b = on 6 h (omega arith) j; flags = on 7 h (omega arith) j };
        };
      }

  pub action_behind_lem : n * action_width ≤ length s → action_at (take (n * action_width) s ++ t) (n + i) ≡ action_at t i
  unfolding action_at
  action_behind_lem held =
      let on = number_behind action_width n s t held i in
      λ j. record { verb = on 0 j; scope = on 1 j; pair = pair_in (λ (k : ℕ). on k j) 2 }

-- Law: a table with the numbers of some records at its front holds them.
pub table_messages : (ms : List Message) (t : List ℕ) → records (message_at (joined message_numbers ms ++ t)) 0 (length ms) ≡ ms
unfolding message_at
table_messages = table_holds message_numbers message_at here later
  where
    here : (m : Message) (t : List ℕ) → message_at (message_numbers m ++ t) 0 ≡ m
    here m t = simp (le-leb ((0 + 1) * message_width) (length (message_numbers m ++ t)) (omega arith))

    later : (m : Message) (t : List ℕ) (i : ℕ) → message_at (message_numbers m ++ t) (suc i) ≡ message_at t i
    later m t i =
        let on = number_next message_width (message_numbers m) t refl i in
        λ j. record { start = on 0 j; len = on 1 j; first = on 2 j; count = on 3 j }

pub table_pairs : (ps : List Pair) (t : List ℕ) → records (pair_at (joined pair_numbers ps ++ t)) 0 (length ps) ≡ ps
unfolding pair_at
table_pairs = table_holds pair_numbers pair_at here later
  where
    here : (p : Pair) (t : List ℕ) → pair_at (pair_numbers p ++ t) 0 ≡ p
    here p t = simp (le-leb ((0 + 1) * pair_width) (length (pair_numbers p ++ t)) (omega arith))

    later : (p : Pair) (t : List ℕ) (i : ℕ) → pair_at (pair_numbers p ++ t) (suc i) ≡ pair_at t i
    later p t i = λ j. pair_in (λ k. number_next pair_width (pair_numbers p) t refl i k j) 0

pub table_actions : (xs : List Action) (t : List ℕ) → records (action_at (joined action_numbers xs ++ t)) 0 (length xs) ≡ xs
unfolding action_at
table_actions = table_holds action_numbers action_at here later
  where
    here : (x : Action) (t : List ℕ) → action_at (action_numbers x ++ t) 0 ≡ x
    here x t = simp (le-leb ((0 + 1) * action_width) (length (action_numbers x ++ t)) (omega arith))

    later : (x : Action) (t : List ℕ) (i : ℕ) → action_at (action_numbers x ++ t) (suc i) ≡ action_at t i
    later x t i =
        let on = number_next action_width (action_numbers x) t refl i in
        λ j. record { verb = on 0 j; scope = on 1 j; pair = pair_in (λ k. on k j) 2 }
