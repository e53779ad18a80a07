-- What the loops over a table's records keep, and how each goes on: of `count` records those before i are done.
use mathlib.Core.Path.{◌≡◌, sym, ap, ◌∙◌}
use mathlib.Core.Bool.{Bool, true, false}
use mathlib.Core.List.{List, [], ◌++◌}
use Prim.Native.Nat.{ℕ, ◌+◌, ◌-◌, ◌≤◌, ◌<◌}
use lib.ListN.{length, take, drop}
use borrow.Rule.Slice.PartMut.{put_mid}
use Rattle.answer.specs.Answer.{written, leaves}
use Rattle.answer.specs.Table.{records, joined, some}
use Rattle.answer.proofs.Output.{Partly, partly_none, partly_length, partly_count, partly_all}
use Rattle.answer.proofs.Parts.{part_start, part_room, part_most, partly_part}
use Rattle.answer.proofs.Records.{records_on, records_end, records_start, joined_none, joined_on, some_none, some_here, some_later}

-- ---- one of them is so

pub record Seeking {A : Type 0} (test : A → Bool) (at : ℕ → A) (count i : ℕ) : Type 0 where
  pub same : some test (records at 0 count) ≡ some test (records at i (count - i))

pub seeking_none : {A : Type 0} (test : A → Bool) (at : ℕ → A) (count : ℕ) → Seeking test at count 0
seeking_none test at count = record { same = ap (some test) (sym (records_start at count)) }

module _ {A : Type 0} {test : A → Bool} {at : ℕ → A} {count i : ℕ} (s : Seeking test at count i) where
  pub seeking_here : i < count → test (at i) ≡ true → some test (records at 0 count) ≡ true
  seeking_here h e = s.same ∙ ap (some test) (records_on at count i h) ∙ some_here test (at i) _ e

  pub seeking_on : i < count → test (at i) ≡ false → Seeking test at count (i + 1)
  seeking_on h e = record { same = s.same ∙ ap (some test) (records_on at count i h) ∙ some_later test (at i) _ e }

  pub seeking_all : count ≤ i → some test (records at 0 count) ≡ false
  seeking_all h = s.same ∙ ap (some test) (records_end at count i h) ∙ some_none test

-- ---- how those from one to another are written: old were the lent bytes, and out is what `place` of the written bytes made of them

pub record Putting {A : Type 0} (bytes : A → List ℕ) (at : ℕ → A) (from to : ℕ) (old : List ℕ) (i place : ℕ) (out : List ℕ) : Type 0 where
  pub partly : Partly (joined bytes (records at from (to - from))) old place (joined bytes (records at i (to - i))) out

pub putting_none : {A : Type 0} (bytes : A → List ℕ) (at : ℕ → A) (from to : ℕ) (old : List ℕ)
    → length (joined bytes (records at from (to - from))) ≤ length old → Putting bytes at from to old from 0 old
putting_none bytes at from to old h = record { partly = partly_none (joined bytes (records at from (to - from))) old h }

module _ {A : Type 0} {bytes : A → List ℕ} {at : ℕ → A} {from to : ℕ} {old : List ℕ} {i place : ℕ} {out : List ℕ}
    (p : Putting bytes at from to old i place out) where
  pub putting_length : length out ≡ length old
  putting_length = partly_length p.partly

  module _ (h : i < to) where
    one_more : joined bytes (records at i (to - i)) ≡ bytes (at i) ++ joined bytes (records at (i + 1) (to - (i + 1)))
    one_more = ap (joined bytes) (records_on at to i h) ∙ joined_on bytes (at i) _

    parts : Partly (joined bytes (records at from (to - from))) old place (bytes (at i) ++ joined bytes (records at (i + 1) (to - (i + 1)))) out
    parts = rw one_more at p.partly

    pub putting_start : place ≤ length out
    putting_start = part_start (bytes (at i)) _ parts

    pub putting_room : length (bytes (at i)) ≤ length (take (length out - place) (drop place out))
    putting_room = part_room (bytes (at i)) _ parts

    pub putting_most : place + length (bytes (at i)) ≤ length old
    putting_most = part_most (bytes (at i)) _ parts

    pub putting_on : (n : ℕ) (tail : List ℕ) → n ≡ length (bytes (at i))
        → tail ≡ leaves (written (bytes (at i))) (take (length out - place) (drop place out))
        → Putting bytes at from to old (i + 1) (place + n) (put_mid place (length out - place) out tail)
    putting_on n tail en et = record { partly = rw en (partly_part (bytes (at i)) _ parts tail et) }

  done_parts : to ≤ i → Partly (joined bytes (records at from (to - from))) old place [] out
  done_parts h = rw (ap (joined bytes) (records_end at to i h) ∙ joined_none bytes) at p.partly

  pub putting_count : to ≤ i → place ≡ length (joined bytes (records at from (to - from)))
  putting_count h = partly_count (done_parts h)

  pub putting_all : to ≤ i → out ≡ leaves (written (joined bytes (records at from (to - from)))) old
  putting_all h = partly_all (done_parts h)
