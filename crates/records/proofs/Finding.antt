-- Laws about finding the payload of a frame: that of an accepted frame is where its head ends, and a frame that is not accepted fills nothing.
use mathlib.Core.Path.{◌≡◌, refl, sym, ap, ◌∙◌}
use mathlib.Core.List.{List}
use Prim.Native.Nat.{ℕ, ◌≤◌}
use lib.ListN.{length, take}
use Rattle.std.specs.Prelude.{Err}
use Rattle.answer.specs.Answer.{done, refused}
use Rattle.answer.proofs.Cases.{not_both}
use Rattle.frame.specs.declared.Head.{Head}
use Rattle.frame.specs.declared.Pair.{Pair}
use Rattle.frame.specs.declared.Side.TheVariants as side
use Rattle.frame.specs.declared.Stop.{Stop}
use Rattle.frame.specs.declared.Stop.TheVariants as stop
use Rattle.frame.specs.Promise.{stop_said}
use Rattle.frame.specs.Read.{Reading, wait, answered, sender}
use Rattle.frame.proofs.Answers.{wait_answered, answered_same}
use Rattle.payload.specs.declared.Counts.{Counts}
use Rattle.payload.specs.declared.Payload.{Payload}
use Rattle.payload.specs.Payload.{Contents, payload}
use Rattle.payload.specs.Promise.{counts_of}
use Rattle.payload.specs.Inner.{Accepted}
use Rattle.parser.specs.Frame.{payload_of, frame_read}
use Rattle.parser.specs.Promise.{frame_tells, contents_read}
use Rattle.parser.proofs.Unique.{frame_done}
use Rattle.parser.proofs.Entries.{said_done}
use Rattle.parser.proofs.Frames.{Cut, frame_cut, haproxy_type}
use Rattle.walker.specs.declared.Place.{Place}
use Rattle.walker.specs.Walk.{kv_of}
use Rattle.walker.proofs.Walking.{kv_start}
use Rattle.records.specs.Promise.{rooms_for, FillsRecords, ReadFrameRecords}

module _ (s : List ℕ) (limit : ℕ) (table : List ℕ) (old : List Pair) where
  abbrev said : Reading (Head × Contents)
  said = frame_read side.HAProxy limit (rooms_for table old) s

  -- ---- a frame that is not accepted

  pub finds_nothing : (e : Stop) → stop_said e ≡ frame_tells said → ReadFrameRecords s limit (Err e) table table old old
  finds_nothing e is = record { says = is; fills = nothing said e is }
    where
      nothing : (x : Reading (Head × Contents)) (e : Stop) → stop_said e ≡ frame_tells x → FillsRecords (contents_read x) table table old old
      nothing (wait n) e is = record { messages = refl; pairs = refl }
      nothing (answered (refused number place)) e is = record { messages = refl; pairs = refl }
      nothing (answered (done y used)) (stop.Wait n) is = wait_answered is
      nothing (answered (done y used)) (stop.Refused q) is = not_both refl (sym (answered_same is))

  -- ---- one that is

  module _ (h : Head) (n : Counts) (used : ℕ) (e : answered (done (h, n) used) ≡ frame_tells said) where
    read : (c : Contents) × (said ≡ answered (done (h, c) used)) × (counts_of c ≡ n)
    read = said_done said h n used e

    whole : Cut side.HAProxy limit (rooms_for table old) s h read.0 used
    whole = frame_cut side.HAProxy limit (rooms_for table old) s h read.0 used read.1

    pub used_within : used ≤ length s
    used_within = whole.there

    -- its payload, which is accepted, and what fills the tables with it
    pub record Finds (kind : Payload) (start : ℕ) : Type 0 where
      pub accepted : Accepted kind (rooms_for table old) start (take used s)
      pub fills : (new : List ℕ) (ps : List Pair) → FillsRecords (payload kind (rooms_for table old) start (take used s)) table new old ps
          → ReadFrameRecords s limit (frame_done h n used) table new old ps

    pub finds_payload : (kind : Payload) → (h.frame_type ≤ 3 → kind ≡ payload_of h.frame_type) → (place : Place) → place ≡ kv_of (take used s) → Finds kind place.at
    finds_payload kind is place at =
        record {
          accepted = record { contents = read.0; end = used; is = there };
          fills = λ new ps f. record { says = e; fills = rw (ap contents_read read.1) (rw there at f) };
        }
      where
        there : payload kind (rooms_for table old) place.at (take used s) ≡ done read.0 used
        there =
            let c = whole.held in
            let start : place.at ≡ c.start = ap (λ (x : Place). x.at) (at ∙ kv_start (sender side.HAProxy) (take used s) h c.start c.reads) in
            let sort : kind ≡ payload_of h.frame_type = is (haproxy_type (take used s) h c.start c.reads) in
            rw (start, sort) c.holds
