-- `spoplist::list_one` meets its contract: what it answers is what the frame was read as, and the frame's records stand in the
-- tables, so none of their lines is refused.
use mathlib.Core.Path.{◌≡◌, sym, ap, ◌∙◌}
use mathlib.Core.List.{List}
use Prim.Native.Nat.{ℕ}
use native.Mathlib.Omega.{arith}
use lib.ListN.{take, length-take}
use Rattle.frame.specs.declared.Side.{Side}
use Rattle.std.specs.Prelude.{Result, Ok}
use Rattle.answer.specs.declared.Read.{Read}
use Rattle.frame.specs.declared.Stop.{Stop}
use Rattle.parser.specs.declared.Frame.{Frame}
use Rattle.parser.specs.Promise.{frame_said}
use Rattle.listing.proofs.Fitting.{frame_fits}
use Rattle.spoplist.specs.declared.Tables.{Tables}
use Rattle.spoplist.specs.Inner.{ReadsIn, side_in, Accepts}
use Rattle.spoplist.proofs.Standing.{fits_lies, Stood, read_stood}
use Rattle.spoplist.proofs.Stopping.{said_taken}
use Rattle.spoplist.proofs.list_one.Goals as goal

module _ (x : Side) (s : List ℕ) (old new : Tables) {r : Result (Read Frame) Stop} {read : Read Frame} (is : r ≡ Ok read) (reads : ReadsIn x s r old new) where
  taken : Accepts s (side_in x s) read.used
  taken = said_taken x s read.value.head read.value.counts read.used (sym (ap frame_said is) ∙ reads.says)

  -- the records stand in the tables
  stood : Stood (take read.used s) new.messages new.pairs new.actions read.value.counts
  stood = read_stood x s old new read is reads

pub print-requires : goal.print-requires
print-requires g c =
    fits_lies
    (frame_fits _ _ _ _ c.ranges.index.fits (omega (arith, c.in-Ok)) (omega (arith, c.in-Ok)) (omega (arith, c.in-Ok)) (omega (arith, c.in-Ok)) (omega arith))
    c.write_frame_line.ensures c.write_frame_line.auto.out

pub slice_bounds-frame-end : goal.slice_bounds-frame-end
slice_bounds-frame-end g c =
    omega (arith, (taken c.args.side c.args.rest.now c.args.tables.now _ c.in-Ok.is c.read.ensures).most, length-take c.in-Ok.read.used c.args.rest.now)

pub list_records-requires : goal.list_records-requires
list_records-requires g c =
    let s = stood c.args.side c.args.rest.now c.args.tables.now _ c.in-Ok.is c.read.ensures in
    record { stand_messages = s.in_messages; stand_pairs = s.in_pairs_lem; frame_in_bounds = s.short }

pub list_actions-requires : goal.list_actions-requires
list_actions-requires g c =
    let s = stood c.args.side c.args.rest.now c.args.tables.now _ c.in-Ok.is c.read.ensures in record { stand_actions = s.in_actions; frame_in_bounds = s.short }

pub returns-in_ok-list_actions-in-Ok : goal.returns-in_ok-list_actions-in-Ok
returns-in_ok-list_actions-in-Ok g c = taken c.args.side c.args.rest.now c.args.tables.now _ c.in-Ok.is c.read.ensures
