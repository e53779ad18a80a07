use mathlib.Core.Path.{◌≡◌, refl, sym, ap, ◌∙◌}
use mathlib.Core.List.{[], ◌∷◌}
use Prim.Native.Nat.{◌+◌, ◌/◌, ◌%◌}
use native.Mathlib.Omega.{arith}
use lib.ListN.{length, drop, set, get_or}
use borrow.Author.Tests.{eqb-true, eqb-false}
use Rattle.answer.specs.Table.{joined}
use Rattle.answer.proofs.Output.{Partly, leaves_byte, partly_none, partly_next, partly_place, partly_length}
use Rattle.listing.specs.Digits.{dash, glyph, hex_pair, shown}
use Rattle.listing.proofs.Text.{hex_on, hex_end, shown_none, shown_some, all_put}
use Rattle.listing.proofs.digits.put_shown.Goals as goal
use Rattle.listing.proofs.digits.put_shown.Goals.{Then-is_empty, In-loop-byte}

none : (c : Then-is_empty) → shown c.args.bytes.now ≡ dash ∷ []
none c = shown_none c.args.bytes.now (eqb-true _ 0 (sym c.is_empty.ensures ∙ c.if-is_empty.true))

-- what is left to write starts with the two digits of the next byte, and after the first with the second
two : (c : In-loop-byte)
    → let a = c.args in
    let l = c.loop-byte in
    Partly (shown a.bytes.now) a.out.now l.at
    (glyph (get_or a.bytes.now l.byte-index 0 / 16) ∷ glyph (get_or a.bytes.now l.byte-index 0 % 16) ∷ joined hex_pair (drop (l.byte-index + 1) a.bytes.now)) l.out
two c = rw (hex_on _ _ c.loop-byte-test.true) at c.loop-byte.invariant

one : (c : In-loop-byte)
    → let a = c.args in
    let l = c.loop-byte in
    Partly (shown a.bytes.now) a.out.now (l.at + 1)
    (glyph (get_or a.bytes.now l.byte-index 0 % 16) ∷ joined hex_pair (drop (l.byte-index + 1) a.bytes.now)) (set l.out l.at (glyph (get_or a.bytes.now l.byte-index 0 / 16)))
one c = partly_next (two c)

pub bounds-out-0 : goal.bounds-out-0
bounds-out-0 c = omega (arith, c.requires, ap length (none ((goal.at.bounds-out-0 c).Then-is_empty)))

pub returns-then-is_empty : goal.returns-then-is_empty
returns-then-is_empty c =
    let e = none ((goal.at.returns-then-is_empty c).Then-is_empty) in
    rw e (record { counts = refl; holds = leaves_byte dash c.args.out.now (omega (arith, c.requires, ap length e)) })

pub loop-byte-init : goal.loop-byte-init
loop-byte-init c =
    let e = shown_some c.args.bytes.now (eqb-false _ 0 (sym c.is_empty.ensures ∙ c.if-is_empty.false)) in
    rw e (partly_none _ _ (rw e at c.requires))

pub bounds-out-at : goal.bounds-out-at
bounds-out-at c = partly_place (two ((goal.at.bounds-out-at c).In-loop-byte))

pub overflow_add-out : goal.overflow_add-out
overflow_add-out c = omega (arith, partly_place (one ((goal.at.overflow_add-out c).In-loop-byte)), partly_length (two ((goal.at.overflow_add-out c).In-loop-byte)))

pub bounds-out-at-in-loop-byte : goal.bounds-out-at-in-loop-byte
bounds-out-at-in-loop-byte c = rw c.glyph.ensures (partly_place (one ((goal.at.bounds-out-at-in-loop-byte c).In-loop-byte)))

pub overflow_add-at : goal.overflow_add-at
overflow_add-at c = omega (arith, partly_place (one ((goal.at.overflow_add-at c).In-loop-byte)))

pub loop-byte-preserved : goal.loop-byte-preserved
loop-byte-preserved c =
    let e : c.loop-byte.at + 2 ≡ c.loop-byte.at + 1 + 1 = omega arith in
    rw (e, c.glyph.ensures, c.glyph-in-loop-byte.ensures) (partly_next (one ((goal.at.loop-byte-preserved c).In-loop-byte)))

pub returns : goal.returns
returns c = all_put (rw (hex_end _ _ c.loop-byte-test.false) at c.loop-byte.invariant)
