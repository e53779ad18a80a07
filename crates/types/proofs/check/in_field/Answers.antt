-- `types::check::in_field` meets its contract: each kind's line of the table has its own test.
use Prim.Native.Nat.{ℕ, ◌≤◌}
use mathlib.Core.Path.{◌≡◌, refl, sym, ap, ◌∙◌}
use mathlib.Core.Bool.{Bool, true, ◌&&◌, and-true}
use native.Mathlib.Omega.{arith}
use lib.Dec.{eqb}
use borrow.Author.Tests.{ne_eqb}
use Rattle.types.specs.Value.{Shape, nothing, flag, integer, signed32, unsigned32, shape, in_fields, in_flags}
use Rattle.types.proofs.Shapes.{shape_is, row, field_at, whole_field, Flags, in_flags_lem, flags_at, flags_bool, fields_alone}
use Rattle.types.proofs.check.in_field.Goals as goal

-- the line that a test of the kind picks: beside the flags and the unused number, which is 0, it has the test of the first
line : (k kind a flags : ℕ) (sh : Shape) (test : Bool) → kind ≡ k → shape k ≡ sh → Flags sh flags → in_fields sh a 0 ≡ test && true
    → test ≡ in_flags (shape kind) flags && in_fields (shape kind) a 0
line k kind a flags sh test e is g both =
    sym
    (ap (λ (x : Bool). x && in_fields (shape kind) a 0) (flags_at kind flags sh (row k e is) ∙ in_flags_lem sh flags g)
    ∙ field_at kind a 0 sh (row k e is)
    ∙ both
    ∙ and-true test)

pub returns-in-0 : goal.returns-in-0
returns-in-0 c = let a = c.args in line 0 a.kind a.a a.flags nothing _ c.in-0.is shape_is.0 c.requires.1 refl

pub returns-else-flags-eq0 : goal.returns-else-flags-eq0
returns-else-flags-eq0 c = let a = c.args in
    ne_eqb a.flags 0 c.if-flags-eq0.false ∙ sym (ap (λ (x : Bool). x && in_fields (shape a.kind) a.a 0) (flags_bool a.kind a.flags c.in-1.is ∙ ne_eqb a.flags 0 c.if-flags-eq0.false))

pub returns-then-flags-eq0 : goal.returns-then-flags-eq0
returns-then-flags-eq0 c = let a = c.args in line 1 a.kind a.a a.flags flag _ c.in-1.is shape_is.1 c.if-flags-eq0.true refl

pub returns-in-2 : goal.returns-in-2
returns-in-2 c = let a = c.args in
    ap (eqb a.a) c.sign_extend.ensures ∙ line 2 a.kind a.a a.flags (integer signed32) _ c.in-2.is shape_is.2 c.requires.1 refl

pub returns-in-3 : goal.returns-in-3
returns-in-3 c = let a = c.args in
    line 3 a.kind a.a a.flags (integer unsigned32) _ c.in-3.is shape_is.3 c.requires.1 refl

pub returns-in_default : goal.returns-in_default
returns-in_default c = let a = c.args in
    let k : 4 ≤ a.kind = omega arith in
    sym
    (fields_alone a.kind a.a 0 a.flags (λ e. omega arith) c.requires.1
    ∙ whole_field a.kind a.a 0 k c.requires.0 refl c.ranges.a.fits)
