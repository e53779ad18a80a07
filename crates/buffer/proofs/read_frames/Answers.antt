use mathlib.Core.Path.{◌≡◌, sym, ap, subst}
use Prim.Native.Nat.{◌+◌}
use native.Mathlib.Omega.{arith}
use Rattle.buffer.specs.declared.Totals.{Totals}
use Rattle.buffer.specs.Buffer.{none_read}
use Rattle.buffer.proofs.Going.{Going, going_none, going_full, going_stops, with_within, going_on}
use Rattle.buffer.proofs.read_frames.Goals as goal

-- the default is that nothing was read
none : (x : Totals) → (x.frames ≡ 0) × ((x.messages ≡ 0) × ((x.pairs ≡ 0) × (x.bytes ≡ 0))) → none_read ≡ x
none x z = λ i. record { frames = sym z.0 i; messages = sym z.1.0 i; pairs = sym z.1.1.0 i; bytes = sym z.1.1.1 i }

pub loop-row-init : goal.loop-row-init
loop-row-init c =
    let a = c.args in
    let e = none c.default-totals.result c.default-totals.ensures in
    record {
      counted = ap (λ x. x.frames) (sym e);
      going =
          subst (λ (x : Totals). Going a.input.now a.limit a.rows.now a.messages.now a.pairs.now x a.rows.now a.messages.now a.pairs.now) e
          (going_none a.input.now a.limit a.rows.now a.messages.now a.pairs.now);
    }

pub returns-in-Err : goal.returns-in-Err
returns-in-Err c = going_stops _ _ _ _ _ c.loop-row.invariant.going _ _ _ c.read_frame.ensures _ c.in-Err.is

-- it is accepted
pub with_read-totals-requires-clause-messages_bound : goal.with_read-totals-requires-clause-messages_bound
with_read-totals-requires-clause-messages_bound c =
    omega (arith, (with_within _ _ _ _ _ c.loop-row.invariant.going _ _ _ c.read_frame.ensures _ c.in-Ok.is).0)

pub with_read-totals-requires-clause-pairs_bound : goal.with_read-totals-requires-clause-pairs_bound
with_read-totals-requires-clause-pairs_bound c =
    omega (arith, (with_within _ _ _ _ _ c.loop-row.invariant.going _ _ _ c.read_frame.ensures _ c.in-Ok.is).1)

pub with_read-totals-requires-clause-used_bound : goal.with_read-totals-requires-clause-used_bound
with_read-totals-requires-clause-used_bound c =
    omega (arith, (with_within _ _ _ _ _ c.loop-row.invariant.going _ _ _ c.read_frame.ensures _ c.in-Ok.is).2)

pub loop-row-preserved : goal.loop-row-preserved
loop-row-preserved c =
    rw c.with_read-totals.ensures
    (record {
      counted = ap (λ n. n + 1) c.loop-row.invariant.counted;
      going =
          going_on _ _ _ _ _ c.loop-row.invariant.going _ _ _ c.read_frame.ensures _ c.in-Ok.is
          c.loop-row.row c.loop-row.invariant.counted c.loop-row-test.true _ c.put_row.ensures;
    })

-- no row is left
pub returns : goal.returns
returns c =
    rw c.stop_of.ensures
    (going_full _ _ _ _ _ c.loop-row.invariant.going (omega arith) c.look_frame.result c.look_frame.ensures)
