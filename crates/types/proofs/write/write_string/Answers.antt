-- `types::write::write_string` meets its contract: there is no room, or `put_string` writes all.
use mathlib.Core.Path.{sym, ◌∙◌}
use Prim.Native.Nat.{◌≤◌}
use lib.ListN.{length}
use borrow.Author.Tests.{not-true, not-false, leb-true, leb-false}
use Rattle.answer.proofs.Output.{writes_none, writes_all}
use Rattle.types.specs.Form.{string_bytes}
use Rattle.types.proofs.write.write_string.Goals as goal
use Rattle.types.proofs.write.write_string.Goals.{Else-not-string_fits}

pub returns-then-not-string_fits : goal.returns-then-not-string_fits
returns-then-not-string_fits c = let a = c.args in
    writes_none (string_bytes a.text.now) a.out.now c.at.ensures (leb-false _ _ (sym c.string_fits.ensures ∙ not-true c.string_fits.result c.if-not-string_fits.true-raw))

room : (e : Else-not-string_fits) → let a = e.args in length (string_bytes a.text.now) ≤ length a.out.now
room e = leb-true _ _ (sym e.string_fits.ensures ∙ not-false e.string_fits.result e.if-not-string_fits.false-raw)

pub put_string-requires : goal.put_string-requires
put_string-requires c = room ((goal.at.put_string-requires c).Else-not-string_fits)

pub returns : goal.returns
returns c = let a = c.args in
    let p = c.put_string.ensures in
    writes_all (string_bytes a.text.now) a.out.now _ _ (room ((goal.at.returns c).Else-not-string_fits)) p.counts p.holds
