-- `frame::write::put_start` meets its contract: nine stores, one after the other, of the bytes that it is to write.
use mathlib.Core.List.{◌∷◌, ◌++◌}
use borrow.Author.Rules.{rules}
use native.Mathlib.Omega.{arith}
use lib.ListN.{length-set}
use lib.Seq.{sets-eq}
use Rattle.frame.specs.Head.{four_bytes}
use Rattle.frame.proofs.write.put_start.Goals as goal

pub overflow_cast-out : goal.overflow_cast-out
overflow_cast-out c = search rules

pub bounds-out-0 : goal.bounds-out-0
bounds-out-0 c = search rules

pub overflow_cast-out-2 : goal.overflow_cast-out-2
overflow_cast-out-2 c = search rules

pub bounds-out-1 : goal.bounds-out-1
bounds-out-1 c = simp length-set (omega arith)

pub overflow_cast-out-3 : goal.overflow_cast-out-3
overflow_cast-out-3 c = search rules

pub bounds-out-2 : goal.bounds-out-2
bounds-out-2 c = simp length-set (omega arith)

pub overflow_cast-out-4 : goal.overflow_cast-out-4
overflow_cast-out-4 c = search rules

pub bounds-out-3 : goal.bounds-out-3
bounds-out-3 c = simp length-set (omega arith)

pub bounds-out-4 : goal.bounds-out-4
bounds-out-4 c = simp length-set (omega arith)

pub overflow_cast-out-5 : goal.overflow_cast-out-5
overflow_cast-out-5 c = search rules

pub bounds-out-5 : goal.bounds-out-5
bounds-out-5 c = simp length-set (omega arith)

pub overflow_cast-out-6 : goal.overflow_cast-out-6
overflow_cast-out-6 c = search rules

pub bounds-out-6 : goal.bounds-out-6
bounds-out-6 c = simp length-set (omega arith)

pub overflow_cast-out-7 : goal.overflow_cast-out-7
overflow_cast-out-7 c = search rules

pub bounds-out-7 : goal.bounds-out-7
bounds-out-7 c = simp length-set (omega arith)

pub overflow_cast-out-8 : goal.overflow_cast-out-8
overflow_cast-out-8 c = search rules

pub bounds-out-8 : goal.bounds-out-8
bounds-out-8 c = simp length-set (omega arith)

pub shape_of-out : goal.shape_of-out
shape_of-out c = search rules depth 12

pub returns : goal.returns
unfolding four_bytes
returns c =
    let a = c.args in sets-eq (four_bytes a.behind ++ (a.frame_type ∷ four_bytes a.flags)) a.out.now 0 c.requires
