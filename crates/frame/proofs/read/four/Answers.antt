-- `frame::read::four` meets its contract: no byte passes 255.
use borrow.Author.Rules.{rules}
use mathlib.Core.Path.{refl}
use native.Mathlib.Omega.{arith}
use Rattle.frame.specs.Head.{four_number}
use Rattle.frame.proofs.read.four.Goals as goal

pub bounds-bytes-0 : goal.bounds-bytes-0
bounds-bytes-0 c = search rules

pub overflow_cast-result : goal.overflow_cast-result
overflow_cast-result c = omega (arith, c.type_inv.bytes 0)

pub overflow_mul-result : goal.overflow_mul-result
overflow_mul-result c = omega (arith, c.type_inv.bytes 0)

pub bounds-bytes-1 : goal.bounds-bytes-1
bounds-bytes-1 c = search rules

pub overflow_cast-result-2 : goal.overflow_cast-result-2
overflow_cast-result-2 c = omega (arith, c.type_inv.bytes 0, c.type_inv.bytes 1)

pub overflow_mul-result-2 : goal.overflow_mul-result-2
overflow_mul-result-2 c = omega (arith, c.type_inv.bytes 0, c.type_inv.bytes 1)

pub overflow_add-result : goal.overflow_add-result
overflow_add-result c = omega (arith, c.type_inv.bytes 0, c.type_inv.bytes 1)

pub bounds-bytes-2 : goal.bounds-bytes-2
bounds-bytes-2 c = search rules

pub overflow_cast-result-3 : goal.overflow_cast-result-3
overflow_cast-result-3 c = omega (arith, c.type_inv.bytes 0, c.type_inv.bytes 1, c.type_inv.bytes 2)

pub overflow_mul-result-3 : goal.overflow_mul-result-3
overflow_mul-result-3 c = omega (arith, c.type_inv.bytes 0, c.type_inv.bytes 1, c.type_inv.bytes 2)

pub overflow_add-result-2 : goal.overflow_add-result-2
overflow_add-result-2 c = omega (arith, c.type_inv.bytes 0, c.type_inv.bytes 1, c.type_inv.bytes 2)

pub bounds-bytes-3 : goal.bounds-bytes-3
bounds-bytes-3 c = search rules

pub overflow_cast-result-4 : goal.overflow_cast-result-4
overflow_cast-result-4 c = omega (arith, c.type_inv.bytes 0, c.type_inv.bytes 1, c.type_inv.bytes 2, c.type_inv.bytes 3)

pub overflow_add-result-3 : goal.overflow_add-result-3
overflow_add-result-3 c = omega (arith, c.type_inv.bytes 0, c.type_inv.bytes 1, c.type_inv.bytes 2, c.type_inv.bytes 3)

pub returns : goal.returns
unfolding four_number
returns c = refl
