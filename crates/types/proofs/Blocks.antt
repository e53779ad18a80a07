-- Laws about a copy in blocks: what one block leaves, and that blocks one behind the other, which may overlap, are the copy.
use mathlib.Core.Path.{◌≡◌, refl, sym, ap, ap₂, ◌∙◌}
use mathlib.Core.List.{List, ◌++◌, append_assoc}
use Prim.Native.Nat.{ℕ, ◌+◌, ◌-◌, ◌≤◌}
use native.Mathlib.Omega.{arith}
use lib.ListN.{length, take, drop}
use lib.Seq.{length-take-le, take-add, take-take, take-append-le, drop-append-add, drop-drop}
use Rattle.answer.specs.Answer.{written, leaves}
use Rattle.answer.proofs.Output.{Partly, partly_all}
use Rattle.answer.proofs.Parts.{copy_all}
use Rattle.types.specs.Inner.{block}

module _ (bytes : List ℕ) (at n : ℕ) (fits : at + n ≤ length bytes) where
  -- A copy that has come to k goes on to the end of a block that starts no further.
  pub block_next : (old out : List ℕ) (k : ℕ) → Partly bytes old k (drop k bytes) out → at ≤ k → k ≤ at + n
      → Partly bytes old (at + n) (drop (at + n) bytes) (block bytes at n out)
  block_next old out k p from to = record { room = p.room; so_far = made; to_do = refl; at_most = fits }
    where
      k_long : length (take k bytes) ≡ k
      k_long = length-take-le k bytes p.at_most

      front : take at out ≡ take at bytes
      front =
          ap (take at) p.so_far
          ∙ take-append-le at (take k bytes) (drop k old) (omega (arith, k_long))
          ∙ take-take at k bytes from

      behind : drop (at + n) out ≡ drop (at + n) old
      behind = later (at + n - k) (omega arith)
        where
          later : (m : ℕ) → at + n ≡ k + m → drop (at + n) out ≡ drop (at + n) old
          later m e =
              ap₂ drop (e ∙ ap (λ (x : ℕ). x + m) (sym k_long)) p.so_far
              ∙ drop-append-add (take k bytes) (drop k old) m
              ∙ drop-drop m k old
              ∙ ap (λ (x : ℕ). drop x old) (sym e)

      made : block bytes at n out ≡ take (at + n) bytes ++ drop (at + n) old
      made =
          ap₂ (λ (l r : List ℕ). l ++ (take n (drop at bytes) ++ r)) front behind
          ∙ sym (append_assoc (take at bytes) (take n (drop at bytes)) (drop (at + n) old))
          ∙ ap (λ (l : List ℕ). l ++ drop (at + n) old) (sym (take-add at n bytes))

  -- A block that ends with the bytes ends the copy.
  pub block_last : (old out : List ℕ) (k : ℕ) → Partly bytes old k (drop k bytes) out → at ≤ k → at + n ≡ length bytes
      → block bytes at n out ≡ leaves (written bytes) old
  block_last old out k p from end = partly_all (copy_all (block_next old out k p from (omega (arith, p.at_most))) (omega arith))
