-- Variable-length numbers: SPOE.txt, section 3.1, the table under "Variable-length integer (varint)":
--
--          0 <= X < 240     1 byte   [ XXXX XXXX ]
--        240 <= X < 2288    2 bytes  [ 1111 XXXX ] [ 0XXX XXXX ]
--       2288 <= X < 264432  3 bytes  [ 1111 XXXX ] [ 1XXX XXXX ] [ 0XXX XXXX ]
--       and so on, one more [ 1XXX XXXX ] in each row.
--
-- The X of the first byte are the lowest bits. Each row starts where the one before ends, so what a byte's fixed ones are
-- worth is part of the number: reading adds whole bytes, and writing takes 240, and then 128 for each byte, off again.
use Rattle.std.specs.Prelude.{Bool, cond, ◌&&◌, List, [], ◌∷◌, ℕ, zero, suc, ◌+◌, ◌-◌, ◌*◌, ◌/◌, ◌%◌, ◌^◌, ltb, leb, eqb}
use Rattle.answer.specs.Answer.{Answer, done, refused}

-- What byte b is worth after k others: b times 2^4, 2^11, 2^18, up to 2^60.
abbrev pub worth : ℕ → ℕ → ℕ
worth k b = b * 2 ^ (7 * k - 3)

-- A tenth byte has four bits of the 64.
abbrev pub tenth_too_high : ℕ → ℕ → Bool
tenth_too_high k b = eqb k 9 && ltb 15 b

-- The number that goes on with these bytes, after k bytes that add up to sum. Of each byte, in the order of docs/RULES.md: it is
-- missing (3), it is a tenth that is too high (19), the sum passes 2^64-1 (7); a byte below 128 is the last. So there is no eleventh.
unfoldable pub more : ℕ → ℕ → List ℕ → Answer ℕ
more sum k [] = refused 3 k
more sum k (b ∷ s) =
    cond (tenth_too_high k b) (refused 19 (suc k))
    (cond (leb (2 ^ 64) (sum + worth k b)) (refused 7 (suc k))
    (cond (ltb b 128) (done (sum + worth k b) (suc k)) (more (sum + worth k b) (suc k) s)))

-- The number at the front of some bytes: a first byte below 240 is the number.
unfoldable pub number : List ℕ → Answer ℕ
number [] = refused 3 0
number (b ∷ s) = cond (ltb b 240) (done b 1) (more b 1 s)

-- What follows the first byte, for v counted in steps of 16 from 240 on: seven bits to a byte, the lowest first, 128 added
-- to each but the last. Below 2^60 these are at most nine bytes, so nine is where the count down starts.
unfoldable pub groups : ℕ → ℕ → List ℕ
groups zero v = []
groups (suc left) v = cond (ltb v 128) (v ∷ []) ((128 + v % 128) ∷ groups left ((v - 128) / 128))

-- The bytes that a number below 2^64 is written as.
unfoldable pub number_bytes : ℕ → List ℕ
number_bytes n = cond (ltb n 240) (n ∷ []) ((240 + n % 16) ∷ groups 9 ((n - 240) / 16))
