-- Frames: SPOE.txt, section 3.2.
--
--     <FRAME-LENGTH:4 bytes> <FRAME>
--     FRAME       : <FRAME-TYPE:1 byte> <METADATA> <FRAME-PAYLOAD>
--     METADATA    : <FLAGS:4 bytes> <STREAM-ID:varint> <FRAME-ID:varint>
use Rattle.std.specs.Prelude.{List, [], ◌∷◌, ◌++◌, ℕ, ◌+◌, ◌*◌, ◌/◌, ◌%◌, ◌^◌, length, get_or}
use Rattle.varint.specs.Number.{number_bytes}
use Rattle.frame.specs.declared.Head.{Head}

-- "4 bytes in network byte order": the highest first
unfoldable pub four_bytes : ℕ → List ℕ
four_bytes n = n / 2 ^ 24 % 256 ∷ n / 2 ^ 16 % 256 ∷ n / 2 ^ 8 % 256 ∷ n % 256 ∷ []

-- the number that four bytes at the front are so
unfoldable pub four_number : List ℕ → ℕ
four_number s = get_or s 0 0 * 2 ^ 24 + get_or s 1 0 * 2 ^ 16 + get_or s 2 0 * 2 ^ 8 + get_or s 3 0

-- from the type to the second number
unfoldable pub head_bytes : Head → List ℕ
head_bytes h = (h.frame_type ∷ four_bytes h.flags) ++ (number_bytes h.stream ++ number_bytes h.frame)

-- a whole frame: the length of what follows, the head, the payload
unfoldable pub frame_bytes : Head → List ℕ → List ℕ
frame_bytes h payload = four_bytes (length (head_bytes h ++ payload)) ++ (head_bytes h ++ payload)
