-- Laws about a frame's head, and about where the parts of a whole frame stand.
use mathlib.Core.Path.{◌≡◌, refl, sym, ap, ◌∙◌}
use mathlib.Core.List.{List, [], ◌∷◌, ◌++◌, append_assoc}
use Prim.Native.Nat.{ℕ, ◌+◌, ◌*◌, ◌/◌, ◌%◌, ◌^◌, ◌≤◌, ◌<◌}
use native.Mathlib.Omega.{arith}
use lib.ListN.{length, take, drop, get_or, length-append, get_or-append}
use lib.Seq.{drop-drop, take_at, drop_at}
use Rattle.varint.specs.Number.{number_bytes}
use Rattle.frame.specs.declared.Head.{Head}
use Rattle.frame.specs.Head.{four_bytes, four_number, head_bytes, frame_bytes}

pub four_long : (n : ℕ) → length (four_bytes n) ≡ 4
unfolding four_bytes
four_long n = refl

-- one byte for the type, four for the flags, and the two numbers
pub head_length : (h : Head) → length (head_bytes h) ≡ 5 + length (number_bytes h.stream) + length (number_bytes h.frame)
unfolding head_bytes four_bytes
head_length h = simp length-append (omega arith)

-- what stands in front of the two numbers has nine bytes
abbrev pub start_bytes : ℕ → Head → List ℕ
start_bytes behind h = four_bytes behind ++ (h.frame_type ∷ four_bytes h.flags)

pub start_long : (behind : ℕ) (h : Head) → length (start_bytes behind h) ≡ 9
unfolding four_bytes
start_long behind h = refl

-- the length bytes and the head are that, and then the two numbers
pub head_parts : (behind : ℕ) (h : Head)
    → (start_bytes behind h ++ number_bytes h.stream) ++ number_bytes h.frame ≡ four_bytes behind ++ head_bytes h
unfolding head_bytes
head_parts behind h = simp append_assoc

-- ---- a whole frame

-- The four bytes of a number below 2^32, read in network byte order, are the number.
pub four_says : (n : ℕ) → n < 2 ^ 32 → four_number (four_bytes n) ≡ n
unfolding four_bytes four_number
four_says n h =
    let low : n ≡ 2 ^ 8 * (n / 2 ^ 8) + n % 256 = omega arith in
    let mid : n / 2 ^ 8 ≡ 2 ^ 8 * (n / 2 ^ 16) + n / 2 ^ 8 % 256 = omega arith in
    let high : n / 2 ^ 16 ≡ 2 ^ 8 * (n / 2 ^ 24) + n / 2 ^ 16 % 256 = omega arith in
    let top : n / 2 ^ 24 % 256 ≡ n / 2 ^ 24 = omega arith in
    sum (n / 2 ^ 24) (n / 2 ^ 16) (n / 2 ^ 8) n (n / 2 ^ 24 % 256) (n / 2 ^ 16 % 256) (n / 2 ^ 8 % 256) (n % 256) low mid high top
  where
    sum : (d c b n w x y z : ℕ) → n ≡ 2 ^ 8 * b + z → b ≡ 2 ^ 8 * c + y → c ≡ 2 ^ 8 * d + x → w ≡ d → w * 2 ^ 24 + x * 2 ^ 16 + y * 2 ^ 8 + z ≡ n
    sum d c b n w x y z p q r t = omega arith

-- Bytes behind the four do not matter.
byte_kept : (s t : List ℕ) → 4 ≤ length s → (i : ℕ) → i < 4 → get_or (s ++ t) i 0 ≡ get_or s i 0
byte_kept s t h i l = get_or-append s t 0 i (omega arith)

pub four_kept : (s t : List ℕ) → 4 ≤ length s → four_number (s ++ t) ≡ four_number s
unfolding four_number
four_kept s t h = rw (byte_kept s t h 0 (omega arith), byte_kept s t h 1 (omega arith), byte_kept s t h 2 (omega arith), byte_kept s t h 3 (omega arith))

-- Where a frame's parts stand: the length of the rest in the first four bytes, the type in the next, the flags in four more, and
-- then the two numbers and the payload. The rest is within the limit.
pub record Framed (h : Head) (limit : ℕ) (payload bytes : List ℕ) : Type 0 where
  pub says : four_number (take 4 bytes) ≡ length (drop 4 bytes)
  pub fits : length (drop 4 bytes) ≤ limit
  pub type : take 1 (drop 4 bytes) ≡ h.frame_type ∷ []
  pub flags : take 4 (drop 5 bytes) ≡ four_bytes h.flags
  pub rest : drop 9 bytes ≡ number_bytes h.stream ++ (number_bytes h.frame ++ payload)

frame_rest : (h : Head) (payload : List ℕ) → drop 4 (frame_bytes h payload) ≡ head_bytes h ++ payload
unfolding frame_bytes
frame_rest h payload = drop_at (four_bytes (length (head_bytes h ++ payload))) (head_bytes h ++ payload) 4 (four_long (length (head_bytes h ++ payload)))

module _ (h : Head) (payload : List ℕ) where
  length_first : take 4 (frame_bytes h payload) ≡ four_bytes (length (head_bytes h ++ payload))
  unfolding frame_bytes
  length_first = take_at (four_bytes (length (head_bytes h ++ payload))) (head_bytes h ++ payload) 4 (four_long (length (head_bytes h ++ payload)))

  type_next : take 1 (head_bytes h ++ payload) ≡ h.frame_type ∷ []
  unfolding head_bytes
  type_next = refl

  flags_next : take 4 (drop 5 (frame_bytes h payload)) ≡ four_bytes h.flags
  unfolding frame_bytes four_bytes head_bytes
  flags_next = refl

  numbers_last : drop 9 (frame_bytes h payload) ≡ number_bytes h.stream ++ (number_bytes h.frame ++ payload)
  unfolding frame_bytes four_bytes head_bytes
  numbers_last = append_assoc (number_bytes h.stream) (number_bytes h.frame) payload

-- Law: a frame within a limit of 32 bits has its parts there.
pub framed : (h : Head) (limit : ℕ) (payload : List ℕ) → limit < 2 ^ 32 → length (head_bytes h ++ payload) ≤ limit → Framed h limit payload (frame_bytes h payload)
framed h limit payload small l =
    record {
      says =
          ap four_number (length_first h payload)
          ∙ four_says (length (head_bytes h ++ payload)) (omega arith)
          ∙ ap length (sym (frame_rest h payload));
      fits = rw (frame_rest h payload) l;
      type = ap (take 1) (frame_rest h payload) ∙ type_next h payload;
      flags = flags_next h payload;
      rest = numbers_last h payload;
    }

-- ---- the payload

-- The payload of a frame of n bytes at the front of some bytes: what follows its four length bytes and its head.
abbrev pub payload_of : Head → ℕ → List ℕ → List ℕ
payload_of h n out = drop (4 + length (head_bytes h)) (take n out)

-- Law: of a frame it is the payload that it was made of; and this is no longer than what follows the length bytes.
module _ (h : Head) (payload : List ℕ) where
  pub frame_payload : drop (4 + length (head_bytes h)) (frame_bytes h payload) ≡ payload
  frame_payload =
      sym (drop-drop (length (head_bytes h)) 4 (frame_bytes h payload))
      ∙ ap (drop (length (head_bytes h))) (frame_rest h payload)
      ∙ drop_at (head_bytes h) payload (length (head_bytes h)) refl

  pub payload_fits : length payload ≤ length (drop 4 (frame_bytes h payload))
  payload_fits = omega (arith, ap length (frame_rest h payload), length-append (head_bytes h) payload)
