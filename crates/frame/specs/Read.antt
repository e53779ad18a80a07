-- A frame, cut out and read up to its payload: SPOE.txt, section 3.2. Starts and places count from its first length byte.
use Rattle.std.specs.Prelude.{List, [], ◌∷◌, ◌++◌, ℕ, ◌+◌, ◌-◌, ◌/◌, ◌%◌, ltb, leb, eqb, length, take, drop, get_or}
use Rattle.answer.specs.Answer.{Answer, done, refused, next, behind}
use Rattle.answer.specs.Order.{in_order}
use Rattle.answer.specs.Table.{some}
use Rattle.varint.specs.Number.{number}
use Rattle.frame.specs.declared.Head.{Head}
use Rattle.frame.specs.declared.Side.{Side}
use Rattle.frame.specs.declared.Side.TheVariants as side
use Rattle.frame.specs.Head.{four_number}

-- Either so many bytes are missing, or it is answered.
pub data Reading (A : Type 0) : Type 0 where
  wait : ℕ → Reading A
  answered : Answer A → Reading A

-- the same as an answer, in which 1 stands for a wait and has the bytes missing for its place
abbrev pub answer_of : {A : Type 0} → Reading A → Answer A
answer_of (wait missing) = refused 1 missing
answer_of (answered a) = a

-- what is then read of it, where it was accepted
abbrev pub onward : {A B : Type 0} → Reading A → (A → Answer B) → Reading B
onward (wait missing) f = wait missing
onward (answered a) f = answered (next a (λ x end. f x))

-- The frame at the front, with its length bytes: these are to be there; its length, within the limit; and its bytes, which are to be there.
unfoldable pub cut : ℕ → List ℕ → Reading (List ℕ)
cut limit s =
    let end = 4 + four_number s in
    in_order (
    (wait (4 - length s), leb 4 (length s))
    ∷ (answered (refused 2 4), leb (four_number s) limit)
    ∷ (wait (end - length s), leb end (length s)) ∷ [])
    (answered (done (take end s) end))

-- What is known of the side that sends a frame: the types that are known, the flags that are allowed, and the types that this side sends.
pub record Sender : Type 0 where
  pub known : List ℕ
  pub flags : List ℕ
  pub own : List ℕ

-- types that HAProxy sends, and those that agents send (section 3.2.2)
abbrev pub haproxy_types : List ℕ
haproxy_types = 1 ∷ 2 ∷ 3 ∷ []

abbrev pub agent_types : List ℕ
agent_types = 101 ∷ 102 ∷ 103 ∷ []

abbrev pub frame_types : List ℕ
frame_types = haproxy_types ++ agent_types

-- FIN is bit 0 of the flags and has to be set, ABORT is bit 1 and may be, and the others are reserved.
abbrev pub fin_set : List ℕ
fin_set = 1 ∷ 3 ∷ []

abbrev pub sender : Side → Sender
sender side.HAProxy = record { known = frame_types; flags = fin_set; own = haproxy_types }
sender side.Agents = record { known = frame_types; flags = fin_set; own = agent_types }

-- the number that stands at a place: it is the same wherever it stands
abbrev pub still : ℕ → ℕ → ℕ
still n x = x

abbrev pub number_from : ℕ → List ℕ → Answer ℕ
number_from at f = behind still at (number (drop at f))

-- What stands before the payload, line by line. What the other side sends is refused behind the two numbers.
unfoldable pub head : Sender → List ℕ → Answer Head
head side f =
    let type = get_or f 4 0 in
    let flags = four_number (drop 5 f) in
    in_order (
    (refused 3 4, ltb 4 (length f))
    ∷ (refused 4 4, some (eqb type) side.known)
    ∷ (refused 3 5, leb 9 (length f))
    ∷ (refused 4 4, some (eqb flags) side.flags)
    ∷ (refused 5 4, eqb (flags / 2 % 2) 0) ∷ [])
    (next (number_from 9 f) (λ stream at. next (number_from at f) (λ id start.
    in_order ((refused 6 4, some (eqb type) side.own) ∷ [])
    (done (record { frame_type = type; flags = flags; stream = stream; frame = id }) start))))
