-- The lines of a listing: docs/RULES.md, "The listing".
--
--     frame 0 type 3 stream 1 id 2 bytes 29
--     message 0 name 64656c6179 args 2
--     pair 0 key 736c6f74 kind 3 value 7
--     pair 1 key 6f6b kind 1 value 1
--     end 29 0 0
--
-- and of an agent's frame
--
--     action 0 set scope 2 name 736c6f74 kind 3 value 7
--     action 1 unset scope 1 name 6f6b
use Rattle.std.specs.Prelude.{Bool, true, false, cond, ◌||◌, List, [], ◌∷◌, ◌++◌, map, ℕ, eqb}
use Prim.Native.Char.{code}
use Rattle.types.specs.Value.{shape, points, Record, value}
use Rattle.types.specs.Form.{part}
use Rattle.types.specs.Promise.{record_of}
use Rattle.frame.specs.declared.Pair.{Pair}
use Rattle.frame.specs.declared.Message.{Message}
use Rattle.frame.specs.declared.Action.{Action}
use Rattle.frame.specs.Records.{key_of}
use Rattle.frame.specs.declared.Head.{Head}
use Rattle.listing.specs.Digits.{letters, dash, decimal, signed, shown}

-- A byte of a form, whether it is `#`, and the rest: for `#` the first text is put, or nothing where none is left.
abbrev pub fills_one : Bool → ℕ → (List (List ℕ) → List ℕ) → List (List ℕ) → List ℕ
fills_one true b rest [] = rest []
fills_one true b rest (t ∷ texts) = t ++ rest texts
fills_one false b rest texts = b ∷ rest texts

-- A form with its texts in order.
unfoldable pub filled : List ℕ → List (List ℕ) → List ℕ
filled [] texts = []
filled (b ∷ form) texts = fills_one (eqb b (code "#")) b (filled form) texts

-- Null is a dash, and INT32 and INT64 (kinds 2 and 4 of SPOE.txt's table) have a sign. A kind that points has its bytes, and any other is a number.
-- Flags are not shown.
unfoldable pub value_text : List ℕ → Record → List ℕ
value_text f (value kind a b flags) =
    cond (eqb kind 0) (dash ∷ [])
    (cond (eqb kind 2 || eqb kind 4) (signed a)
    (cond (points (shape kind)) (shown (part f a b)) (decimal a)))

-- ---- the lines

unfoldable pub frame_line : ℕ → Head → ℕ → List ℕ
frame_line index m bytes =
    filled (letters "frame # type # stream # id # bytes #\n") (map decimal (index ∷ m.frame_type ∷ m.stream ∷ m.frame ∷ bytes ∷ []))

unfoldable pub message_line : ℕ → List ℕ → Message → List ℕ
message_line index f m =
    filled (letters "message # name # args #\n") (decimal index ∷ shown (part f m.start m.len) ∷ decimal m.count ∷ [])

-- a pair's key, and its value's kind and text
abbrev pub pair_texts : List ℕ → Pair → List (List ℕ)
pair_texts f p = shown (key_of f p) ∷ decimal p.value.kind ∷ value_text f (record_of p.value) ∷ []

unfoldable pub pair_line : ℕ → List ℕ → Pair → List ℕ
pair_line index f p = filled (letters "pair # key # kind # value #\n") (decimal index ∷ pair_texts f p)

-- An action that sets a variable has its value, and one that unsets it the name alone.
unfoldable pub action_line : ℕ → List ℕ → Action → List ℕ
action_line index f x =
    filled (letters (cond (eqb x.verb 1) "action # set scope # name # kind # value #\n" "action # unset scope # name #\n"))
    (decimal index ∷ decimal x.scope ∷ pair_texts f x.pair)

-- bytes used by accepted frames, the answer that stopped it, and the missing count or the place
unfoldable pub end_line : ℕ → ℕ → ℕ → List ℕ
end_line used number at = filled (letters "end # # #\n") (map decimal (used ∷ number ∷ at ∷ []))
