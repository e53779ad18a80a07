-- Laws about how long lines are: of a frame of n bytes none has more than 2n and 128 besides.
use mathlib.Core.Path.{◌≡◌, ap}
use mathlib.Core.Bool.{true, ◌||◌}
use mathlib.Core.Logic.{◌⊎◌, inl, inr, ⊎_elim}
use mathlib.Core.List.{List, [], ◌∷◌}
use Prim.Native.Nat.{ℕ, ◌+◌, ◌*◌, ◌^◌, ◌≤◌, ◌<◌}
use native.Mathlib.Omega.{arith}
use lib.Dec.{eqb}
use lib.ListN.{length, drop, length-append, length-take}
use borrow.Author.Tests.{eq-eqb, ne_eqb, eqb-true, eqb-false}
use Rattle.answer.specs.Answer.{done}
use Rattle.answer.proofs.Cases.{bool_cases}
use Rattle.answer.proofs.Each.{Each, each_on}
use Rattle.types.specs.Value.{Shape, flag, integer, reserved, Width, shape, value, points}
use Rattle.types.specs.Form.{part, writable_record}
use Rattle.types.specs.Promise.{record_of}
use Rattle.types.proofs.Shapes.{shape_cases, Fields, writable_fields, writable_kind}
use Rattle.frame.specs.declared.Pair.{Pair}
use Rattle.frame.specs.declared.Message.{Message}
use Rattle.frame.specs.declared.Action.{Action}
use Rattle.frame.specs.Records.{key_of}
use Rattle.frame.specs.declared.Head.{Head}
use Rattle.frame.specs.Read.{Sender}
use Rattle.payload.specs.declared.Counts.{Counts}
use Rattle.payload.specs.Payload.{Contents}
use Rattle.parser.specs.Frame.{framed}
use Rattle.listing.specs.Digits.{decimal, shown}
use Rattle.listing.specs.Lines.{filled, value_text, message_line, pair_line, action_line}
use Rattle.listing.proofs.Decimal.{decimal_most}
use Rattle.listing.proofs.Text.{signed_most, hex_length, shown_none, shown_some}
use Rattle.listing.proofs.Pieces.{text_null, text_number, text_bytes, message_front, message_back, pair_front, set_front_lem, unset_front}
use Rattle.listing.proofs.Accepted.{Named, Whole, whole_held}
use Rattle.listing.proofs.Distinct.{below}

-- ---- words and texts

-- what stands in front of a text, and behind a message's name, with its numbers
message_front_lem : (t : List ℕ) → length (filled message_front (t ∷ [])) ≡ 14 + length t
unfolding filled
message_front_lem t = simp length-append (omega arith)

message_back_lem : (t : List ℕ) → length (filled message_back (t ∷ [])) ≡ 7 + length t
unfolding filled
message_back_lem t = simp length-append (omega arith)

pair_front_lem : (t : List ℕ) → length (filled pair_front (t ∷ [])) ≡ 10 + length t
unfolding filled
pair_front_lem t = simp length-append (omega arith)

set_front : (t u : List ℕ) → length (filled set_front_lem (t ∷ u ∷ [])) ≡ 24 + length t + length u
unfolding filled
set_front t u = simp length-append (omega arith)

unset_front_lem : (t u : List ℕ) → length (filled unset_front (t ∷ u ∷ [])) ≡ 26 + length t + length u
unfolding filled
unset_front_lem t u = simp length-append (omega arith)

-- and whole lines
message_words : (i : ℕ) (f : List ℕ) (m : Message)
    → length (message_line i f m) ≡ 21 + length (decimal i) + length (shown (part f m.start m.len)) + length (decimal m.count)
unfolding message_line filled
message_words i f m = simp length-append (omega arith)

pair_words : (k : ℕ) (f : List ℕ) (p : Pair)
    → length (pair_line k f p) ≡ 24 + length (decimal k) + length (shown (key_of f p)) + length (decimal p.value.kind) + length (value_text f (record_of p.value))
unfolding pair_line filled
pair_words k f p = simp length-append (omega arith)

set_words : (k : ℕ) (f : List ℕ) (x : Action) → x.verb ≡ 1
    → length (action_line k f x) ≡ 38 + length (decimal k) + length (decimal x.scope) + length (shown (key_of f x.pair)) + length (decimal x.pair.value.kind) + length (value_text f (record_of x.pair.value))
unfolding action_line filled
set_words k f x e = rw (eq-eqb x.verb 1 e) (simp length-append (omega arith))

unset_words : (k : ℕ) (f : List ℕ) (x : Action) → (x.verb ≡ 1 → ⊥)
    → length (action_line k f x) ≡ 27 + length (decimal k) + length (decimal x.scope) + length (shown (key_of f x.pair))
unfolding action_line filled
unset_words k f x ne = rw (ne_eqb x.verb 1 ne) (simp length-append (omega arith))

shown_most : (s : List ℕ) → length (shown s) ≤ 2 * length s + 1
shown_most s =
    bool_cases (eqb (length s) 0)
    (λ t. omega (arith, ap length (shown_none s (eqb-true (length s) 0 t))))
    (λ t. omega (arith, ap length (shown_some s (eqb-false (length s) 0 t)), hex_length s))

part_most : (f : List ℕ) (start len : ℕ) → length (part f start len) ≤ len
part_most f start len = rw (length-take len (drop start f)) (omega arith)

-- a value that points has at most two digits for each byte, and another at most 21
value_most : (f : List ℕ) (k a b flags : ℕ) → writable_record (value k a b flags) ≡ true
    → ((points (shape k) ≡ true) × (length (value_text f (value k a b flags)) ≤ 2 * b + 1)) ⊎ (length (value_text f (value k a b flags)) ≤ 21)
unfolding value_text
value_most f k a b flags h =
    shape_cases k
    (λ e is. inr (rw (text_null f k a b flags e) (omega arith)))
    (λ e is. inr (rw (text_number f k a b flags (λ z. omega arith) (λ z. omega arith) (λ z. omega arith) (omega arith)) (let o = fields flag is in omega (arith, decimal_most a (omega (arith, o.0))))))
    (λ w l g is. inr (number w l is))
    (λ n l g is. inl (ap points is, bytes l (omega arith)))
    (λ l g is. inl (ap points is, bytes (omega arith) g))
    (λ l is. absurd (fields reserved is))
  where
    fields : (sh : Shape) → shape k ≡ sh → Fields sh a b
    fields = writable_fields k a b flags h

    bytes : 6 ≤ k → k < 10 → length (value_text f (value k a b flags)) ≤ 2 * b + 1
    bytes l g = rw (text_bytes f k a b flags l g) (omega (arith, shown_most (part f a b), part_most f a b))

    number : (w : Width) → 2 ≤ k → shape k ≡ integer w → length (value_text f (value k a b flags)) ≤ 21
    number w l is =
        let o = below w a (fields (integer w) is).0 in
        let no = ne_eqb k 0 (λ z. omega arith) in
        bool_cases (eqb k 2 || eqb k 4) (λ t. rw (no, t) (signed_most a o)) (λ t. rw (no, t, ap points is) (omega (arith, decimal_most a o)))

-- ---- lines

-- Law: of a frame of n bytes.
pub message_room : (i : ℕ) (f : List ℕ) (m : Message) (n : ℕ) → i < 2 ^ 64 → m.count < 2 ^ 64 → Named n m → length (message_line i f m) ≤ 2 * n + 128
message_room i f m n h c in_frame =
    omega (arith, message_words i f m, decimal_most i h, decimal_most m.count c, shown_most (part f m.start m.len), part_most f m.start m.len, in_frame)

pub pair_room : (k : ℕ) (f : List ℕ) (p : Pair) (n : ℕ) → k < 2 ^ 64 → Whole n p → length (pair_line k f p) ≤ 2 * n + 128
pair_room k f p n h w =
    let v = p.value in
    let kind = writable_kind v.kind v.a v.b v.flags w.fields in
    let all = pair_words k f p in
    let digits = decimal_most k h in
    let few = decimal_most v.kind (omega arith) in
    let key = shown_most (key_of f p) in
    let short = part_most f p.start p.len in
    ⊎_elim
    (λ o. omega (arith, all, digits, few, key, short, o.1, w.both o.0))
    (λ o. omega (arith, all, digits, few, key, short, o, w.key))
    (value_most f v.kind v.a v.b v.flags w.fields)

-- an action's number, scope and kind have at most 20 digits each, and its words 38 letters
pub action_room : (k : ℕ) (f : List ℕ) (x : Action) (n : ℕ) → k < 2 ^ 64 → x.scope ≤ 4 → Whole n x.pair → length (action_line k f x) ≤ 2 * n + 128
action_room k f x n h scope w =
    let p = x.pair in
    let v = p.value in
    let kind = writable_kind v.kind v.a v.b v.flags w.fields in
    let digits = decimal_most k h in
    let more = decimal_most x.scope (omega arith) in
    let few = decimal_most v.kind (omega arith) in
    let key = shown_most (key_of f p) in
    let short = part_most f p.start p.len in
    bool_cases (eqb x.verb 1)
    (λ t.
    let all = set_words k f x (eqb-true x.verb 1 t) in
    ⊎_elim
    (λ o. omega (arith, all, digits, more, few, key, short, o.1, w.both o.0))
    (λ o. omega (arith, all, digits, more, few, key, short, o, w.key))
    (value_most f v.kind v.a v.b v.flags w.fields))
    (λ t. omega (arith, unset_words k f x (eqb-false x.verb 1 t), digits, more, key, short, w.key))

-- Law: so no line of an accepted frame is refused where 2n + 128 bytes are lent.
pub accepted_room : (sent : Sender) (rooms : Counts) (f : List ℕ) (m : Head) (c : Contents) (used k : ℕ) → framed sent rooms f ≡ done (m, c) used → k < 2 ^ 64
    → Each (λ (x : Message). x.count < 2 ^ 64 → length (message_line k f x) ≤ 2 * length f + 128) c.messages
    × Each (λ (p : Pair). length (pair_line k f p) ≤ 2 * length f + 128) c.pairs
    × Each (λ (x : Action). length (action_line k f x) ≤ 2 * length f + 128) c.actions
accepted_room sent rooms f m c used k e h =
    let o = whole_held sent rooms f m c used e in (
      each_on (λ x w l. message_room k f x (length f) h l w) c.messages o.messages,
      each_on (λ p w. pair_room k f p (length f) h w) c.pairs o.pairs,
      each_on (λ x w. action_room k f x (length f) h w.scope w.whole) c.actions o.actions,
    )
