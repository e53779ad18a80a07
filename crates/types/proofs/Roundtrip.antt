-- Laws about both ways: what was written is read back, at the front of any bytes, and so two values with one written form are
-- the same.
use mathlib.Core.Path.{◌≡◌, refl, sym, ap, ap₂, ◌∙◌}
use mathlib.Core.Bool.{true, false, cond}
use mathlib.Core.List.{List, [], ◌∷◌, ◌++◌, append_assoc}
use Prim.Native.Nat.{ℕ, ◌+◌, ◌*◌, ◌%◌, ◌^◌, ◌≤◌, ◌<◌}
use native.Mathlib.Omega.{arith}
use native.Mathlib.Nat.{mod-eq_of_lt}
use lib.ListN.{length, take, drop, length-append}
use lib.Seq.{drop-drop, take_at, drop_at}
use Rattle.answer.specs.Answer.{done, behind}
use Rattle.varint.specs.Number.{number_bytes}
use Rattle.varint.proofs.Reading.{reads_back}
use Rattle.types.specs.Value.{span, string, Shape, nothing, flag, integer, address, text, reserved, Width, signed32, unsigned32, whole64, shape, Record, value, points, moved, narrowed, content, upper, typed}
use Rattle.types.specs.Form.{part, string_bytes, type_of, value_bytes, writable_record, ranged}
use Rattle.types.proofs.Reading.{span_same, string_whole, typed_some, integer_whole, address_whole, text_whole, behind_plain, behind_start}
use Rattle.types.proofs.Shapes.{signed_below, InWidth, Fields, Flags, shape_cases, writable_fields, writable_flags, writable_kind}
use Rattle.types.proofs.Writing.{string_bytes_lem, string_length, part_whole, bytes_at}

-- What a value means: its kind, its number where it has one, its flags, and the bytes that it points at, wherever they stand.
pub data Meaning : Type 0 where
  means : ℕ → ℕ → ℕ → List ℕ → Meaning

abbrev pub meaning : List ℕ → Record → Meaning
meaning buffer (value kind a b flags) = means kind (cond (points (shape kind)) 0 a) flags (cond (points (shape kind)) (part buffer a b) [])

-- ---- strings

-- how many bytes a string's length number has
abbrev pub ahead : List ℕ → ℕ
ahead bytes = length (number_bytes (length bytes))

-- Law: at the front of any bytes, the written form of a string reads as its bytes and takes its own.
pub string_reads_back : (bytes t : List ℕ) → length bytes < 2 ^ 64
    → (string (string_bytes bytes ++ t) ≡ done (span (ahead bytes) (length bytes)) (length (string_bytes bytes)))
    × (part (string_bytes bytes ++ t) (ahead bytes) (length bytes) ≡ bytes)
string_reads_back bytes t h = (
  ap string all
      ∙ string_whole (number_bytes (length bytes) ++ (bytes ++ t)) (length bytes) (ahead bytes) (reads_back (length bytes) (bytes ++ t) h) room
      ∙ ap (done (span (ahead bytes) (length bytes))) (sym (string_length bytes)),
  ap (λ (l : List ℕ). take (length bytes) (drop (ahead bytes) l)) all
      ∙ ap (take (length bytes)) (drop_at (number_bytes (length bytes)) (bytes ++ t) (ahead bytes) refl)
      ∙ take_at bytes t (length bytes) refl,
)
  where
    all : string_bytes bytes ++ t ≡ number_bytes (length bytes) ++ (bytes ++ t)
    all = ap (λ (l : List ℕ). l ++ t) (string_bytes_lem bytes) ∙ append_assoc (number_bytes (length bytes)) bytes t

    room : ahead bytes + length bytes ≤ length (number_bytes (length bytes) ++ (bytes ++ t))
    room = simp length-append (omega arith)

-- So different strings have different written forms, and none is the start of another.
pub strings_apart : (p q t u : List ℕ) → length p < 2 ^ 64 → length q < 2 ^ 64 → string_bytes p ++ t ≡ string_bytes q ++ u → (p ≡ q) × (t ≡ u)
strings_apart p q t u hp hq e =
    let a = string_reads_back p t hp in
    let b = string_reads_back q u hq in
    let one = sym a.0 ∙ ap string e ∙ b.0 in
    let same = span_same one in (
      sym a.1 ∙ ap₂ take same.1 (ap₂ drop same.0 e) ∙ b.1,
      sym (drop_at (string_bytes p) t (length (string_bytes p)) refl) ∙ ap₂ drop same.2 e ∙ drop_at (string_bytes q) u (length (string_bytes q)) refl,
    )

-- ---- values

-- a value's second number: a length, or 0
abbrev pub second : Record → ℕ
second (value kind a b flags) = b

-- The written form of v, at the front of these bytes and t, reads as a value of the same meaning and length and takes its own
-- bytes.
pub record ReadsBack (buffer : List ℕ) (v : Record) (bytes t : List ℕ) : Type 0 where
  pub found : Record
  pub reads : typed (bytes ++ t) ≡ done found (length bytes)
  pub same : meaning (bytes ++ t) found ≡ meaning buffer v
  pub long : second found ≡ second v

-- the type byte picks the kind again
typed_kind : (x k : ℕ) (s : List ℕ) → x % 16 ≡ k → typed (x ∷ s) ≡ behind moved 1 (content (shape k) k (upper x) s)
typed_kind x k s e = typed_some x s ∙ ap (λ (n : ℕ). behind moved 1 (content (shape n) n (upper x) s)) e

-- a part is where it was, behind one byte more
part_behind : (x a b : ℕ) (s : List ℕ) → part (x ∷ s) (1 + a) b ≡ part s a b
part_behind x a b s = ap (take b) (sym (drop-drop a 1 (x ∷ s)))

-- what a kind's number means, and what a kind's bytes do
plain_meaning : (buffer : List ℕ) (k a b flags : ℕ) → points (shape k) ≡ false → meaning buffer (value k a b flags) ≡ means k a flags []
plain_meaning buffer k a b flags h = rw h

part_meaning : (buffer : List ℕ) (k a b flags : ℕ) → points (shape k) ≡ true → meaning buffer (value k a b flags) ≡ means k 0 flags (part buffer a b)
part_meaning buffer k a b flags h = rw h

-- a type byte has its kind and its flags
type_parts : (k flags : ℕ) → k < 16 → flags < 16 → (type_of k flags % 16 ≡ k) × (upper (type_of k flags) ≡ flags)
type_parts k flags l h = (omega arith, omega arith)

-- an integer in its field keeps all of its bits
width_kept : (w : Width) (a : ℕ) → InWidth w a → (narrowed w a ≡ a) × (a < 2 ^ 64)
width_kept signed32 a h = (sym h, rw h (signed_below a))
width_kept unsigned32 a h = (mod-eq_of_lt {m = 2 ^ 32} h, omega arith)
width_kept whole64 a h = (refl, h)

module _ (buffer t : List ℕ) (k a b flags : ℕ) (low : k < 16) where
  -- a number, or none, is the same wherever it stands
  plain_back : (x : ℕ) (rest : List ℕ) (sh : Shape) → shape k ≡ sh → points sh ≡ false → x % 16 ≡ k → b ≡ 0
      → content sh k (upper x) (rest ++ t) ≡ done (value k a 0 flags) (length rest)
      → ReadsBack buffer (value k a b flags) (x ∷ rest) t
  plain_back x rest sh is p e z c = record {
    found = value k a 0 flags;
    reads =
        typed_kind x k (rest ++ t) e
        ∙ behind_plain k (upper x) (rest ++ t) sh is a 0 flags (length rest) p c
        ∙ ap (done (value k a 0 flags)) (omega arith);
    same = plain_meaning (x ∷ rest ++ t) k a 0 flags (ap points is ∙ p) ∙ sym (plain_meaning buffer k a b flags (ap points is ∙ p));
    long = sym z;
  }

  -- bytes are found where they were written
  part_back : (rest : List ℕ) (sh : Shape) (start n : ℕ) → shape k ≡ sh → points sh ≡ true → flags < 16 → n ≡ b
      → content sh k flags (rest ++ t) ≡ done (value k start n flags) (length rest)
      → part (rest ++ t) start n ≡ part buffer a b
      → ReadsBack buffer (value k a b flags) (type_of k flags ∷ rest) t
  part_back rest sh start n is p g l c same =
      let parts = type_parts k flags low g in
      record {
        found = value k (1 + start) n flags;
        reads =
            typed_kind (type_of k flags) k (rest ++ t) parts.0
            ∙ ap (λ (f : ℕ). behind moved 1 (content (shape k) k f (rest ++ t))) parts.1
            ∙ behind_start k flags (rest ++ t) sh is start n flags (length rest) p c
            ∙ ap (done (value k (1 + start) n flags)) (omega arith);
        same =
            part_meaning (type_of k flags ∷ rest ++ t) k (1 + start) n flags (ap points is ∙ p)
            ∙ ap (means k 0 flags) (part_behind (type_of k flags) start n (rest ++ t) ∙ same)
            ∙ sym (part_meaning buffer k a b flags (ap points is ∙ p));
        long = l;
      }

  null_back : k ≡ 0 → shape k ≡ nothing → Flags nothing flags → Fields nothing a b → ReadsBack buffer (value k a b flags) (type_of k flags ∷ []) t
  null_back e is g f =
      let parts = type_parts k flags low g in
      plain_back (type_of k flags) [] nothing is refl parts.0 f.1 (ap₂ (λ (n m : ℕ). done (value k n 0 m) 0) (sym f.0) parts.1)

  -- a boolean's byte has it as its lowest flag, and no other
  bool_back : k ≡ 1 → shape k ≡ flag → Flags flag flags → Fields flag a b → ReadsBack buffer (value k a b flags) ((type_of k flags + 16 * a) ∷ []) t
  bool_back e is g f =
      plain_back (type_of k flags + 16 * a) [] flag is refl (omega arith) f.1 (ap₂ (λ (n m : ℕ). done (value k n 0 m) 0) bit (sym g))
    where
      bit : upper (type_of k flags + 16 * a) % 2 ≡ a
      bit = omega arith

  integer_back : (w : Width) → shape k ≡ integer w → Flags (integer w) flags → Fields (integer w) a b
      → ReadsBack buffer (value k a b flags) (type_of k flags ∷ number_bytes a) t
  integer_back w is g f =
      let o = width_kept w a f.0 in
      let parts = type_parts k flags low g in
      plain_back (type_of k flags) (number_bytes a) (integer w) is refl parts.0 f.1
      (integer_whole k (upper (type_of k flags)) (number_bytes a ++ t) w a (length (number_bytes a)) (reads_back a t o.1)
      ∙ ap₂ (λ (n m : ℕ). done (value k n 0 m) (length (number_bytes a))) o.0 parts.1)

  address_back : (n : ℕ) → shape k ≡ address n → Flags (address n) flags → Fields (address n) a b → length (part buffer a b) ≡ b
      → ReadsBack buffer (value k a b flags) (type_of k flags ∷ part buffer a b) t
  address_back n is g f l =
      part_back (part buffer a b) (address n) 0 n is refl g (sym f)
      (address_whole k flags (part buffer a b ++ t) n (simp length-append (omega arith)) ∙ ap (done (value k 0 n flags)) (omega arith))
      (take_at (part buffer a b) t n (omega arith))

  text_back : shape k ≡ text → Flags text flags → Fields text a b → length (part buffer a b) ≡ b
      → ReadsBack buffer (value k a b flags) (type_of k flags ∷ string_bytes (part buffer a b)) t
  text_back is g f l =
      let p = part buffer a b in
      let o = string_reads_back p t (omega arith) in
      part_back (string_bytes p) text (ahead p) (length p) is refl g l
      (text_whole k flags (string_bytes p ++ t) (ahead p) (length p) (length (string_bytes p)) o.0)
      o.1

-- Law: at the front of any bytes, the written form of a writable value in range reads as its kind, its number or its bytes, and its
-- flags, and takes its own bytes.
pub read_back : (buffer t : List ℕ) (v : Record) → writable_record v ≡ true → ranged buffer v ≡ true → ReadsBack buffer v (value_bytes buffer v) t
read_back buffer t (value k a b flags) h r =
    shape_cases k
    (λ e is. rw (bytes_at buffer k a b flags nothing is) (null_back buffer t k a b flags low e is (kept nothing is) (fields nothing is)))
    (λ e is. rw (bytes_at buffer k a b flags flag is) (bool_back buffer t k a b flags low e is (kept flag is) (fields flag is)))
    (λ w l g is. rw (bytes_at buffer k a b flags (integer w) is) (integer_back buffer t k a b flags low w is (kept (integer w) is) (fields (integer w) is)))
    (λ n l g is. rw (bytes_at buffer k a b flags (address n) is) (address_back buffer t k a b flags low n is (kept (address n) is) (fields (address n) is) long))
    (λ l g is. rw (bytes_at buffer k a b flags text is) (text_back buffer t k a b flags low is (kept text is) (fields text is) long))
    (λ l is. absurd (fields reserved is))
  where
    low : k < 16
    low = omega (arith, writable_kind k a b flags h)

    long : length (part buffer a b) ≡ b
    long = part_whole buffer k a b flags h r

    fields : (sh : Shape) → shape k ≡ sh → Fields sh a b
    fields = writable_fields k a b flags h

    kept : (sh : Shape) → shape k ≡ sh → Flags sh flags
    kept = writable_flags k a b flags h

-- Law: two writable values whose written forms are equal, or start the same bytes, mean the same.
pub values_apart : (buffer other t u : List ℕ) (v w : Record)
    → writable_record v ≡ true → ranged buffer v ≡ true → writable_record w ≡ true → ranged other w ≡ true
    → value_bytes buffer v ++ t ≡ value_bytes other w ++ u
    → (meaning buffer v ≡ meaning other w) × (t ≡ u)
values_apart buffer other t u v w hv rv hw rw' e = (
  sym p.same ∙ ap₂ meaning e f ∙ q.same,
  sym (drop_at (value_bytes buffer v) t (length (value_bytes buffer v)) refl)
      ∙ ap₂ drop m e
      ∙ drop_at (value_bytes other w) u (length (value_bytes other w)) refl,
)
  where
    p : ReadsBack buffer v (value_bytes buffer v) t
    p = read_back buffer t v hv rv

    q : ReadsBack other w (value_bytes other w) u
    q = read_back other u w hw rw'

    one : done p.found (length (value_bytes buffer v)) ≡ done q.found (length (value_bytes other w))
    one = sym p.reads ∙ ap typed e ∙ q.reads

    f : p.found ≡ q.found
    f = cc one

    m : length (value_bytes buffer v) ≡ length (value_bytes other w)
    m = cc one

pub same_form : (buffer other : List ℕ) (v w : Record)
    → writable_record v ≡ true → ranged buffer v ≡ true → writable_record w ≡ true → ranged other w ≡ true
    → value_bytes buffer v ≡ value_bytes other w → meaning buffer v ≡ meaning other w
same_form buffer other v w hv rv hw rw' e = (values_apart buffer other [] [] v w hv rv hw rw' (ap (λ (l : List ℕ). l ++ []) e)).0
