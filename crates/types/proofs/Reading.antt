-- Laws about reading a string and a value: how each unrolls, what an accepted one says of the bytes, and that bytes
-- appended change neither it nor any refusal but 3.
use Rattle.std.specs.Prelude.{Result, Ok, Err}
use Rattle.answer.specs.declared.Read.{Read}
use Rattle.answer.specs.declared.Refusal.{Refusal}
use Rattle.answer.specs.Writes.{read_said}
use Rattle.types.specs.declared.Value.{Value}
use Rattle.types.specs.Promise.{record_of, value_said}
use mathlib.Core.Path.{◌≡◌, refl, sym, ap, ◌∙◌}
use mathlib.Core.Bool.{true, false, cond, true≢false}
use mathlib.Core.Logic.{⊎_elim}
use mathlib.Core.List.{List, [], ◌∷◌, ◌++◌}
use Prim.Native.Nat.{ℕ, suc, ◌+◌, ◌%◌, ◌^◌, ◌≤◌, ◌<◌}
use native.Mathlib.Omega.{arith}
use lib.ListN.{length, drop, get_or, length-append, drop_of_length-le}
use borrow.Author.Tests.{le-leb, lt-leb}
use Rattle.types.specs.declared.Span.{Span}
use Rattle.answer.specs.Answer.{Answer, done, refused, next, behind}
use Rattle.varint.specs.Number.{number}
use Rattle.answer.proofs.Answers.{done_same, ends}
use Rattle.answer.proofs.Cases.{Stands, stands_first, lt_or_le, answer_cases, not_both}
use Rattle.varint.proofs.Reading.{accepted, number_place, number_kept, accepted_kept}
use Rattle.types.proofs.Shapes.{shape_listed, InWidth, signed_again, Fields, Flags}
use Rattle.types.specs.Value.{span, string, Shape, nothing, flag, integer, address, text, reserved, Width, signed32, unsigned32, whole64, shape, Record, value, points, moved, narrowed, spanned, content, upper, typed}

-- any answer but 3, which bytes appended may change
abbrev pub Stays : {A : Type 0} → Answer A → Type 0
Stays a = (place : ℕ) → a ≡ refused 3 place → ⊥

-- a refusal is its number and its place
refused_same : {A : Type 0} {n place m p : ℕ} → ◌≡◌ {A = Answer A} (refused n place) (refused m p) → (n ≡ m) × (place ≡ p)
refused_same e = ((cc), (cc))

-- and an accepted string is its parts
pub span_same : {a b n c d m : ℕ} → done (span a b) n ≡ done (span c d) m → (a ≡ c) × (b ≡ d) × (n ≡ m)
span_same e = let both = done_same e in (ap (λ (p : Span). p.start) both.0, ap (λ (p : Span). p.len) both.0, both.1)

-- ---- strings

module _ (s : List ℕ) where
  pub string_refused : (n place : ℕ) → number s ≡ refused n place → string s ≡ refused n place
  unfolding string
  string_refused n place e = rw e

  pub string_whole : (n used : ℕ) → number s ≡ done n used → used + n ≤ length s → string s ≡ done (span used n) (used + n)
  unfolding string
  string_whole n used e h = rw e (simp (le-leb (used + n) (length s) h))

  pub string_short : (n used : ℕ) → number s ≡ done n used → length s < used + n → string s ≡ refused 3 used
  unfolding string
  string_short n used e h = rw e (simp (lt-leb (used + n) (length s) h))

  -- a law about a string goes by these three
  pub string_cases : {G : Type 0}
      → ((n place : ℕ) → number s ≡ refused n place → G)
      → ((n used : ℕ) → number s ≡ done n used → used + n ≤ length s → G)
      → ((n used : ℕ) → number s ≡ done n used → length s < used + n → G)
      → G
  string_cases none whole short =
      answer_cases (number s)
      (λ n used e. ⊎_elim (λ h. short n used e h) (λ h. whole n used e h) (lt_or_le (length s) (used + n)))
      none

  -- Law: an accepted string takes at least one byte and no more than are there, and its bytes are the last of those taken.
  pub string_accepted : (start len used : ℕ) → string s ≡ done (span start len) used
      → (1 ≤ used) × (used ≤ length s) × (1 ≤ start) × (start + len ≡ used) × (len < 2 ^ 64)
  string_accepted start len used e =
      string_cases
      (λ n place r. not_both e (string_refused n place r))
      (λ n u d h.
      let one : done (span u n) (u + n) ≡ done (span start len) used = sym (string_whole n u d h) ∙ e in
      let q = span_same one in
      let k = accepted s n u d in
      omega arith)
      (λ n u d h. not_both e (string_short n u d h))

-- Law: a string is refused at a place within the bytes.
pub string_place : (s : List ℕ) (n place : ℕ) → string s ≡ refused n place → place ≤ length s
string_place s n place e =
    string_cases s
    (λ m p r. let q = refused_same (sym (string_refused s m p r) ∙ e) in omega (arith, number_place s m p r))
    (λ m u d h. not_both (string_whole s m u d h) e)
    (λ m u d h. let q = refused_same (sym (string_short s m u d h) ∙ e) in omega (arith, accepted s m u d))

pub string_ends : (s : List ℕ) → ends (string s) ≤ length s
string_ends s =
    answer_cases (string s)
    (λ x used e. rw e (string_accepted s x.start x.len used e).1)
    (λ n place e. rw e (string_place s n place e))

-- Law: with bytes appended, every answer but 3 stays as it was: an accepted string and a 7.
pub string_kept : (s t : List ℕ) (a : Answer Span) → string s ≡ a → Stays a → string (s ++ t) ≡ a
string_kept s t a e no3 =
    string_cases s
    (λ n place r.
    let is = sym (string_refused s n place r) ∙ e in
    string_refused (s ++ t) n place (number_kept s t (refused n place) r (λ p q. no3 p (sym is ∙ (let z : n ≡ 3 = cc in let y : place ≡ p = cc in cc)))) ∙ is)
    (λ n u d h. string_whole (s ++ t) n u (accepted_kept s t n u d) (simp length-append (omega arith)) ∙ sym (string_whole s n u d h) ∙ e)
    (λ n u d h. absurd (no3 u (sym e ∙ string_short s n u d h)))

-- ---- values

-- a start is in its field wherever it points
fields_moved : (sh : Shape) (n a b : ℕ) → Fields sh a b → Fields sh (cond (points sh) (n + a) a) b
fields_moved nothing n a b h = h
fields_moved flag n a b h = h
fields_moved (integer w) n a b h = h
fields_moved (address m) n a b h = h
fields_moved text n a b h = h
fields_moved reserved n a b h = h

pub typed_none : typed [] ≡ refused 3 0
unfolding typed
typed_none = refl

pub typed_some : (b : ℕ) (s : List ℕ) → typed (b ∷ s) ≡ behind moved 1 (content (shape (b % 16)) (b % 16) (upper b) s)
unfolding typed
typed_some b s = refl

-- the type byte, which stands at the front where there is a byte
abbrev pub type_byte : List ℕ → ℕ
type_byte s = get_or s 0 0

pub type_byte_stands : (s : List ℕ) → 0 < length s → Stands s 0 (type_byte s)
type_byte_stands [] h = absurd (omega arith)
type_byte_stands (b ∷ s) h = record { here = h; is = λ d. refl }

-- the same in the code's terms
pub typed_empty : (s : List ℕ) → length s ≤ 0 → typed s ≡ refused 3 0
typed_empty s h = ap typed (drop_of_length-le s {i = 0} h) ∙ typed_none

pub typed_front : (s : List ℕ) {b : ℕ} → Stands s 0 b → typed s ≡ behind moved 1 (content (shape (b % 16)) (b % 16) (upper b) (drop 1 s))
typed_front s {b} here = ap typed (stands_first here) ∙ typed_some b (drop 1 s)

-- the DATA of each kind that has some
module _ (kind flags : ℕ) (s : List ℕ) where
  pub integer_refused : (w : Width) (n place : ℕ) → number s ≡ refused n place → content (integer w) kind flags s ≡ refused n place
  integer_refused w n place e = rw e

  pub integer_whole : (w : Width) (n used : ℕ) → number s ≡ done n used → content (integer w) kind flags s ≡ done (value kind (narrowed w n) 0 flags) used
  integer_whole w n used e = rw e

  pub address_short : (n : ℕ) → length s < n → content (address n) kind flags s ≡ refused 3 0
  address_short n h = simp (lt-leb n (length s) h)

  pub address_whole : (n : ℕ) → n ≤ length s → content (address n) kind flags s ≡ done (value kind 0 n flags) n
  address_whole n h = simp (le-leb n (length s) h)

  pub text_refused : (n place : ℕ) → string s ≡ refused n place → content text kind flags s ≡ refused n place
  text_refused n place e = rw e

  pub text_whole : (start len used : ℕ) → string s ≡ done (span start len) used → content text kind flags s ≡ done (value kind start len flags) used
  text_whole start len used e = rw e

-- the value behind its type byte
module _ (kind : ℕ) where
  moved_plain : (n a b f : ℕ) → points (shape kind) ≡ false → moved n (value kind a b f) ≡ value kind a b f
  moved_plain n a b f h = rw h

  moved_start : (n a b f : ℕ) → points (shape kind) ≡ true → moved n (value kind a b f) ≡ value kind (n + a) b f
  moved_start n a b f h = rw h

module _ (kind flags : ℕ) (s : List ℕ) (sh : Shape) (is : shape kind ≡ sh) where
  pub behind_refused : (n place : ℕ) → content sh kind flags s ≡ refused n place
      → behind moved 1 (content (shape kind) kind flags s) ≡ refused n (1 + place)
  behind_refused n place e = ap (λ (x : Shape). behind moved 1 (content x kind flags s)) is ∙ ap (behind moved 1) e

  pub behind_plain : (a b f used : ℕ) → points sh ≡ false → content sh kind flags s ≡ done (value kind a b f) used
      → behind moved 1 (content (shape kind) kind flags s) ≡ done (value kind a b f) (1 + used)
  behind_plain a b f used h e =
      ap (λ (x : Shape). behind moved 1 (content x kind flags s)) is
      ∙ ap (behind moved 1) e
      ∙ ap (λ (v : Record). done v (1 + used)) (moved_plain kind 1 a b f (ap points is ∙ h))

  pub behind_start : (a b f used : ℕ) → points sh ≡ true → content sh kind flags s ≡ done (value kind a b f) used
      → behind moved 1 (content (shape kind) kind flags s) ≡ done (value kind (1 + a) b f) (1 + used)
  behind_start a b f used h e =
      ap (λ (x : Shape). behind moved 1 (content x kind flags s)) is
      ∙ ap (behind moved 1) e
      ∙ ap (λ (v : Record). done v (1 + used)) (moved_start kind 1 a b f (ap points is ∙ h))

-- what an accepted DATA says of the bytes
kept_width : (w : Width) (n : ℕ) → n < 2 ^ 64 → InWidth w (narrowed w n)
kept_width signed32 n h = signed_again n
kept_width unsigned32 n h = omega arith
kept_width whole64 n h = h

abbrev pub Found : Shape → ℕ → List ℕ → ℕ → ℕ → ℕ → ℕ → ℕ → Type 0
Found sh kind s k a b f used = (k ≡ kind) × (used ≤ length s) × Fields sh a b × (points sh ≡ true → a + b ≤ used) × Flags sh f

-- an accepted value is its parts
pub value_same : {k a b f used k' a' b' f' used' : ℕ} → done (value k a b f) used ≡ done (value k' a' b' f') used'
    → (k ≡ k') × (a ≡ a') × (b ≡ b') × (used ≡ used') × (f ≡ f')
value_same e = ((cc), (cc), (cc), (cc), (cc))

pub content_accepted : (sh : Shape) (kind flags : ℕ) (s : List ℕ) (k a b f used : ℕ) → flags < 16 → content sh kind flags s ≡ done (value k a b f) used
    → Found sh kind s k a b f used
content_accepted nothing kind flags s k a b f used low e = let p = value_same e in (omega arith, omega arith, omega arith, λ t. absurd (true≢false (sym t)), omega arith)
content_accepted flag kind flags s k a b f used low e = let p = value_same e in (omega arith, omega arith, omega arith, λ t. absurd (true≢false (sym t)), omega arith)
content_accepted (integer w) kind flags s k a b f used low e =
    answer_cases (number s)
    (λ n u d.
    let o = accepted s n u d in
    let p = value_same (sym (integer_whole kind flags s w n u d) ∙ e) in
    (omega arith, omega arith, (rw (sym p.1) (kept_width w n o.3), omega arith), λ t. absurd (true≢false (sym t)), omega arith))
    (λ n place r. not_both e (integer_refused kind flags s w n place r))
content_accepted (address n) kind flags s k a b f used low e =
    ⊎_elim
    (λ h. not_both e (address_short kind flags s n h))
    (λ h. let p = value_same (sym (address_whole kind flags s n h) ∙ e) in (omega arith, omega arith, omega arith, λ t. omega arith, omega arith))
    (lt_or_le (length s) n)
content_accepted text kind flags s k a b f used low e = go (string s) refl
  where
    go : (x : Answer Span) → string s ≡ x → Found text kind s k a b f used
    go (done x u) d =
        let o = string_accepted s x.start x.len u d in
        let p = value_same (sym (text_whole kind flags s x.start x.len u d) ∙ e) in
        (omega arith, omega arith, omega arith, λ t. omega arith, omega arith)
    go (refused n place) r = not_both e (text_refused kind flags s n place r)
content_accepted reserved kind flags s k a b f used low e = not_both e refl

-- what an accepted value says of the bytes, of which `there` are there
abbrev pub Accepted : ℕ → ℕ → ℕ → ℕ → ℕ → ℕ → Type 0
Accepted there kind a b flags used =
    (1 ≤ used) × (used ≤ there) × (kind ≤ 9) × Fields (shape kind) a b × (points (shape kind) ≡ true → (1 ≤ a) × (a + b ≤ used)) × Flags (shape kind) flags

-- behind its type byte
found_behind : (s : List ℕ) (kind a b f c u : ℕ) → Found (shape kind) kind s kind c b f u → cond (points (shape kind)) (1 + c) c ≡ a
    → Accepted (suc (length s)) kind a b f (1 + u)
found_behind s kind a b f c u o e =
    (omega arith, omega arith, shape_listed kind (λ r. rw r at o.2), rw e at (fields_moved (shape kind) 1 c b o.2), inside, o.4)
  where
    inside : points (shape kind) ≡ true → (1 ≤ a) × (a + b ≤ 1 + u)
    inside t = let p : 1 + c ≡ a = rw t at e in let q = o.3 t in omega arith

-- Law: an accepted value takes at least one byte and no more than are there. Its kind is at most 9 and its numbers lie in
-- their fields, the flags too; where they are a start and a length, these point behind the type byte and inside the bytes taken.
pub typed_accepted : (s : List ℕ) (kind a b flags used : ℕ) → typed s ≡ done (value kind a b flags) used → Accepted (length s) kind a b flags used
typed_accepted [] kind a b flags used e = not_both e typed_none
typed_accepted (x ∷ s) kind a b flags used e = go (content (shape (x % 16)) (x % 16) (upper x) s) refl
  where
    go : (y : Answer Record) → content (shape (x % 16)) (x % 16) (upper x) s ≡ y → Accepted (suc (length s)) kind a b flags used
    go (done (value k c d g) u) f =
        let o = content_accepted (shape (x % 16)) (x % 16) (upper x) s k c d g u (omega arith) f in
        let p = value_same (sym (typed_some x s ∙ ap (behind moved 1) f) ∙ e) in
        rw (sym p.4, sym p.3, sym p.2, sym p.0) (found_behind s k a d g c u (rw (sym o.0) at o) p.1)
    go (refused n place) f = not_both e (typed_some x s ∙ ap (behind moved 1) f)

content_place : (sh : Shape) (kind flags : ℕ) (s : List ℕ) (n place : ℕ) → content sh kind flags s ≡ refused n place → place ≤ length s
content_place nothing kind flags s n place e = not_both refl e
content_place flag kind flags s n place e = not_both refl e
content_place (integer w) kind flags s n place e =
    answer_cases (number s)
    (λ m u d. not_both (integer_whole kind flags s w m u d) e)
    (λ m p r. let q = refused_same (sym (integer_refused kind flags s w m p r) ∙ e) in omega (arith, number_place s m p r))
content_place (address m) kind flags s n place e =
    ⊎_elim
    (λ h. let q = refused_same (sym (address_short kind flags s m h) ∙ e) in omega arith)
    (λ h. not_both (address_whole kind flags s m h) e)
    (lt_or_le (length s) m)
content_place text kind flags s n place e = go (string s) refl
  where
    go : (x : Answer Span) → string s ≡ x → place ≤ length s
    go (done x u) d = not_both (text_whole kind flags s x.start x.len u d) e
    go (refused m p) r = let q = refused_same (sym (text_refused kind flags s m p r) ∙ e) in omega (arith, string_place s m p r)
content_place reserved kind flags s n place e = let q = refused_same e in omega arith

-- Law: a value is refused at a place within the bytes, their end included.
pub typed_place : (s : List ℕ) (n place : ℕ) → typed s ≡ refused n place → place ≤ length s
typed_place [] n place e = let q = refused_same (sym typed_none ∙ e) in omega arith
typed_place (x ∷ s) n place e = go (content (shape (x % 16)) (x % 16) (upper x) s) refl
  where
    go : (y : Answer Record) → content (shape (x % 16)) (x % 16) (upper x) s ≡ y → place ≤ suc (length s)
    go (done v u) f = not_both (typed_some x s ∙ ap (behind moved 1) f) e
    go (refused m p) f =
        let q = refused_same (sym (typed_some x s ∙ ap (behind moved 1) f) ∙ e) in
        omega (arith, content_place (shape (x % 16)) (x % 16) (upper x) s m p f)

pub typed_ends : (s : List ℕ) → ends (typed s) ≤ length s
typed_ends s =
    answer_cases (typed s)
    (λ v used e. typed_whole v used e)
    (λ n place e. rw e (typed_place s n place e))
  where
    typed_whole : (v : Record) (used : ℕ) → typed s ≡ done v used → ends (typed s) ≤ length s
    typed_whole (value kind a b f) used e = rw e (typed_accepted s kind a b f used e).1

-- What the value reader says is what it gives, by the numbers of a value.
pub valued : (r : Result (Read Value) Refusal) → value_said r ≡ next (read_said r) (λ v used. done (record_of v) used)
valued (Ok x) = refl
valued (Err q) = refl

pub valued_ends : (r : Result (Read Value) Refusal) → ends (value_said r) ≡ ends (read_said r)
valued_ends (Ok x) = refl
valued_ends (Err q) = refl

-- ---- bytes appended

next_kept : {A B : Type 0} (x y : Answer A) (f : A → ℕ → Answer B) (a : Answer B) → next x f ≡ a → Stays a → (Stays x → y ≡ x) → next y f ≡ a
next_kept (done v u) y f a e no3 same = rw (same (λ p q. not_both refl q)) e
next_kept (refused n p) y f a e no3 same = rw (same (λ m q. no3 m (sym e ∙ (let z : n ≡ 3 = cc in let o : p ≡ m = cc in cc)))) e

content_kept : (sh : Shape) (kind flags : ℕ) (s t : List ℕ) (a : Answer Record) → content sh kind flags s ≡ a → Stays a → content sh kind flags (s ++ t) ≡ a
content_kept nothing kind flags s t a e no3 = e
content_kept flag kind flags s t a e no3 = e
content_kept (integer w) kind flags s t a e no3 =
    next_kept (number s) (number (s ++ t)) (λ n used. done (value kind (narrowed w n) 0 flags) used) a e no3 (λ st. number_kept s t (number s) refl st)
content_kept (address n) kind flags s t a e no3 =
    ⊎_elim
    (λ h. absurd (no3 0 (sym e ∙ address_short kind flags s n h)))
    (λ h. address_whole kind flags (s ++ t) n (longer h) ∙ sym (address_whole kind flags s n h) ∙ e)
    (lt_or_le (length s) n)
  where
    longer : n ≤ length s → n ≤ length (s ++ t)
    longer h = simp length-append (omega arith)
content_kept text kind flags s t a e no3 =
    next_kept (string s) (string (s ++ t)) (λ p used. done (spanned kind flags p) used) a e no3 (λ st. string_kept s t (string s) refl st)
content_kept reserved kind flags s t a e no3 = e

-- Law: with bytes appended, every answer but 3 stays as it was: an accepted value, a 7 and an 8.
pub typed_kept : (s t : List ℕ) (a : Answer Record) → typed s ≡ a → Stays a → typed (s ++ t) ≡ a
typed_kept [] t a e no3 = absurd (no3 0 (sym e ∙ typed_none))
typed_kept (x ∷ s) t a e no3 =
    typed_some x (s ++ t)
    ∙ ap (behind moved 1) (content_kept (shape (x % 16)) (x % 16) (upper x) s t (content (shape (x % 16)) (x % 16) (upper x) s) refl (λ p q. no3 (1 + p) (sym e ∙ typed_some x s ∙ ap (behind moved 1) q)))
    ∙ sym (typed_some x s)
    ∙ e

-- in particular
not_three : {A : Type 0} (n place : ℕ) → (n ≡ 3 → ⊥) → Stays {A = A} (refused n place)
not_three n place h p e = h (refused_same e).0

pub string_accepted_kept : (s t : List ℕ) (start len used : ℕ) → string s ≡ done (span start len) used → string (s ++ t) ≡ done (span start len) used
string_accepted_kept s t start len used e = string_kept s t (done (span start len) used) e (λ p q. not_both refl q)

pub string_large_kept : (s t : List ℕ) (place : ℕ) → string s ≡ refused 7 place → string (s ++ t) ≡ refused 7 place
string_large_kept s t place e = string_kept s t (refused 7 place) e (not_three 7 place (λ h. omega arith))

pub typed_accepted_kept : (s t : List ℕ) (v : Record) (used : ℕ) → typed s ≡ done v used → typed (s ++ t) ≡ done v used
typed_accepted_kept s t v used e = typed_kept s t (done v used) e (λ p q. not_both refl q)

pub typed_large_kept : (s t : List ℕ) (place : ℕ) → typed s ≡ refused 7 place → typed (s ++ t) ≡ refused 7 place
typed_large_kept s t place e = typed_kept s t (refused 7 place) e (not_three 7 place (λ h. omega arith))

pub typed_unknown_kept : (s t : List ℕ) (place : ℕ) → typed s ≡ refused 8 place → typed (s ++ t) ≡ refused 8 place
typed_unknown_kept s t place e = typed_kept s t (refused 8 place) e (not_three 8 place (λ h. omega arith))
