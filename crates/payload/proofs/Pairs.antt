-- Laws about reading a pair: how it unrolls, what an accepted one says of the bytes, where it is refused, and the same of a pair that
-- stands at a place.
use Rattle.types.specs.declared.Span.{Span}
use mathlib.Core.Path.{◌≡◌, refl, sym, ap, ap₂, ◌∙◌}
use mathlib.Core.Bool.{Bool, true, false, cond}
use mathlib.Core.List.{List, []}
use Prim.Native.Nat.{ℕ, ◌+◌, ◌-◌, ◌≤◌, ◌<◌}
use native.Mathlib.Nat.{add-zero}
use native.Mathlib.Omega.{arith}
use lib.ListN.{length, drop, length-drop, drop_of_length-le}
use Rattle.answer.specs.Answer.{Answer, done, refused, behind}
use Rattle.answer.proofs.Cases.{not_both, answer_cases}
use Rattle.answer.proofs.Answers.{ends, done_same, refused_same}
use Rattle.varint.proofs.Reading.{number_none}
use Rattle.types.specs.Value.{span, string, Record, value, points, shape, moved, typed}
use Rattle.types.proofs.Reading.{string_refused, string_accepted, string_place, typed_accepted, typed_place}
use Rattle.types.proofs.Shapes.{points_yes}
use Rattle.frame.specs.declared.Pair.{Pair}
use Rattle.payload.specs.Pair.{pair_of, moved_pair, pair, pair_from}

-- ---- how it unrolls

module _ (s : List ℕ) where
  pub pair_key : (n place : ℕ) → string s ≡ refused n place → pair s ≡ refused n place
  unfolding pair
  pair_key n place e = rw e

  module _ (start len used : ℕ) (key : string s ≡ done (span start len) used) where
    pub pair_value : (n place : ℕ) → typed (drop used s) ≡ refused n place → pair s ≡ refused n (used + place)
    unfolding pair
    pair_value n place e = rw (key, e)

    pub pair_whole : (v : Record) (n : ℕ) → typed (drop used s) ≡ done v n → pair s ≡ done (pair_of (span start len) (moved used v)) (used + n)
    unfolding pair
    pair_whole v n e = rw (key, e)

  -- a law about a pair goes by its key and its value
  pub pair_cases : {G : Type 0}
      → ((n place : ℕ) → string s ≡ refused n place → G)
      → ((start len used : ℕ) → string s ≡ done (span start len) used → (n place : ℕ) → typed (drop used s) ≡ refused n place → G)
      → ((start len used : ℕ) → string s ≡ done (span start len) used → (kind a b f n : ℕ) → typed (drop used s) ≡ done (value kind a b f) n → G)
      → G
  pair_cases {G} bad-key bad-value whole = go (string s) refl
    where
      after_key : (start len used : ℕ) → string s ≡ done (span start len) used → (x : Answer Record) → typed (drop used s) ≡ x → G
      after_key start len used key (done (value kind a b f) n) e = whole start len used key kind a b f n e
      after_key start len used key (refused n place) e = bad-value start len used key n place e

      go : (x : Answer Span) → string s ≡ x → G
      go (done x used) key = after_key x.start x.len used key (typed (drop used s)) refl
      go (refused n place) e = bad-key n place e

-- ---- what an accepted pair says of the bytes

-- The pair takes at least two bytes and no more than are there; its key lies inside them, behind its length number, and so does its value where it
-- points.
pub record Inside (there : ℕ) (p : Pair) (used : ℕ) : Type 0 where
  pub some : 2 ≤ used
  pub most : used ≤ there
  pub first : 1 ≤ p.start
  pub key : p.start + p.len ≤ used
  pub value : 6 ≤ p.value.kind → p.value.kind < 10 → p.value.a + p.value.b ≤ used

-- Law: every accepted pair is so.
pub pair_accepted : (s : List ℕ) (p : Pair) (used : ℕ) → pair s ≡ done p used → Inside (length s) p used
pair_accepted s p used e =
    pair_cases s
    (λ n place r. not_both e (pair_key s n place r))
    (λ start len u key n place r. not_both e (pair_value s start len u key n place r))
    (λ start len u key kind a b f n d.
    let is = done_same (sym (pair_whole s start len u key (value kind a b f) n d) ∙ e) in
    rw (sym is.0, sym is.1) (found start len u key kind a b f n d))
  where
    found : (start len u : ℕ) → string s ≡ done (span start len) u → (kind a b f n : ℕ) → typed (drop u s) ≡ done (value kind a b f) n
        → Inside (length s) (pair_of (span start len) (moved u (value kind a b f))) (u + n)
    found start len u key kind a b f n d =
        let k = string_accepted s start len u key in
        let v = typed_accepted (drop u s) kind a b f n d in
        record {
          some = omega arith;
          most = omega (arith, length-drop u s);
          first = omega arith;
          key = omega arith;
          value = λ h l. rw (points_yes kind h l) (let o = v.4 (points_yes kind h l) in omega arith);
        }

-- Law: a pair is refused at a place within the bytes, their end included.
pub pair_place : (s : List ℕ) (n place : ℕ) → pair s ≡ refused n place → place ≤ length s
pair_place s n place e =
    pair_cases s
    (λ m q r. let one = refused_same (sym (pair_key s m q r) ∙ e) in omega (arith, string_place s m q r))
    (λ start len u key m q r.
    let one = refused_same (sym (pair_value s start len u key m q r) ∙ e) in
    omega (arith, typed_place (drop u s) m q r, string_accepted s start len u key, length-drop u s))
    (λ start len u key kind a b f m d. not_both (pair_whole s start len u key (value kind a b f) m d) e)

pub pair_ends : (s : List ℕ) → ends (pair s) ≤ length s
pair_ends s =
    answer_cases (pair s)
    (λ p used e. rw e (pair_accepted s p used e).most)
    (λ n place e. rw e (pair_place s n place e))

-- ---- the pair that stands at a place

module _ (s : List ℕ) (at : ℕ) (there : at ≤ length s) where
  pub from_none : (n place : ℕ) → pair (drop at s) ≡ refused n place → (pair_from at s ≡ refused n (at + place)) × (at + place ≤ length s)
  from_none n place e = (ap (behind moved_pair at) e, omega (arith, pair_place (drop at s) n place e, length-drop at s))

  pub from_some : (p : Pair) (used : ℕ) → pair (drop at s) ≡ done p used → (pair_from at s ≡ done (moved_pair at p) (at + used)) × Inside (length s - at) p used
  from_some p used e = (ap (behind moved_pair at) e, rw (length-drop at s) at (pair_accepted (drop at s) p used e))

-- Law: none stands behind the end.
pub from_past : (s : List ℕ) (at : ℕ) → length s ≤ at → pair_from at s ≡ refused 3 at
from_past s at h =
    ap (λ (t : List ℕ). behind moved_pair at (pair t)) (drop_of_length-le s h)
    ∙ ap (behind moved_pair at) (pair_key [] 3 0 (string_refused [] 3 0 number_none))
    ∙ ap (refused 3) (add-zero at)

-- Law: one that stands at a place takes at least two bytes behind it, and no more than are there; its key starts behind the place and ends before it does.
pub record Lies (there at : ℕ) (p : Pair) (end : ℕ) : Type 0 where
  pub some : 2 + at ≤ end
  pub most : end ≤ there
  pub first : at < p.start
  pub key : p.start + p.len ≤ end

pub from_lies : (s : List ℕ) (at : ℕ) (p : Pair) (end : ℕ) → pair_from at s ≡ done p end → Lies (length s) at p end
from_lies s at p end e =
    answer_cases (pair (drop at s))
    (λ q used d.
    let i = pair_accepted (drop at s) q used d in
    let o = done_same (sym (ap (behind moved_pair at) d) ∙ e) in
    let start : at + q.start ≡ p.start = ap (λ (x : Pair). x.start) o.0 in
    let len : q.len ≡ p.len = ap (λ (x : Pair). x.len) o.0 in
    let n = o.1 in
    record { some = omega arith; most = omega (arith, length-drop at s); first = omega arith; key = omega arith })
    (λ n place r. not_both e (ap (behind moved_pair at) r))

-- Law: moving a pair twice moves it by both.
pub moved_twice : (m n : ℕ) (p : Pair) → moved_pair m (moved_pair n p) ≡ moved_pair (m + n) p
moved_twice m n p = twice (points (shape p.value.kind))
  where
    key : m + (n + p.start) ≡ m + n + p.start
    key = omega arith

    twice : (y : Bool)
        → pair_of (span (m + (n + p.start)) p.len) (value p.value.kind (cond y (m + cond y (n + p.value.a) p.value.a) (cond y (n + p.value.a) p.value.a)) p.value.b p.value.flags)
        ≡ pair_of (span (m + n + p.start) p.len) (value p.value.kind (cond y (m + n + p.value.a) p.value.a) p.value.b p.value.flags)
    twice true =
        let a : m + (n + p.value.a) ≡ m + n + p.value.a = omega arith in
        ap₂ (λ (x y : ℕ). pair_of (span x p.len) (value p.value.kind y p.value.b p.value.flags)) key a
    twice false = ap (λ (x : ℕ). pair_of (span x p.len) (value p.value.kind p.value.a p.value.b p.value.flags)) key
