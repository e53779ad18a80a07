-- `frame::read::read_head` meets its contract: the lines of the order, one after the other.
use Rattle.std.proofs.Common.{◌≡◌, refl, sym, ap, ap₂, ◌∙◌, Bool, true, false, List, ℕ, ◌+◌, ◌-◌, ◌/◌, ◌%◌, ◌^◌, ◌≤◌, ◌<◌, eqb, length, take, drop, get_or, Result, Ok, Err, arith}
use Rattle.answer.specs.declared.Read.{Read}
use Rattle.answer.specs.declared.Refusal.{Refusal}
use Rattle.std.proofs.lemmas.Result.{err_from_is_err_and}
use Rattle.answer.specs.Answer.{done, refused}
use Rattle.answer.specs.Reason.{number_of}
use Rattle.answer.specs.Table.{some}
use Rattle.answer.specs.Writes.{refusal_said, read_said, read_behind}
use Rattle.answer.proofs.Output.{lent_tail_lem}
use Rattle.answer.proofs.Answers.{behind_done, behind_refused}
use Rattle.answer.specs.Answer.{Answer}
use Rattle.answer.proofs.Answers.{ends, lent, lent_ends}
use Rattle.answer.proofs.Cases.{Stands, found}
use Rattle.varint.specs.Number.{number}
use Rattle.varint.proofs.Reading.{number_ends}
use Rattle.frame.specs.declared.Side.{Side}
use Rattle.frame.specs.declared.kind.FrameType.{FrameType}
use Rattle.frame.specs.Head.{four_number}
use Rattle.frame.specs.Kind.{number_of_type}
use Rattle.frame.specs.Read.{Sender, sender, head, fin_set}
use Rattle.frame.proofs.Heads.{Passed, sides, head_none, head_type, head_short, head_flags, head_abort, head_first, head_second, head_other, head_done}
use Rattle.frame.proofs.Types.{type_known}
use Rattle.frame.proofs.read.read_head.Goals as goal

type_of : (frame : List ℕ) {n : ℕ} → Stands frame 4 n → get_or frame 4 0 ≡ n
type_of frame byte = sym (byte.is 0)

-- Of a frame that has a type's number at its place.
module _ (frame : List ℕ) (side : Side) {n : ℕ} (byte : Stands frame 4 n) (t : FrameType) (is : number_of_type t ≡ n) where
  known : some (eqb (get_or frame 4 0)) (sender side).known ≡ true
  known = rw (type_of frame byte, (sides side).0) (type_known t n is)

  own : (q : Bool) → some (eqb (number_of_type t)) (sender side).own ≡ q → some (eqb (get_or frame 4 0)) (sender side).own ≡ q
  own q e = rw (type_of frame byte, ← is) e

  -- the flags that are read behind five bytes are the definition's
  module _ {f : ℕ} (read : f ≡ four_number (take (length frame - 5) (drop 5 frame))) where
    flags : f ≡ four_number (drop 5 frame)
    flags = read ∙ ap four_number (lent_tail_lem 5 frame)

    allowed : (q : Bool) → some (eqb f) fin_set ≡ q → some (eqb (four_number (drop 5 frame))) (sender side).flags ≡ q
    allowed q e = rw ((sides side).1, ← flags) e

    passed : 9 ≤ length frame → some (eqb f) fin_set ≡ true → f / 2 % 2 ≡ 0 → Passed (sender side) frame
    passed nine e none = record { long = nine; known = known; allowed = allowed true e; whole = rw (← flags) none }

-- Past the tests before them, the two numbers: the first is read behind nine bytes, and the second behind the first.
module _ (sent : Sender) (s : List ℕ) (pass : Passed sent s) (long : length s < 2 ^ 63) (r : Result (Read ℕ) Refusal)
    (says : read_said r ≡ number (take (length s - 9) (drop 9 s))) where
  bound : 9 + ends (read_said r) < 2 ^ 64
  bound = omega (arith, lent_ends number number_ends s 9 says pass.long)

  none : (y : Refusal) → Err y ≡ read_behind 9 r → refusal_said y ≡ head sent s
  none y e = let o = behind_refused 9 r e bound in ap (refused (number_of y.reason)) o.2 ∙ sym (head_first sent s pass _ _ (lent number s 9 says o.1))

  module _ (x : Read ℕ) (e : Ok x ≡ read_behind 9 r) where
    first : (used : ℕ) × (read_said r ≡ done x.value used) × (x.used ≡ 9 + used)
    first = behind_done 9 r e bound

    inside : x.used ≤ length s
    inside = let l = lent_ends number number_ends s 9 says pass.long in let m = rw (first.1) at l in omega (arith, first.2, m)

    module _ (q : Result (Read ℕ) Refusal) (then : read_said q ≡ number (take (length s - x.used) (drop x.used s))) where
      bound-then : x.used + ends (read_said q) < 2 ^ 64
      bound-then = omega (arith, lent_ends number number_ends s x.used then inside)

      place : {a : Answer ℕ} → read_said q ≡ a → number (drop (9 + first.0) s) ≡ a
      place is = ap (λ (n : ℕ). number (drop n s)) (sym (first.2)) ∙ lent number s x.used then is

      none-then : (y : Refusal) → Err y ≡ read_behind x.used q → refusal_said y ≡ head sent s
      none-then y f =
          let o = behind_refused x.used q f bound-then in
          ap (refused (number_of y.reason)) (o.2 ∙ ap (λ (n : ℕ). n + o.0) (first.2)) ∙ sym (head_second sent s pass _ _ (lent number s 9 says first.1) _ _ (place o.1))

      other : (y : Read ℕ) → Ok y ≡ read_behind x.used q → some (eqb (get_or s 4 0)) sent.own ≡ false → refused 6 4 ≡ head sent s
      other y f not =
          let o = behind_done x.used q f bound-then in
          sym (head_other sent s pass _ _ (lent number s 9 says first.1) _ _ (place o.1) not)

      both : (y : Read ℕ) → Ok y ≡ read_behind x.used q → some (eqb (get_or s 4 0)) sent.own ≡ true
          → done (record { frame_type = get_or s 4 0; flags = four_number (drop 5 s); stream = x.value; frame = y.value }) y.used ≡ head sent s
      both y f own =
          let o = behind_done x.used q f bound-then in
          ap (done (record { frame_type = get_or s 4 0; flags = four_number (drop 5 s); stream = x.value; frame = y.value })) (o.2 ∙ ap (λ (n : ℕ). n + o.0) (first.2)) ∙ sym (head_done sent s pass _ _ (lent number s 9 says first.1) _ _ (place o.1) own)

pub returns-in_default : goal.returns-in_default
returns-in_default c = ap refusal_said c.at.ensures ∙ sym (head_none _ _ (omega (arith, c.in_default.ensures.lookup.3)))

pub returns-in_default-try_from : goal.returns-in_default-try_from
returns-in_default-try_from c =
    let s = c.args.frame.now in
    let byte = found s 4 c.in-Some.ensures.lookup.3 refl in
    ap refusal_said c.at-in_default-try_from.ensures
    ∙ sym (head_type (sender c.args.side) s byte.here (rw ((sides c.args.side).0, ← byte.is 0) c.in_default-try_from.ensures.1))

pub returns-then-frame-lt9 : goal.returns-then-frame-lt9
returns-then-frame-lt9 c =
    let s = c.args.frame.now in
    let byte = found s 4 c.in-Some.ensures.lookup.3 refl in
    ap refusal_said c.at-then-frame-lt9.ensures
    ∙ sym (head_short (sender c.args.side) s byte.here (known s c.args.side byte c.in-Ok.frame_type c.in-Ok.ensures) c.if-frame-lt9.true)

pub returns-then-not-flags_allowed : goal.returns-then-not-flags_allowed
returns-then-not-flags_allowed c =
    let s = c.args.frame.now in
    let byte = found s 4 c.in-Some.ensures.lookup.3 refl in
    ap refusal_said c.at-then-not-flags_allowed.ensures
    ∙ sym
    (head_flags (sender c.args.side) s byte.here (known s c.args.side byte c.in-Ok.frame_type c.in-Ok.ensures) c.if-frame-lt9.false
    (allowed s c.args.side byte c.in-Ok.frame_type c.in-Ok.ensures c.four-flags.ensures false (sym c.if-not-flags_allowed.ensures)))

pub returns-then-flags-ne0 : goal.returns-then-flags-ne0
returns-then-flags-ne0 c =
    let s = c.args.frame.now in
    let byte = found s 4 c.in-Some.ensures.lookup.3 refl in
    ap refusal_said c.at-then-flags-ne0.ensures
    ∙ sym
    (head_abort (sender c.args.side) s byte.here (known s c.args.side byte c.in-Ok.frame_type c.in-Ok.ensures) c.if-frame-lt9.false
    (allowed s c.args.side byte c.in-Ok.frame_type c.in-Ok.ensures c.four-flags.ensures true (sym c.if-not-flags_allowed.ensures))
    (rw (← flags s c.args.side byte c.in-Ok.frame_type c.in-Ok.ensures c.four-flags.ensures) c.if-flags-ne0.true))

pub returns-in_err-stream : goal.returns-in_err-stream
returns-in_err-stream c =
    let s = c.args.frame.now in
    let byte = found s 4 c.in-Some.ensures.lookup.3 refl in
    let pass = passed s c.args.side byte c.in-Ok.frame_type c.in-Ok.ensures c.four-flags.ensures c.if-frame-lt9.false (sym c.if-not-flags_allowed.ensures) c.if-flags-ne0.false in
    let p = err_from_is_err_and c.from_residual.result c.from_residual.ensures.1 in
    rw (p.1, p.2) (none (sender c.args.side) s pass (omega (arith, c.well_formed)) c.decode_varint.result c.decode_varint.ensures.says _ c.in_err-stream.ensures)

pub slice_bounds-decode_varint-count-2 : goal.slice_bounds-decode_varint-count-2
slice_bounds-decode_varint-count-2 c =
    let s = c.args.frame.now in
    let byte = found s 4 c.in-Some.ensures.lookup.3 refl in
    let pass = passed s c.args.side byte c.in-Ok.frame_type c.in-Ok.ensures c.four-flags.ensures c.if-frame-lt9.false (sym c.if-not-flags_allowed.ensures) c.if-flags-ne0.false in
    inside (sender c.args.side) s pass (omega (arith, c.well_formed)) c.decode_varint.result c.decode_varint.ensures.says _ c.in_ok-stream.ensures

pub slice_bounds-decode_varint-start-2 : goal.slice_bounds-decode_varint-start-2
slice_bounds-decode_varint-start-2 c = slice_bounds-decode_varint-count-2 c

pub returns-in_err-id : goal.returns-in_err-id
returns-in_err-id c =
    let s = c.args.frame.now in
    let byte = found s 4 c.in-Some.ensures.lookup.3 refl in
    let pass = passed s c.args.side byte c.in-Ok.frame_type c.in-Ok.ensures c.four-flags.ensures c.if-frame-lt9.false (sym c.if-not-flags_allowed.ensures) c.if-flags-ne0.false in
    let p = err_from_is_err_and c.from_residual-in_err-id.result c.from_residual-in_err-id.ensures.1 in
    rw (p.1, p.2)
    (none-then (sender c.args.side) s pass (omega (arith, c.well_formed)) c.decode_varint.result c.decode_varint.ensures.says _ c.in_ok-stream.ensures
    c.decode_varint-2.result c.decode_varint-2.ensures.says _ c.in_err-id.ensures)

pub returns-then-not-is_sent_by : goal.returns-then-not-is_sent_by
returns-then-not-is_sent_by c =
    let s = c.args.frame.now in
    let byte = found s 4 c.in-Some.ensures.lookup.3 refl in
    let pass = passed s c.args.side byte c.in-Ok.frame_type c.in-Ok.ensures c.four-flags.ensures c.if-frame-lt9.false (sym c.if-not-flags_allowed.ensures) c.if-flags-ne0.false in
    ap refusal_said c.at-then-not-is_sent_by.ensures
    ∙ other (sender c.args.side) s pass (omega (arith, c.well_formed)) c.decode_varint.result c.decode_varint.ensures.says _ c.in_ok-stream.ensures
    c.decode_varint-2.result c.decode_varint-2.ensures.says _ c.in_ok-id.ensures (own s c.args.side byte c.in-Ok.frame_type c.in-Ok.ensures false (sym c.if-not-is_sent_by.ensures))

pub returns : goal.returns
returns c =
    let s = c.args.frame.now in
    let byte = found s 4 c.in-Some.ensures.lookup.3 refl in
    let pass = passed s c.args.side byte c.in-Ok.frame_type c.in-Ok.ensures c.four-flags.ensures c.if-frame-lt9.false (sym c.if-not-flags_allowed.ensures) c.if-flags-ne0.false in
    ap₂ (λ (n f : ℕ). done (record { frame_type = n; flags = f; stream = c.in_ok-stream.stream.value; frame = c.in_ok-id.id.value }) c.in_ok-id.id.used)
    (sym (type_of s byte)) (flags s c.args.side byte c.in-Ok.frame_type c.in-Ok.ensures c.four-flags.ensures)
    ∙ both (sender c.args.side) s pass (omega (arith, c.well_formed)) c.decode_varint.result c.decode_varint.ensures.says _ c.in_ok-stream.ensures
    c.decode_varint-2.result c.decode_varint-2.ensures.says _ c.in_ok-id.ensures (own s c.args.side byte c.in-Ok.frame_type c.in-Ok.ensures true (sym c.if-not-is_sent_by.ensures))
