-- `payload::pair::read_pair` meets its contract: the key's refusal, the value's behind the key, or both.
use Rattle.std.proofs.Common.{◌≡◌, ◌∙◌, sym, ap, arith, ℕ, ◌+◌, ◌-◌, ◌^◌, ◌<◌, ◌≤◌, List, length, take, drop, Result, Ok}
use lib.ListN.{length-drop}
use Rattle.answer.specs.declared.Read.{Read}
use Rattle.answer.specs.declared.Refusal.{Refusal}
use Rattle.answer.specs.Writes.{read_behind}
use Rattle.types.specs.declared.Value.{Value}
use Rattle.std.proofs.lemmas.Result.{err_from_is_err_and}
use Rattle.answer.specs.Answer.{done, refused}
use Rattle.answer.specs.Reason.{number_of}
use Rattle.answer.proofs.Answers.{at_done, at_refused, at_fits}
use Rattle.types.specs.Value.{span, string, Record, typed}
use Rattle.types.specs.Promise.{record_of, value_said}
use Rattle.types.proofs.Reading.{string_accepted, typed_accepted, typed_ends, valued}
use Rattle.types.proofs.Shapes.{points_yes}
use Rattle.payload.specs.Pair.{pair_of}
use Rattle.payload.proofs.Pairs.{pair_key, pair_value, pair_whole}
use Rattle.payload.proofs.pair.read_pair.Goals as goal

pub returns-in_err-key : goal.returns-in_err-key
returns-in_err-key c =
    let p = err_from_is_err_and c.from_residual.result c.from_residual.ensures.1 in
    rw (p.1, p.2) (sym (pair_key c.args.input.now _ _ (sym c.in_err-key.ensures)))

pub slice_bounds-typed_data-count : goal.slice_bounds-typed_data-count
slice_bounds-typed_data-count c = (string_accepted c.args.input.now _ _ _ (sym c.in_ok-key.ensures)).1

pub slice_bounds-typed_data-start : goal.slice_bounds-typed_data-start
slice_bounds-typed_data-start c = slice_bounds-typed_data-count c

pub behind-requires : goal.behind-requires
behind-requires c =
    let s = c.args.input.now in
    at_fits value_said record_of valued typed typed_ends s c.in_ok-key.field-0.used (string_accepted s _ _ _ (sym c.in_ok-key.ensures)).1 (omega (arith, c.well_formed))
    c.typed_data.result c.typed_data.ensures

pub returns-in_err-value : goal.returns-in_err-value
returns-in_err-value c =
    let s = c.args.input.now in
    let key = sym c.in_ok-key.ensures in
    let p = err_from_is_err_and c.from_residual-in_err-value.result c.from_residual-in_err-value.ensures.1 in
    let o =
    at_refused value_said record_of valued typed typed_ends s c.in_ok-key.field-0.used (string_accepted s _ _ _ key).1 (omega (arith, c.well_formed))
    c.typed_data.result c.typed_data.ensures c.in_err-value.ensures in
    rw (p.1, p.2) (ap (refused (number_of c.in_err-value.field-0.0.reason)) o.2 ∙ sym (pair_value s _ _ c.in_ok-key.field-0.used key _ _ o.1))

-- the value, behind the key
found : (s : List ℕ) {start len used : ℕ} (key : string s ≡ done (span start len) used) (long : length s < 2 ^ 63) (r : Result (Read Value) Refusal)
    → value_said r ≡ typed (take (length s - used) (drop used s)) → {x : Read Value} → Ok x ≡ read_behind used r
    → (n : ℕ) × (typed (drop used s) ≡ done (record_of x.value) n) × (x.used ≡ used + n) × (x.used ≤ length s)
found s {used = used} key long r says {x} e =
    at_done value_said record_of valued typed typed_ends s used (string_accepted s _ _ _ key).1 long r says e

pub moved_value-requires : goal.moved_value-requires
moved_value-requires c h l =
    let s = c.args.input.now in
    let o = found s (sym c.in_ok-key.ensures) (omega (arith, c.well_formed)) c.typed_data.result c.typed_data.ensures c.in_ok-value.ensures in
    let v = typed_accepted _ _ _ _ _ _ o.1 in
    omega (arith, v.4 (points_yes _ h l), v.1, o.2, o.3, length-drop c.in_ok-key.field-0.used s, c.well_formed)

pub returns : goal.returns
returns c =
    let s = c.args.input.now in
    let key = sym c.in_ok-key.ensures in
    let o = found s key (omega (arith, c.well_formed)) c.typed_data.result c.typed_data.ensures c.in_ok-value.ensures in
    rw o.2
    (ap (λ (v : Record). done (pair_of c.in_ok-key.field-0.value v) (c.in_ok-key.field-0.used + o.0)) c.moved_value.ensures
    ∙ sym (pair_whole s _ _ c.in_ok-key.field-0.used key _ _ o.1))
