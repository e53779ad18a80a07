-- `writer::notify::write_notify` meets its contract: the metadata, both counts, the messages and then the pairs one by one, and then the
-- frame, whose payload has the bytes of all names and of all pairs.
use borrow.Author.Rules.{rules}
use Rattle.std.proofs.Common.{◌≡◌, true, false, not, ◌||◌, List, ℕ, ◌+◌, ◌<◌, ◌^◌, eqb, length, sym, ap, ◌∙◌, Ok, Err, arith}
use borrow.Author.Tests.{eq-eqb, ne_eqb}
use Rattle.std.proofs.lemmas.Result.{err_from_is_err_and}
use Rattle.answer.specs.declared.Reason.TheVariants as reason
use Rattle.answer.specs.declared.Refusal.{Refusal}
use Rattle.answer.specs.Answer.{Answer}
use Rattle.answer.specs.Order.{each_in_order}
use Rattle.answer.specs.Table.{records, joined}
use Rattle.answer.specs.Inner.{Sound}
use Rattle.answer.specs.Writes.{refusal_said, Writes}
use Rattle.answer.proofs.Cases.{bool_cases}
use Rattle.answer.proofs.Output.{writes_refusal}
use Rattle.answer.proofs.Order.{each_pass}
use Rattle.frame.specs.declared.Head.{Head}
use Rattle.frame.specs.Records.{message_width, message_at, pair_width}
use Rattle.writer.specs.Message.{name_bytes}
use Rattle.writer.specs.Frame.{head_of, fin_alone, limited, pairs_bytes, messages_bytes, notify_answer}
use Rattle.writer.specs.Inner.{capped, pair_order, message_order, Ready, Counted}
use Rattle.writer.proofs.Capped.{capped_left, capped_right, capped_most}
use Rattle.writer.proofs.Messages.{all_ready, runs_inside, payload_length}
use Rattle.writer.proofs.Answers.{notify_arguments, notify_metadata, notify_messages, notify_pairs, notify_stray, notify_held, notify_passed}
use Rattle.writer.proofs.notify.write_notify.Goals as goal
use Rattle.writer.proofs.notify.write_notify.Goals.{else-count-eq0-via-then-count-eq0+else-argument_count-ne0, else-count-eq0-via-else-count-eq0}

-- the fourth test, as the order has it
stray_pairs : (n m : ℕ) → n ≡ 0 → (m ≡ 0 → ⊥) → not (eqb n 0) || eqb m 0 ≡ false
stray_pairs n m e ne = rw (eq-eqb n 0 e, ne_eqb m 0 ne)

no_pairs : (n m : ℕ) → m ≡ 0 → not (eqb n 0) || eqb m 0 ≡ true
no_pairs n m e = rw (eq-eqb m 0 e) (bool_cases (eqb n 0) (λ t. rw t) (λ t. rw t))

some_message : (n m : ℕ) → (n ≡ 0 → ⊥) → not (eqb n 0) || eqb m 0 ≡ true
some_message n m ne = rw (ne_eqb n 0 ne)

-- what the writer says, by what it asks in turn
module _ (h : Head) (limit : ℕ) (buffer messages : List ℕ) (count : ℕ) (pairs : List ℕ) (total : ℕ) (old : List ℕ) where
  abbrev answer : Answer (List ℕ)
  answer = notify_answer h limit buffer messages count pairs total

  unwritable : fin_alone h ≡ false → {r : Refusal} → r ≡ record { reason = reason.NotWritable; place = 0 } → Writes answer (Err r) old old
  unwritable e {r} f = writes_refusal r old (notify_metadata h limit buffer messages count pairs total e ∙ sym (ap refusal_said f))

  module _ (e : fin_alone h ≡ true) where
    no_messages : {r : Refusal} → Counted messages message_width count (Err r) → Writes answer (Err r) old old
    no_messages {r} c = writes_refusal r old (notify_messages h limit buffer messages count pairs total e c.0 ∙ sym c.1)

    module _ {n : ℕ} (c : Counted messages message_width count (Ok n)) where
      no_arguments : {r : Refusal} → Counted pairs pair_width total (Err r) → Writes answer (Err r) old old
      no_arguments {r} d = writes_refusal r old (notify_pairs h limit buffer messages count pairs total e c.1 d.0 ∙ sym d.1)

      module _ {m : ℕ} (d : Counted pairs pair_width total (Ok m)) where
        stray : n ≡ 0 → (m ≡ 0 → ⊥) → {r : Refusal} → r ≡ record { reason = reason.NotWritable; place = 0 } → Writes answer (Err r) old old
        stray z ne {r} f =
            writes_refusal r old (notify_stray h limit buffer messages count pairs total e c.1 d.1 (stray_pairs count total (sym c.0 ∙ z) (λ t. ne (d.0 ∙ t))) ∙ sym (ap refusal_said f))

        module _ (s : not (eqb n 0) || eqb m 0 ≡ true) where
          all_named : not (eqb count 0) || eqb total 0 ≡ true
          all_named = rw (c.0, d.0) at s

          message_refused : {r : Refusal} → ((a : Answer (List ℕ)) → each_in_order (message_order buffer total messages n) 0 n a ≡ refusal_said r) → Writes answer (Err r) old old
          message_refused {r} f = writes_refusal r old (notify_held h limit buffer messages count pairs total e c.1 d.1 all_named ∙ (rw c.0 at (f (notify_arguments h limit buffer messages count pairs total))))

          module _ (sound : Sound (message_order buffer total messages n) n) where
            named : Sound (message_order buffer total messages count) count
            named = rw c.0 at sound

            pair_refused : {r : Refusal} → ((a : Answer (List ℕ)) → each_in_order (pair_order buffer pairs) 0 m a ≡ refusal_said r) → Writes answer (Err r) old old
            pair_refused {r} f =
                writes_refusal r old
                (notify_held h limit buffer messages count pairs total e c.1 d.1 all_named ∙ each_pass _ _ _ named ∙ (rw d.0 at (f (limited limit h (messages_bytes buffer messages count pairs)))))

            module _ (passed : Sound (pair_order buffer pairs) m) where
              given : Sound (pair_order buffer pairs) total
              given = rw d.0 at passed

              accepted : answer ≡ limited limit h (messages_bytes buffer messages count pairs)
              accepted = notify_passed h limit buffer messages count pairs total e c.1 d.1 all_named named given

              ready : total < 2 ^ 64 → (i : ℕ) → i < n → let r = message_at messages i in Ready buffer pairs r × (r.first + r.count < 2 ^ 64)
              ready few i l =
                  (all_ready buffer messages pairs count total named given i (omega (arith, c.0)), omega (arith, runs_inside buffer total messages count named i (omega (arith, c.0))))

              long : {k l s : ℕ} → k ≡ capped limit (length (joined (name_bytes buffer) (records (message_at messages) 0 n))) → l ≡ capped limit (length (pairs_bytes buffer pairs m))
                  → s ≡ capped limit (k + l) → s ≡ capped limit (length (messages_bytes buffer messages n pairs))
              long {k} {l} {s} ek el es =
                  let a = length (joined (name_bytes buffer) (records (message_at messages) 0 n)) in
                  let b = length (pairs_bytes buffer pairs m) in
                  let whole : length (messages_bytes buffer messages n pairs) ≡ a + b =
                  rw (c.0, d.0) (payload_length buffer total messages count named pairs all_named) in
                  es
                  ∙ ap (λ (x : ℕ). capped limit (x + l)) ek
                  ∙ capped_left limit a l
                  ∙ ap (λ (x : ℕ). capped limit (a + x)) el
                  ∙ capped_right limit a b
                  ∙ ap (capped limit) (sym whole)

pub returns-then-not-fin_alone : goal.returns-then-not-fin_alone
returns-then-not-fin_alone c =
    let a = c.args in
    unwritable (head_of 3 a.fin a.abort a.stream_id a.frame_id) a.limit a.buffer.now a.messages.now a.message_count a.pairs.now a.pair_count a.out.now
    (search rules) c.at.ensures

pub returns-in_err-count : goal.returns-in_err-count
returns-in_err-count c =
    let a = c.args in
    let p = err_from_is_err_and c.from_residual.result c.from_residual.ensures.1 in
    rw (p.1, p.2)
    (no_messages (head_of 3 a.fin a.abort a.stream_id a.frame_id) a.limit a.buffer.now a.messages.now a.message_count a.pairs.now a.pair_count a.out.now
    (search rules) c.in_err-count.ensures)

pub returns-in_err-argument_count : goal.returns-in_err-argument_count
returns-in_err-argument_count c =
    let a = c.args in
    let r = c.from_residual-in_err-argument_count in
    let p = err_from_is_err_and r.result r.ensures.1 in
    rw (p.1, p.2)
    (no_arguments (head_of 3 a.fin a.abort a.stream_id a.frame_id) a.limit a.buffer.now a.messages.now a.message_count a.pairs.now a.pair_count a.out.now
    (search rules) c.in_ok-count.ensures c.in_err-argument_count.ensures)

pub returns-then-argument_count-ne0 : goal.returns-then-argument_count-ne0
returns-then-argument_count-ne0 c =
    let a = c.args in
    stray (head_of 3 a.fin a.abort a.stream_id a.frame_id) a.limit a.buffer.now a.messages.now a.message_count a.pairs.now a.pair_count a.out.now
    (search rules) c.in_ok-count.ensures c.in_ok-argument_count.ensures c.if-count-eq0.true c.if-argument_count-ne0.true c.at-then-argument_count-ne0.ensures

pub returns-in_err-named : goal.returns-in_err-named
returns-in_err-named c =
    let a = c.args in
    let r = c.from_residual-in_err-named in
    let p = err_from_is_err_and r.result r.ensures.1 in
    let s : not (eqb c.in_ok-count.count 0) || eqb c.in_ok-argument_count.argument_count 0 ≡ true = elim c.else-count-eq0.branch [
      | else-count-eq0-via-then-count-eq0+else-argument_count-ne0 w ↦ no_pairs _ _ w.if-argument_count-ne0.false
      | else-count-eq0-via-else-count-eq0 w ↦ some_message _ _ w.if-count-eq0.false
    ] in
    rw (p.1, p.2)
    (message_refused (head_of 3 a.fin a.abort a.stream_id a.frame_id) a.limit a.buffer.now a.messages.now a.message_count a.pairs.now a.pair_count a.out.now
    (search rules) c.in_ok-count.ensures c.in_ok-argument_count.ensures s c.in_err-named.ensures)

pub returns-in_err-given : goal.returns-in_err-given
returns-in_err-given c =
    let a = c.args in
    let r = c.from_residual-in_err-given in
    let p = err_from_is_err_and r.result r.ensures.1 in
    let s : not (eqb c.in_ok-count.count 0) || eqb c.in_ok-argument_count.argument_count 0 ≡ true = elim c.else-count-eq0.branch [
      | else-count-eq0-via-then-count-eq0+else-argument_count-ne0 w ↦ no_pairs _ _ w.if-argument_count-ne0.false
      | else-count-eq0-via-else-count-eq0 w ↦ some_message _ _ w.if-count-eq0.false
    ] in
    rw (p.1, p.2)
    (pair_refused (head_of 3 a.fin a.abort a.stream_id a.frame_id) a.limit a.buffer.now a.messages.now a.message_count a.pairs.now a.pair_count a.out.now
    (search rules) c.in_ok-count.ensures c.in_ok-argument_count.ensures s c.in_ok-named.ensures.0 c.in_err-given.ensures)

pub overflow_add-named : goal.overflow_add-named
overflow_add-named c =
    let a = c.args in
    omega (
      arith,
      c.in_ok-named.ensures.1,
      c.in_ok-given.ensures.1,
      capped_most a.limit (length (joined (name_bytes a.buffer.now) (records (message_at a.messages.now) 0 c.in_ok-count.count))),
      capped_most a.limit (length (pairs_bytes a.buffer.now a.pairs.now c.in_ok-argument_count.argument_count)),
      c.ranges,
    )

pub write_frame-requires-clause-ready : goal.write_frame-requires-clause-ready
write_frame-requires-clause-ready c =
    let a = c.args in
    let s : not (eqb c.in_ok-count.count 0) || eqb c.in_ok-argument_count.argument_count 0 ≡ true = elim c.else-count-eq0.branch [
      | else-count-eq0-via-then-count-eq0+else-argument_count-ne0 w ↦ no_pairs _ _ w.if-argument_count-ne0.false
      | else-count-eq0-via-else-count-eq0 w ↦ some_message _ _ w.if-count-eq0.false
    ] in
    ready (head_of 3 a.fin a.abort a.stream_id a.frame_id) a.limit a.buffer.now a.messages.now a.message_count a.pairs.now a.pair_count a.out.now
    (search rules) c.in_ok-count.ensures c.in_ok-argument_count.ensures s c.in_ok-named.ensures.0 c.in_ok-given.ensures.0 (omega (arith, c.ranges))

pub write_frame-requires-clause-len_value : goal.write_frame-requires-clause-len_value
write_frame-requires-clause-len_value c =
    let a = c.args in
    let s : not (eqb c.in_ok-count.count 0) || eqb c.in_ok-argument_count.argument_count 0 ≡ true = elim c.else-count-eq0.branch [
      | else-count-eq0-via-then-count-eq0+else-argument_count-ne0 w ↦ no_pairs _ _ w.if-argument_count-ne0.false
      | else-count-eq0-via-else-count-eq0 w ↦ some_message _ _ w.if-count-eq0.false
    ] in
    long (head_of 3 a.fin a.abort a.stream_id a.frame_id) a.limit a.buffer.now a.messages.now a.message_count a.pairs.now a.pair_count a.out.now
    (search rules) c.in_ok-count.ensures c.in_ok-argument_count.ensures s c.in_ok-named.ensures.0 c.in_ok-given.ensures.0
    c.in_ok-named.ensures.1 c.in_ok-given.ensures.1 c.cap.ensures

pub returns : goal.returns
returns c =
    let a = c.args in
    let s : not (eqb c.in_ok-count.count 0) || eqb c.in_ok-argument_count.argument_count 0 ≡ true = elim c.else-count-eq0.branch [
      | else-count-eq0-via-then-count-eq0+else-argument_count-ne0 w ↦ no_pairs _ _ w.if-argument_count-ne0.false
      | else-count-eq0-via-else-count-eq0 w ↦ some_message _ _ w.if-count-eq0.false
    ] in
    rw (accepted (head_of 3 a.fin a.abort a.stream_id a.frame_id) a.limit a.buffer.now a.messages.now a.message_count a.pairs.now a.pair_count a.out.now
    (search rules) c.in_ok-count.ensures c.in_ok-argument_count.ensures s c.in_ok-named.ensures.0 c.in_ok-given.ensures.0)
    (rw (c.head_of-head.ensures, c.in_ok-count.ensures.0) at c.write_frame.ensures)
