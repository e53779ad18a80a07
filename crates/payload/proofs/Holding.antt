-- Laws the other way round: what stands in a row to the end of the bytes, with room for it, is what the payload comes to; so it comes to the same in all tables that have room for it.
use mathlib.Core.Path.{◌≡◌, refl, sym, ap, subst, ◌∙◌}
use mathlib.Core.Bool.{true, false}
use mathlib.Core.List.{List, [], ◌∷◌, ◌++◌}
use Prim.Native.Nat.{ℕ, ◌+◌, ◌≤◌, ◌<◌}
use native.Mathlib.Omega.{arith}
use lib.ListN.{length, length-append, length-map}
use borrow.Author.Tests.{le-leb}
use Rattle.answer.specs.Answer.{done}
use Rattle.answer.specs.Order.{in_order}
use Rattle.answer.specs.Row.{so_many, to_end}
use Rattle.answer.specs.Inner.{InRow}
use Rattle.frame.specs.declared.Pair.{Pair}
use Rattle.frame.specs.declared.Message.{Message}
use Rattle.frame.specs.declared.Action.{Action}
use Rattle.payload.specs.declared.Counts.{Counts}
use Rattle.payload.specs.declared.Payload.{Payload}
use Rattle.payload.specs.declared.Payload.TheVariants as k
use Rattle.payload.specs.Action.{action_from}
use Rattle.payload.specs.Payload.{Contents, empty, with_message, with_pair, with_action, one_pair, one_message, one_action, one_of, payload}
use Rattle.payload.specs.Promise.{counts_of}
use Rattle.payload.specs.Inner.{Run}
use Rattle.payload.proofs.Rows.{from_next, run_on}
use Rattle.payload.proofs.Actions.{action_next}
use Rattle.payload.proofs.Steps.{message_next, pair_taken, message_taken, action_taken}
use Rattle.answer.proofs.Row.{Row, Reads, reads_on, many_so, end_so}
use Rattle.payload.proofs.Kept.{Within}
use Rattle.payload.proofs.Accepted.{payload_all, kv_run, messages_run, actions_run, with_group, Group, Once, put_pairs, put_actions, pairs_of, messages_of, put_groups}

module _ (rooms : Counts) (s : List ℕ) where
  -- each of them is read
  kv_reads : (c : Contents) (at : ℕ) (ps : List Pair) (end : ℕ) → Run s at ps end → Once s c.pairs ps → length c.pairs + length ps ≤ rooms.pairs
      → Reads (one_pair rooms s true) with_pair c at ps end
  kv_reads c at [] end r o h = r
  kv_reads c at (p ∷ ps) end r o h = (
    r.0,
    pair_taken rooms s c at true p r.0 r.1 o.0 (omega arith),
    omega (arith, from_next s at p r.0 r.1),
    kv_reads (with_pair c p) r.0 ps end r.2 o.1 (omega (arith, length-append c.pairs (p ∷ []))),
  )

  argument_reads : (c : Contents) (at : ℕ) (ps : List Pair) (end : ℕ) → Run s at ps end → length c.pairs + length ps ≤ rooms.pairs
      → Reads (one_pair rooms s false) with_pair c at ps end
  argument_reads c at [] end r h = r
  argument_reads c at (p ∷ ps) end r h = (
    r.0,
    pair_taken rooms s c at false p r.0 r.1 refl (omega arith),
    omega (arith, from_next s at p r.0 r.1),
    argument_reads (with_pair c p) r.0 ps end r.2 (omega (arith, length-append c.pairs (p ∷ []))),
  )

  action_reads : (c : Contents) (at : ℕ) (xs : List Action) (end : ℕ) → InRow (λ n. action_from n s) at xs end → length c.actions + length xs ≤ rooms.actions
      → Reads (one_action rooms s) with_action c at xs end
  action_reads c at [] end r h = r
  action_reads c at (x ∷ xs) end r h = (
    r.0,
    action_taken rooms s c at x r.0 r.1 (omega arith),
    (action_next s at x r.0 r.1).0,
    action_reads (with_action c x) r.0 xs end r.2 (omega (arith, length-append c.actions (x ∷ []))),
  )

  -- a message with its arguments
  group_read : (c : Contents) (at : ℕ) (g : Message × List Pair) (to : ℕ × ℕ) → Group s (at, length c.pairs) g to → length c.messages < rooms.messages
      → length c.pairs + length g.1 ≤ rooms.pairs → one_message rooms s c at ≡ done (with_group c g) to.0
  group_read c at g to x h l =
      message_taken rooms s c at g.0 x.place x.message h
      ∙ ap (λ (n : ℕ). so_many (one_pair rooms s false) n (with_message c g.0) x.place) (sym x.many)
      ∙ many_so (one_pair rooms s false) with_pair (with_message c g.0) x.place g.1 to.0 (argument_reads (with_message c g.0) x.place g.1 to.0 x.run l)
      ∙ ap (λ (d : Contents). done d to.0) (put_pairs (with_message c g.0) g.1)

  group_reads : (c : Contents) (at : ℕ) (gs : List (Message × List Pair)) (to : ℕ × ℕ) → Row (Group s) (at, length c.pairs) gs to
      → length c.messages + length gs ≤ rooms.messages → length c.pairs + length (pairs_of gs) ≤ rooms.pairs → Reads (one_message rooms s) with_group c at gs to.0
  group_reads c at [] to r h l = ap (λ (p : ℕ × ℕ). p.0) r
  group_reads c at (g ∷ gs) to r h l =
      let x = r.1 in
      let both = length-append g.1 (pairs_of gs) in
      let pairs : r.0.1 ≡ length (c.pairs ++ g.1) = sym x.pairs ∙ sym (length-append c.pairs g.1) in (
        r.0.0,
        group_read c at g r.0 x (omega arith) (omega arith),
        omega (arith, message_next (length c.pairs) at s g.0 x.place x.message, run_on s x.place g.1 r.0.0 x.run),
        group_reads (with_group c g) r.0.0 gs to (subst (λ (n : ℕ). Row (Group s) (r.0.0, n) gs to) pairs r.2)
            (omega (arith, length-append c.messages (g.0 ∷ []))) (omega (arith, length-append c.pairs g.1)),
      )

  -- what is read to the end is the payload
  payload_so : (kind : Payload) (start : ℕ) (c : Contents) → start ≤ length s → to_end (one_of rooms s kind) (length s) (length s) empty start ≡ done c (length s)
      → payload kind rooms start s ≡ done c (length s)
  unfolding payload in_order
  payload_so kind start c h e = rw (le-leb start (length s) h) e

  module _ (start : ℕ) where
    -- Law: pairs in a row to the end, no key of which is met twice, are a KV list.
    pub kv_so : (ps : List Pair) → Run s start ps (length s) → Once s [] ps → length ps ≤ rooms.pairs
        → payload k.KvList rooms start s ≡ done (record { messages = []; pairs = ps; actions = [] }) (length s)
    kv_so ps r o h =
        payload_so k.KvList start _ (run_on s start ps (length s) r)
        (end_so (one_pair rooms s true) with_pair (length s) (length s) empty start ps (kv_reads empty start ps (length s) r o (omega arith)) (omega arith)
        ∙ ap (λ (d : Contents). done d (length s)) (put_pairs empty ps))

    -- Law: actions in a row to the end are a list of actions.
    pub actions_so : (xs : List Action) → InRow (λ n. action_from n s) start xs (length s) → length xs ≤ rooms.actions
        → payload k.Actions rooms start s ≡ done (record { messages = []; pairs = []; actions = xs }) (length s)
    actions_so xs r h =
        let reads = action_reads empty start xs (length s) r (omega arith) in
        payload_so k.Actions start _ (reads_on (one_action rooms s) with_action empty start xs (length s) reads)
        (end_so (one_action rooms s) with_action (length s) (length s) empty start xs reads (omega arith) ∙ ap (λ (d : Contents). done d (length s)) (put_actions empty xs))

    -- Law: messages with their arguments in a row to the end are a list of messages.
    pub messages_so : (gs : List (Message × List Pair)) (n : ℕ) → Row (Group s) (start, 0) gs (length s, n) → length gs ≤ rooms.messages → length (pairs_of gs) ≤ rooms.pairs
        → payload k.Messages rooms start s ≡ done (record { messages = messages_of gs; pairs = pairs_of gs; actions = [] }) (length s)
    messages_so gs n r h l =
        let reads = group_reads empty start gs (length s, n) r (omega arith) (omega arith) in
        payload_so k.Messages start _ (reads_on (one_message rooms s) with_group empty start gs (length s) reads)
        (end_so (one_message rooms s) with_group (length s) (length s) empty start gs reads (omega arith) ∙ ap (λ (d : Contents). done d (length s)) (put_groups empty gs))

-- ---- other rooms

-- contents of which two sorts are none
contents_are : (c : Contents) (ms : List Message) (ps : List Pair) (xs : List Action) → c.messages ≡ ms → c.pairs ≡ ps → c.actions ≡ xs
    → record { messages = ms; pairs = ps; actions = xs } ≡ c
contents_are c ms ps xs e f g = λ i. record { messages = sym e i; pairs = sym f i; actions = sym g i }

module _ (rooms others : Counts) (s : List ℕ) where
  -- Law: an accepted payload is accepted alike with any rooms that are enough for its records.
  pub payload_fits : (kind : Payload) (start : ℕ) (c : Contents) (end : ℕ) → payload kind rooms start s ≡ done c end → Within (counts_of c) others → payload kind others start s ≡ done c end
  payload_fits kind start c end e w = rw all at (by_kind kind (rw (sym all) at e))
    where
      all : length s ≡ end
      all = sym (payload_all kind rooms start s c end e)

      by_kind : (k : Payload) → payload k rooms start s ≡ done c (length s) → payload k others start s ≡ done c (length s)
      by_kind k.KvList e =
          let h = kv_run rooms start s c (length s) e in
          kv_so others s start c.pairs h.run h.once w.pairs ∙ ap (λ (d : Contents). done d (length s)) (contents_are c [] c.pairs [] h.messages refl h.actions)
      by_kind k.Actions e =
          let h = actions_run rooms start s c (length s) e in
          actions_so others s start c.actions h.run w.actions ∙ ap (λ (d : Contents). done d (length s)) (contents_are c [] [] c.actions h.messages h.pairs refl)
      by_kind k.Messages e =
          let h = messages_run rooms start s c (length s) e in
          let many = length-map h.groups (λ (g : Message × List Pair). g.0) in
          messages_so others s start h.groups (length c.pairs) h.run (omega (arith, w.messages, ap length h.messages, many)) (omega (arith, w.pairs, ap length h.pairs))
          ∙ ap (λ (d : Contents). done d (length s)) (contents_are c (messages_of h.groups) (pairs_of h.groups) [] h.messages h.pairs h.actions)
