-- Laws about one more of each sort: what reading it comes to, test by test.
use mathlib.Core.Path.{◌≡◌, refl, sym, ap, ◌∙◌}
use mathlib.Core.Bool.{Bool, true, false, ◌&&◌}
use mathlib.Core.Logic.{⊎_elim}
use mathlib.Core.List.{List}
use Prim.Native.Nat.{ℕ, ◌+◌, ◌≤◌, ◌<◌}
use native.Mathlib.Omega.{arith}
use lib.ListN.{length, drop, get_or, length-drop}
use borrow.Author.Tests.{lt-ltb, le-ltb}
use Rattle.answer.specs.Answer.{Answer, done, refused, behind}
use Rattle.answer.specs.Order.{in_order}
use Rattle.answer.specs.Row.{so_many}
use Rattle.answer.proofs.Cases.{lt_or_le, not_both}
use Rattle.types.specs.Value.{span, string}
use Rattle.types.specs.declared.Span.{Span}
use Rattle.types.proofs.Reading.{span_same, string_accepted}
use Rattle.frame.specs.declared.Pair.{Pair}
use Rattle.frame.specs.declared.Message.{Message}
use Rattle.frame.specs.declared.Action.{Action}
use Rattle.payload.specs.declared.Counts.{Counts}
use Rattle.payload.specs.Pair.{pair_from}
use Rattle.payload.specs.Action.{action_from}
use Rattle.payload.specs.Payload.{Contents, with_pair, with_message, with_action, moved_span, string_from, message_of, message_from, met, one_pair, one_message, one_action}
use Rattle.answer.proofs.Answers.{done_same}

-- ---- a message's name and count

module _ (first at : ℕ) (s : List ℕ) where
  pub name_refused : (n place : ℕ) → string_from at s ≡ refused n place → message_from first at s ≡ refused n place
  unfolding message_from
  name_refused n place e = rw e

  module _ (name : Span) (end : ℕ) (e : string_from at s ≡ done name end) where
    pub count_missing : length s ≤ end → message_from first at s ≡ refused 3 end
    unfolding message_from in_order
    count_missing h = rw e (rw (le-ltb end (length s) h))

    pub count_there : end < length s → message_from first at s ≡ done (message_of name first (get_or s end 0)) (end + 1)
    unfolding message_from in_order
    count_there h = rw e (rw (lt-ltb end (length s) h))

-- Law: a string that stands at a place ends behind it, and within the bytes.
pub string_next : (s : List ℕ) (at start len end : ℕ) → string_from at s ≡ done (span start len) end → (at < end) × (end ≤ length s) × (start + len ≡ end)
string_next s at start len end e = go (string (drop at s)) refl
  where
    go : (x : Answer Span) → string (drop at s) ≡ x → (at < end) × (end ≤ length s) × (start + len ≡ end)
    go (done p used) d =
        let o = span_same (sym (ap (behind moved_span at) d) ∙ e) in
        let k = string_accepted (drop at s) p.start p.len used d in
        omega (arith, o.0, o.1, o.2, length-drop at s)
    go (refused n place) r = not_both e (ap (behind moved_span at) r)

-- What an accepted message says: its name stands at the place, and its count byte behind that.
pub record Named (first at : ℕ) (s : List ℕ) (m : Message) (end : ℕ) : Type 0 where
  pub place : ℕ
  pub name : string_from at s ≡ done (span m.start m.len) place
  pub byte : place < length s
  pub is_first : m.first ≡ first
  pub count : m.count ≡ get_or s place 0
  pub ends : end ≡ place + 1

pub message_says : (first at : ℕ) (s : List ℕ) (m : Message) (end : ℕ) → message_from first at s ≡ done m end → Named first at s m end
message_says first at s m end e = go (string_from at s) refl
  where
    go : (x : Answer Span) → string_from at s ≡ x → Named first at s m end
    go (done p place) f =
        ⊎_elim
        (λ h.
        let o = done_same (sym (count_there first at s p place f h) ∙ e) in
        rw (sym o.0, sym o.1) (record { place = place; name = f; byte = h; is_first = refl; count = refl; ends = refl }))
        (λ h. not_both e (count_missing first at s p place f h))
        (lt_or_le place (length s))
    go (refused n place) r = not_both e (name_refused first at s n place r)

-- Law: it ends behind its place, and within the bytes.
pub message_next : (first at : ℕ) (s : List ℕ) (m : Message) (end : ℕ) → message_from first at s ≡ done m end → (at < end) × (end ≤ length s)
message_next first at s m end e =
    let n = message_says first at s m end e in
    omega (arith, string_next s at m.start m.len n.place n.name, n.byte, n.ends)

module _ (rooms : Counts) (s : List ℕ) (c : Contents) (at : ℕ) where
  -- ---- a pair

  module _ (once : Bool) where
    pub pair_refused : (n place : ℕ) → pair_from at s ≡ refused n place → one_pair rooms s once c at ≡ refused n place
    unfolding one_pair
    pair_refused n place e = rw e

    module _ (p : Pair) (end : ℕ) (e : pair_from at s ≡ done p end) where
      pub pair_met : once && met s c.pairs p ≡ true → one_pair rooms s once c at ≡ refused 9 end
      unfolding one_pair in_order
      pair_met t = rw e (rw t)

      module _ (t : once && met s c.pairs p ≡ false) where
        pub pair_full : rooms.pairs ≤ length c.pairs → one_pair rooms s once c at ≡ refused 10 end
        unfolding one_pair in_order
        pair_full h = rw e (rw (t, le-ltb (length c.pairs) rooms.pairs h))

        pub pair_taken : length c.pairs < rooms.pairs → one_pair rooms s once c at ≡ done (with_pair c p) end
        unfolding one_pair in_order
        pair_taken h = rw e (rw (t, lt-ltb (length c.pairs) rooms.pairs h))

  -- ---- a message

  pub message_refused : (n place : ℕ) → message_from (length c.pairs) at s ≡ refused n place → one_message rooms s c at ≡ refused n place
  unfolding one_message
  message_refused n place e = rw e

  module _ (m : Message) (end : ℕ) (e : message_from (length c.pairs) at s ≡ done m end) where
    pub message_full : rooms.messages ≤ length c.messages → one_message rooms s c at ≡ refused 10 end
    unfolding one_message in_order
    message_full h = rw e (rw (le-ltb (length c.messages) rooms.messages h))

    pub message_taken : length c.messages < rooms.messages → one_message rooms s c at ≡ so_many (one_pair rooms s false) m.count (with_message c m) end
    unfolding one_message in_order
    message_taken h = rw e (rw (lt-ltb (length c.messages) rooms.messages h))

  -- ---- an action

  pub action_refused : (n place : ℕ) → action_from at s ≡ refused n place → one_action rooms s c at ≡ refused n place
  unfolding one_action
  action_refused n place e = rw e

  module _ (x : Action) (end : ℕ) (e : action_from at s ≡ done x end) where
    pub action_full : rooms.actions ≤ length c.actions → one_action rooms s c at ≡ refused 10 end
    unfolding one_action in_order
    action_full h = rw e (rw (le-ltb (length c.actions) rooms.actions h))

    pub action_taken : length c.actions < rooms.actions → one_action rooms s c at ≡ done (with_action c x) end
    unfolding one_action in_order
    action_taken h = rw e (rw (lt-ltb (length c.actions) rooms.actions h))
