-- Laws about what the calls say and leave, by the cut, the head and the payload.
use mathlib.Core.Path.{◌≡◌, refl, sym, ap, ◌∙◌}
use mathlib.Core.List.{List, []}
use Prim.Native.Nat.{ℕ}
use Rattle.answer.specs.Answer.{Answer, done, refused, next, written, leaves}
use Rattle.answer.specs.Table.{joined}
use Rattle.frame.specs.declared.Head.{Head}
use Rattle.frame.specs.declared.Side.TheVariants as side
use Rattle.frame.specs.Read.{Reading, wait, answered, onward, Sender, head}
use Rattle.frame.specs.Records.{message_numbers, action_numbers}
use Rattle.payload.specs.declared.Counts.{Counts}
use Rattle.payload.specs.declared.Payload.{Payload}
use Rattle.payload.specs.Payload.{Contents, payload}
use Rattle.payload.specs.Promise.{payload_tells, rooms_of, table_left, ReadPayload}
use Rattle.std.specs.Prelude.{Result}
use Rattle.answer.specs.declared.Read.{Read}
use Rattle.answer.specs.declared.Refusal.{Refusal}
use Rattle.answer.specs.Writes.{read_said}
use Rattle.frame.specs.declared.Stop.{Stop}
use Rattle.frame.specs.declared.Stop.TheVariants as stop
use Rattle.frame.specs.Promise.{stop_said}
use Rattle.parser.specs.declared.Frame.{Frame}
use Rattle.parser.specs.Frame.{payload_of, framed, frame_read}
use Rattle.parser.specs.Promise.{frame_said, frame_tells, contents_read, FrameFills}
use Rattle.parser.proofs.Frames.{in_frame_lem, framed_payload, frame_cut, haproxy_actions, agent_messages}

-- what is said of a payload, with the head before it
abbrev headed : Head → Answer Counts → Answer (Head × Counts)
headed h a = next a (λ counts used. done (h, counts) used)

-- ---- what is not accepted fills nothing

abbrev pub Unread : Reading (Head × Contents) → Type 0
Unread x = (number : ℕ) × (place : ℕ) × (contents_read x ≡ refused number place)

pub unread : (x y : Reading (Head × Contents)) (r : Result (Read Frame) Stop) (messages pairs actions : List ℕ) → x ≡ y → Unread y → frame_said r ≡ frame_tells y
    → FrameFills x r messages messages pairs pairs actions actions
unread x y r messages pairs actions e none says =
    let is : contents_read x ≡ refused none.0 none.1 = ap contents_read e ∙ none.2 in
    record { says = says ∙ ap frame_tells (sym e); fills = rw is (record { messages = refl; pairs = refl; actions = refl }) }

-- A frame that was not cut out: its answer is the cut's, and it holds nothing.
module _ (f : List ℕ → Answer (Head × Contents)) where
  pub stop_tells : (e : Stop) → stop_said e ≡ frame_tells (onward (stop_said e) f)
  stop_tells (stop.Wait missing) = refl
  stop_tells (stop.Refused r) = refl

  pub stop_unread : (e : Stop) → Unread (onward (stop_said e) f)
  stop_unread (stop.Wait missing) = (_, _, refl)
  stop_unread (stop.Refused r) = (_, _, refl)

-- ---- a payload in its frame

tells_in : (h : Head) (a : Answer Contents) → answered (headed h (payload_tells a)) ≡ frame_tells (answered (in_frame_lem h a))
tells_in h (done c used) = refl
tells_in h (refused number place) = refl

holds_in : (h : Head) (a : Answer Contents) → contents_read (answered (in_frame_lem h a)) ≡ a
holds_in h (done c used) = refl
holds_in h (refused number place) = refl

-- A frame with this head, of which the payload came to this: what is said of it, and what is filled.
module _ (sent : Sender) (rooms : Counts) (f : List ℕ) (h : Head) (start : ℕ) (e : head sent f ≡ done h start) (kind : Payload) (is : kind ≡ payload_of h.frame_type)
    (r : Result (Read Frame) Stop) (found : Result (Read Counts) Refusal) (said : frame_said r ≡ answered (headed h (read_said found))) where
  whole : framed sent rooms f ≡ in_frame_lem h (payload kind rooms start f)
  whole = framed_payload sent rooms f h start e ∙ ap (λ (y : Payload). in_frame_lem h (payload y rooms start f)) (sym is)

  pub whole_says : read_said found ≡ payload_tells (payload kind rooms start f) → frame_said r ≡ frame_tells (answered (framed sent rooms f))
  whole_says p =
      said
      ∙ ap (λ (a : Answer Counts). answered (headed h a)) p
      ∙ tells_in h (payload kind rooms start f)
      ∙ ap (λ (a : Answer (Head × Contents)). frame_tells (answered a)) (sym whole)

  pub whole_fills : (old_messages new_messages old_pairs new_pairs old_actions new_actions : List ℕ) → rooms ≡ rooms_of old_messages old_pairs old_actions
      → ReadPayload kind start f found old_messages new_messages old_pairs new_pairs old_actions new_actions
      → FrameFills (answered (framed sent rooms f)) r old_messages new_messages old_pairs new_pairs old_actions new_actions
  whole_fills om nm op np oa na room p =
      record {
        says = whole_says (p.says ∙ ap (λ (n : Counts). payload_tells (payload kind n start f)) (sym room));
        fills = rw (ap (λ (a : Answer (Head × Contents)). contents_read (answered a)) whole ∙ holds_in h (payload kind rooms start f), room) p.fills;
      }

-- ---- a side's frames leave the other's table alone

none_left : {A : Type 0} (numbers : A → List ℕ) (xs : List A) → xs ≡ [] → [] ≡ leaves (written (joined numbers xs)) []
unfolding joined
none_left numbers xs e = rw e

by_contents : {G : Type 0} (x : Reading (Head × Contents)) → ((h : Head) (c : Contents) (used : ℕ) → x ≡ answered (done (h, c) used) → contents_read x ≡ done c used → G)
    → ((number place : ℕ) → contents_read x ≡ refused number place → G) → G
by_contents (wait n) f g = g 1 n refl
by_contents (answered (done y used)) f g = f y.0 y.1 used refl refl
by_contents (answered (refused number place)) f g = g number place refl

pub no_actions : (limit : ℕ) (rooms : Counts) (s : List ℕ) → [] ≡ table_left action_numbers (λ c. c.actions) (contents_read (frame_read side.HAProxy limit rooms s)) []
no_actions limit rooms s =
    by_contents (frame_read side.HAProxy limit rooms s)
    (λ h c used e is. rw is (none_left action_numbers c.actions (haproxy_actions rooms _ h c used (frame_cut side.HAProxy limit rooms s h c used e).held)))
    (λ n place is. rw is)

pub no_messages : (limit : ℕ) (rooms : Counts) (s : List ℕ) → [] ≡ table_left message_numbers (λ c. c.messages) (contents_read (frame_read side.Agents limit rooms s)) []
no_messages limit rooms s =
    by_contents (frame_read side.Agents limit rooms s)
    (λ h c used e is. rw is (none_left message_numbers c.messages (agent_messages rooms _ h c used (frame_cut side.Agents limit rooms s h c used e).held)))
    (λ n place is. rw is)
