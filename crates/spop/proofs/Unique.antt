-- No second result, and no second content of what is lent, meets the promise of a call.
use mathlib.Core.Path.{◌≡◌, sym, ap, ◌∙◌}
use mathlib.Core.Bool.{Bool}
use mathlib.Core.List.{List}
use Prim.Native.Nat.{ℕ, ◌≤◌}
use lib.ListN.{length}
use Rattle.answer.specs.Answer.{Answer}
use Rattle.answer.proofs.Same.{one_only}
use Rattle.utf8.specs.Text.{lossy, same_text}
use Rattle.plain.proofs.Laws.{both_fit}
use Rattle.plain.proofs.Unique.{texts_unique}
use Rattle.frame.specs.declared.Head.{Head}
use Rattle.frame.specs.declared.Pair.{Pair}
use Rattle.frame.specs.declared.Side.{Side}
use Rattle.frame.specs.Read.{Reading}
use Rattle.payload.specs.Payload.{Contents}
use Rattle.spop.specs.Told.{result_of, at_of, value_or, Told, Left}
use Rattle.spop.specs.Promise.{FrameTold, SpopDecodeVarint, SpopSameTextPlain, SpopTypedData, SpopReadPair, SpopReadFrame, SpopReadFrameRecords, SpopReadAgentFrame, SpopReadFrames, SpopNegotiateVersion}

-- of a call that tells an answer
pub told_unique : {A : Type 0} {a : Answer A} {r q at also : ℕ} → Told a r at → Told a q also → (r ≡ q) × (at ≡ also)
told_unique p q = (one_only p.says q.says, one_only p.where_at q.where_at)

-- of any call that tells an answer and leaves something in what else was lent to it
call_unique : {A B : Type 0} {a : Answer A} {x y left : B} {r q at also : ℕ}
    → Told a r at × (x ≡ left) → Told a q also × (y ≡ left) → (r ≡ q) × (at ≡ also) × (x ≡ y)
call_unique p q = let t = told_unique p.0 q.0 in (t.0, t.1, one_only p.1 q.1)

-- of any writer
pub left_unique : (a : Answer (List ℕ)) (old : List ℕ) {r q at also : ℕ} {new other : List ℕ} → Left a r at old new → Left a q also old other → (r ≡ q) × (at ≡ also) × (new ≡ other)
left_unique a old p q = call_unique p q

-- of both frame readers: the head's numbers, and the numbers in each table
frame_unique : {side : Side} {x : Reading (Head × Contents)} {r q at also : ℕ} {before head other om nm om' op np op' oa na oa' : List ℕ}
    → FrameTold side x r at before head om nm op np oa na → FrameTold side x q also before other om om' op op' oa oa'
    → ((r ≡ q) × (at ≡ also) × (head ≡ other)) × (nm ≡ om') × (np ≡ op') × (na ≡ oa')
frame_unique p s = (
  call_unique p.told s.told,
  one_only p.fills.messages s.fills.messages,
  one_only p.fills.pairs s.fills.pairs,
  one_only p.fills.actions s.fills.actions,
)

-- both calls that compare keys agree, of any two strings whose texts fit
pub spop_same_text_plain : (a b : List ℕ) (one two before : Bool) (r at : ℕ) (a_old a_new b_old b_new : List ℕ)
    → length (lossy a) ≤ length a_old → length (lossy b) ≤ length b_old
    → one ≡ same_text a b → SpopSameTextPlain a b r at before two a_old a_new b_old b_new → (r ≡ 0) × (at ≡ 0) × (two ≡ one)
unfolding same_text
spop_same_text_plain a b one two before r at a_old a_new b_old b_new h g p s =
    let e = both_fit a b a_old b_old _ h g in
    (s.told.says ∙ ap result_of e, s.told.where_at ∙ ap at_of e, s.value ∙ ap (λ (x : Answer Bool). value_or (λ b. b) x before) e ∙ sym p)

pub spop_negotiate_version_unique : (versions : List ℕ) (r q : Bool) (before version other : List ℕ)
    → SpopNegotiateVersion versions r before version → SpopNegotiateVersion versions q before other → (r ≡ q) × (version ≡ other)
spop_negotiate_version_unique versions r q before version other p s = (one_only p.0 s.0, one_only p.1 s.1)

module _ (r q at also : ℕ) where
  pub spop_same_text_plain_unique : (a b : List ℕ) (before same other : Bool) (a_old a_new a_other b_old b_new b_other : List ℕ)
      → SpopSameTextPlain a b r at before same a_old a_new b_old b_new → SpopSameTextPlain a b q also before other a_old a_other b_old b_other
      → (r ≡ q) × (at ≡ also) × (same ≡ other) × (a_new ≡ a_other) × (b_new ≡ b_other)
  spop_same_text_plain_unique a b before same other a_old a_new a_other b_old b_new b_other p s =
      let t = told_unique p.told s.told in
      let x = texts_unique p.texts s.texts in
      (t.0, t.1, one_only p.value s.value, x.0, x.1)

  pub spop_decode_varint_unique : (input : List ℕ) (before value other : ℕ)
      → SpopDecodeVarint input r at before value → SpopDecodeVarint input q also before other → (r ≡ q) × (at ≡ also) × (value ≡ other)
  spop_decode_varint_unique input before value other p s = call_unique p.0 s.0

  pub spop_typed_data_unique : (input before value other : List ℕ)
      → SpopTypedData input r at before value → SpopTypedData input q also before other → (r ≡ q) × (at ≡ also) × (value ≡ other)
  spop_typed_data_unique input before value other p s = call_unique p s

  pub spop_read_pair_unique : (input before numbers other : List ℕ)
      → SpopReadPair input r at before numbers → SpopReadPair input q also before other → (r ≡ q) × (at ≡ also) × (numbers ≡ other)
  spop_read_pair_unique input before numbers other p s = call_unique p s

  pub spop_read_frame_unique : (input : List ℕ) (limit : ℕ) (before head other old_messages new_messages other_messages old_pairs new_pairs other_pairs : List ℕ)
      → SpopReadFrame input limit r at before head old_messages new_messages old_pairs new_pairs
      → SpopReadFrame input limit q also before other old_messages other_messages old_pairs other_pairs
      → (r ≡ q) × (at ≡ also) × (head ≡ other) × (new_messages ≡ other_messages) × (new_pairs ≡ other_pairs)
  spop_read_frame_unique input limit before head other old_messages new_messages other_messages old_pairs new_pairs other_pairs p s =
      let u = frame_unique p s in
      (u.0.0, u.0.1, u.0.2, u.1, u.2)

  pub spop_read_frame_records_unique : (input : List ℕ) (limit : ℕ) (before head other old_messages new_messages other_messages : List ℕ) (old_pairs new_pairs other_pairs : List Pair)
      → SpopReadFrameRecords input limit r at before head old_messages new_messages old_pairs new_pairs
      → SpopReadFrameRecords input limit q also before other old_messages other_messages old_pairs other_pairs
      → (r ≡ q) × (at ≡ also) × (head ≡ other) × (new_messages ≡ other_messages) × (new_pairs ≡ other_pairs)
  spop_read_frame_records_unique input limit before head other old_messages new_messages other_messages old_pairs new_pairs other_pairs p s =
      let t = call_unique p.told s.told in
      (t.0, t.1, t.2, one_only p.fills.messages s.fills.messages, one_only p.fills.pairs s.fills.pairs)

  pub spop_read_agent_frame_unique : (input : List ℕ) (limit : ℕ) (before head other old_pairs new_pairs other_pairs old_actions new_actions other_actions : List ℕ)
      → SpopReadAgentFrame input limit r at before head old_pairs new_pairs old_actions new_actions
      → SpopReadAgentFrame input limit q also before other old_pairs other_pairs old_actions other_actions
      → (r ≡ q) × (at ≡ also) × (head ≡ other) × (new_pairs ≡ other_pairs) × (new_actions ≡ other_actions)
  spop_read_agent_frame_unique input limit before head other old_pairs new_pairs other_pairs old_actions new_actions other_actions p s =
      let u = frame_unique p s in
      (u.0.0, u.0.1, u.0.2, u.2, u.3)

  pub spop_read_frames_unique : (input : List ℕ) (limit : ℕ) (counts other old_rows new_rows other_rows old_messages new_messages other_messages old_pairs new_pairs other_pairs : List ℕ)
      → SpopReadFrames input limit r at counts old_rows new_rows old_messages new_messages old_pairs new_pairs
      → SpopReadFrames input limit q also other old_rows other_rows old_messages other_messages old_pairs other_pairs
      → ((r ≡ q) × (at ≡ also)) × (counts ≡ other) × (new_rows ≡ other_rows) × (new_messages ≡ other_messages) × (new_pairs ≡ other_pairs)
  spop_read_frames_unique input limit counts other old_rows new_rows other_rows old_messages new_messages other_messages old_pairs new_pairs other_pairs p s = (
    told_unique p.told s.told,
    one_only p.sums s.sums,
    one_only p.fills.rows s.fills.rows,
    one_only p.fills.messages s.fills.messages,
    one_only p.fills.pairs s.fills.pairs,
  )
