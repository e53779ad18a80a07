-- Payloads joined and told apart, of what accepted calls leave in their output: the payload of two lists joined is the first payload followed by
-- the second, an empty list gives no byte, and lists with different records never give the same payload. (Spelled says what is different.)
use mathlib.Core.Path.{◌≡◌, ap, ap₂, ◌∙◌}
use mathlib.Core.Bool.{Bool}
use mathlib.Core.List.{List, [], ◌++◌}
use Prim.Native.Nat.{ℕ, ◌+◌, ◌*◌, ◌^◌, ◌≤◌, ◌<◌}
use lib.ListN.{length, take}
use Rattle.std.specs.Prelude.{Ok}
use Rattle.answer.specs.Table.{records}
use Rattle.answer.proofs.Output.{Given, given}
use Rattle.answer.proofs.Records.{records_none, records_apart}
use Rattle.answer.proofs.Rows.{tables_both}
use Rattle.frame.specs.declared.Head.{Head}
use Rattle.frame.specs.Head.{frame_bytes}
use Rattle.frame.specs.Records.{pair_width, action_width, pair_at, action_at, message_at}
use Rattle.frame.proofs.Laws.{payload_of}
use Rattle.frame.proofs.Rows.{pair_front_lem, pair_behind, action_front, action_behind_lem}
use Rattle.writer.specs.Pair.{pair_bytes}
use Rattle.writer.specs.Action.{action_bytes}
use Rattle.writer.specs.Message.{message_bytes}
use Rattle.writer.specs.Frame.{head_of, kv_answer, actions_answer, notify_answer}
use Rattle.writer.proofs.Pairs.{formed_passed, kv_passed}
use Rattle.writer.proofs.Messages.{all_ready}
use Rattle.writer.proofs.Laws.{kv_accepted, kv_wrote, actions_accepted, actions_wrote, notify_passed_records, notify_wrote}
use Rattle.writer.proofs.Spelled.{Item, item_of, item_at, item_bytes, item_bytes_lem, ItemOk, item_ok, item_some, item_front, Act, act_of, act_bytes, act_bytes_lem, ActOk, act_ok, act_some, act_front, Say, say_of, say_bytes, say_bytes_lem, SayOk, say_ok, say_some, say_front}
use Rattle.writer.proofs.Payload.{Spelled, spelled, spelled_joined, spelled_apart, spelled_none}
use Rattle.answer.specs.Writes.{Writes}

-- ---- ACK frames

-- A call of `write_actions` that was accepted: what it was lent, the n bytes that it counted, and what it left in the place of `old`. Its
-- limit is a number of 32 bits.
pub record AckCall : Type 0 where
  pub fin : Bool
  pub abort : Bool
  pub stream : ℕ
  pub frame : ℕ
  pub limit : ℕ
  pub buffer : List ℕ
  pub actions : List ℕ
  pub count : ℕ
  pub n : ℕ
  pub old : List ℕ
  pub new : List ℕ
  pub small : limit < 2 ^ 32
  pub kept : Writes (actions_answer (head_of 103 fin abort stream frame) limit buffer actions count) (Ok n) old new

abbrev pub ack_head : AckCall → Head
ack_head a = head_of 103 a.fin a.abort a.stream a.frame

abbrev pub ack_payload : AckCall → List ℕ
ack_payload a = payload_of (ack_head a) a.n a.new

-- its actions spelled out: action i, and all in their order
abbrev pub act_at : AckCall → ℕ → Act
act_at a i = act_of a.buffer (action_at a.actions i)

abbrev pub acts_of : AckCall → List Act
acts_of a = records (act_at a) 0 a.count

-- the call passed every check of its own, and its frame has these actions
module _ (a : AckCall) where
  ack_given : Given (actions_answer (ack_head a) a.limit a.buffer a.actions a.count) a.n a.old a.new
  ack_given = given (actions_answer (ack_head a) a.limit a.buffer a.actions a.count) a.kept

  actions_held : a.count * action_width ≤ length a.actions
  actions_held = (actions_accepted (ack_head a) a.limit a.buffer a.actions a.count ack_given.bytes a.n ack_given.is).1

  ack_spelled : Spelled act_bytes ActOk (ack_head a) a.n a.new (acts_of a)
  ack_spelled =
      let sound = (actions_accepted (ack_head a) a.limit a.buffer a.actions a.count ack_given.bytes a.n ack_given.is).2 in
      spelled (action_bytes a.buffer) (action_at a.actions) act_bytes ActOk (act_at a) (λ i. act_bytes_lem a.buffer (action_at a.actions i)) a.count
      (λ i h l. act_ok a.buffer (action_at a.actions i) (sound.each i h) l)
      (ack_head a) a.limit a.small ack_given
      (actions_wrote (ack_head a) a.limit a.buffer a.actions a.count ack_given.bytes a.n ack_given.is)

-- Theorem: where the actions of a third call are those of the first and then those of the second, its payload is the first payload followed by
-- the second, and its frame is its own head and both.
pub actions_joined : (a b c : AckCall) → acts_of c ≡ acts_of a ++ acts_of b
    → (ack_payload c ≡ ack_payload a ++ ack_payload b)
    × (take c.n c.new ≡ frame_bytes (ack_head c) (ack_payload a ++ ack_payload b))
actions_joined a b c e = spelled_joined (ack_spelled a) (ack_spelled b) (ack_spelled c) e

-- Theorem: so it is where all three have one buffer, and the third's table starts with the first's actions and then the second's.
pub acts_in_a_row : (a b c : AckCall) (rest : List ℕ) → c.buffer ≡ a.buffer → c.buffer ≡ b.buffer → c.count ≡ a.count + b.count
    → c.actions ≡ take (a.count * action_width) a.actions ++ (take (b.count * action_width) b.actions ++ rest)
    → acts_of c ≡ acts_of a ++ acts_of b
acts_in_a_row a b c rest e f k is =
    ap₂ (λ (t : List ℕ) (n : ℕ). records (λ (i : ℕ). act_of c.buffer (action_at t i)) 0 n) is k
    ∙ tables_both action_width (λ (t : List ℕ) (i : ℕ). act_of c.buffer (action_at t i))
    (λ n s t h i l. ap (act_of c.buffer) (action_front n s t i h l))
    (λ n s t h i. ap (act_of c.buffer) (action_behind_lem n s t i h))
    a.count b.count a.actions b.actions rest (actions_held a) (actions_held b)
    ∙ ap₂ (λ (x y : List ℕ). records (λ (i : ℕ). act_of x (action_at a.actions i)) 0 a.count ++ records (λ (i : ℕ). act_of y (action_at b.actions i)) 0 b.count) e f

-- Theorem: no action gives no byte.
pub no_actions_no_bytes : (a : AckCall) → a.count ≡ 0 → ack_payload a ≡ []
no_actions_no_bytes a z = spelled_none (ack_spelled a) (ap (records (act_at a) 0) z ∙ records_none (act_at a) 0)

-- Theorem: two calls with the same payload have as many actions, and action by action the same: set or unset, scope, name and written value.
pub actions_told_apart : (a b : AckCall) → ack_payload a ≡ ack_payload b → (a.count ≡ b.count) × ((i : ℕ) → i < a.count → act_at a i ≡ act_at b i)
actions_told_apart a b e =
    records_apart (act_at a) (act_at b) a.count b.count (spelled_apart (ack_spelled a) (ack_spelled b) act_some act_front e)

-- ---- KV frames, in the same way

-- A call of `write_kv` that was accepted.
pub record KvCall : Type 0 where
  pub type : ℕ
  pub fin : Bool
  pub abort : Bool
  pub stream : ℕ
  pub frame : ℕ
  pub limit : ℕ
  pub buffer : List ℕ
  pub pairs : List ℕ
  pub count : ℕ
  pub n : ℕ
  pub old : List ℕ
  pub new : List ℕ
  pub small : limit < 2 ^ 32
  pub kept : Writes (kv_answer (head_of type fin abort stream frame) limit buffer pairs count) (Ok n) old new

abbrev pub kv_head : KvCall → Head
kv_head a = head_of a.type a.fin a.abort a.stream a.frame

abbrev pub kv_payload : KvCall → List ℕ
kv_payload a = payload_of (kv_head a) a.n a.new

abbrev pub items_of : KvCall → List Item
items_of a = records (item_at a.buffer a.pairs) 0 a.count

module _ (a : KvCall) where
  kv_given : Given (kv_answer (kv_head a) a.limit a.buffer a.pairs a.count) a.n a.old a.new
  kv_given = given (kv_answer (kv_head a) a.limit a.buffer a.pairs a.count) a.kept

  pairs_held : a.count * pair_width ≤ length a.pairs
  pairs_held = (kv_accepted (kv_head a) a.limit a.buffer a.pairs a.count kv_given.bytes a.n kv_given.is).1

  kv_spelled : Spelled item_bytes ItemOk (kv_head a) a.n a.new (items_of a)
  kv_spelled =
      let sound = (kv_accepted (kv_head a) a.limit a.buffer a.pairs a.count kv_given.bytes a.n kv_given.is).2 in
      spelled (pair_bytes a.buffer) (pair_at a.pairs) item_bytes ItemOk (item_at a.buffer a.pairs) (λ i. item_bytes_lem a.buffer (pair_at a.pairs i)) a.count
      (λ i h l. item_ok a.buffer (pair_at a.pairs i) (formed_passed a.buffer (pair_at a.pairs i) (kv_passed a.buffer a.pairs i (sound.each i h))) l)
      (kv_head a) a.limit a.small kv_given
      (kv_wrote (kv_head a) a.limit a.buffer a.pairs a.count kv_given.bytes a.n kv_given.is)

pub kv_joined : (a b c : KvCall) → items_of c ≡ items_of a ++ items_of b
    → (kv_payload c ≡ kv_payload a ++ kv_payload b)
    × (take c.n c.new ≡ frame_bytes (kv_head c) (kv_payload a ++ kv_payload b))
kv_joined a b c e = spelled_joined (kv_spelled a) (kv_spelled b) (kv_spelled c) e

pub items_in_a_row : (a b c : KvCall) (rest : List ℕ) → c.buffer ≡ a.buffer → c.buffer ≡ b.buffer → c.count ≡ a.count + b.count
    → c.pairs ≡ take (a.count * pair_width) a.pairs ++ (take (b.count * pair_width) b.pairs ++ rest)
    → items_of c ≡ items_of a ++ items_of b
items_in_a_row a b c rest e f k is =
    ap₂ (λ (t : List ℕ) (n : ℕ). records (item_at c.buffer t) 0 n) is k
    ∙ tables_both pair_width (item_at c.buffer)
    (λ n s t h i l. ap (item_of c.buffer) (pair_front_lem n s t i h l))
    (λ n s t h i. ap (item_of c.buffer) (pair_behind n s t i h))
    a.count b.count a.pairs b.pairs rest (pairs_held a) (pairs_held b)
    ∙ ap₂ (λ (x y : List ℕ). records (item_at x a.pairs) 0 a.count ++ records (item_at y b.pairs) 0 b.count) e f

pub no_pairs_no_bytes : (a : KvCall) → a.count ≡ 0 → kv_payload a ≡ []
no_pairs_no_bytes a z = spelled_none (kv_spelled a) (ap (records (item_at a.buffer a.pairs) 0) z ∙ records_none (item_at a.buffer a.pairs) 0)

pub kv_told_apart : (a b : KvCall) → kv_payload a ≡ kv_payload b
    → (a.count ≡ b.count) × ((i : ℕ) → i < a.count → item_at a.buffer a.pairs i ≡ item_at b.buffer b.pairs i)
kv_told_apart a b e =
    records_apart (item_at a.buffer a.pairs) (item_at b.buffer b.pairs) a.count b.count
    (spelled_apart (kv_spelled a) (kv_spelled b) item_some item_front e)

-- ---- NOTIFY frames, in the same way

-- A call of `write_notify` that was accepted.
pub record NotifyCall : Type 0 where
  pub fin : Bool
  pub abort : Bool
  pub stream : ℕ
  pub frame : ℕ
  pub limit : ℕ
  pub buffer : List ℕ
  pub messages : List ℕ
  pub count : ℕ
  pub pairs : List ℕ
  pub total : ℕ
  pub n : ℕ
  pub old : List ℕ
  pub new : List ℕ
  pub small : limit < 2 ^ 32
  pub kept : Writes (notify_answer (head_of 3 fin abort stream frame) limit buffer messages count pairs total) (Ok n) old new

abbrev pub notify_head : NotifyCall → Head
notify_head a = head_of 3 a.fin a.abort a.stream a.frame

abbrev pub notify_payload : NotifyCall → List ℕ
notify_payload a = payload_of (notify_head a) a.n a.new

abbrev pub say_at : NotifyCall → ℕ → Say
say_at a i = say_of a.buffer a.pairs (message_at a.messages i)

abbrev pub says_of : NotifyCall → List Say
says_of a = records (say_at a) 0 a.count

module _ (a : NotifyCall) where
  notify_given : Given (notify_answer (notify_head a) a.limit a.buffer a.messages a.count a.pairs a.total) a.n a.old a.new
  notify_given = given (notify_answer (notify_head a) a.limit a.buffer a.messages a.count a.pairs a.total) a.kept

  notify_spelled : Spelled say_bytes SayOk (notify_head a) a.n a.new (says_of a)
  notify_spelled =
      let g = notify_given in
      let passed = notify_passed_records (notify_head a) a.limit a.buffer a.messages a.count a.pairs a.total g.bytes a.n g.is in
      let ready = all_ready a.buffer a.messages a.pairs a.count a.total passed.0 passed.1 in
      spelled (message_bytes a.buffer a.pairs) (message_at a.messages) say_bytes SayOk (say_at a) (λ i. say_bytes_lem a.buffer a.pairs (message_at a.messages i)) a.count
      (λ i h l. say_ok a.buffer a.pairs (message_at a.messages i) (ready i h) l)
      (notify_head a) a.limit a.small g
      (notify_wrote (notify_head a) a.limit a.buffer a.messages a.count a.pairs a.total g.bytes a.n g.is)

pub messages_joined : (a b c : NotifyCall) → says_of c ≡ says_of a ++ says_of b
    → (notify_payload c ≡ notify_payload a ++ notify_payload b)
    × (take c.n c.new ≡ frame_bytes (notify_head c) (notify_payload a ++ notify_payload b))
messages_joined a b c e = spelled_joined (notify_spelled a) (notify_spelled b) (notify_spelled c) e

pub no_messages_no_bytes : (a : NotifyCall) → a.count ≡ 0 → notify_payload a ≡ []
no_messages_no_bytes a z = spelled_none (notify_spelled a) (ap (records (say_at a) 0) z ∙ records_none (say_at a) 0)

pub messages_told_apart : (a b : NotifyCall) → notify_payload a ≡ notify_payload b → (a.count ≡ b.count) × ((i : ℕ) → i < a.count → say_at a i ≡ say_at b i)
messages_told_apart a b e =
    records_apart (say_at a) (say_at b) a.count b.count (spelled_apart (notify_spelled a) (notify_spelled b) say_some say_front e)
