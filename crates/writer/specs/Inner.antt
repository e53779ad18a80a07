-- What only private contracts cite. No public promise rests on anything in this file.
use Rattle.std.specs.Prelude.{◌≡◌, true, false, cond, List, [], ◌∷◌, ◌++◌, ℕ, ◌+◌, ◌*◌, ◌≤◌, ◌<◌, eqb, leb, length, Option, MatchOption, Result, MatchResult}
use Rattle.answer.specs.declared.Reason.{Reason}
use Rattle.answer.specs.declared.Refusal.{Refusal}
use Rattle.answer.specs.Answer.{Answer, refused, written, leaves, tells}
use Rattle.answer.specs.Reason.{number_of}
use Rattle.answer.specs.Writes.{refusal_said, said}
use Rattle.answer.specs.Order.{Check, in_order, each_in_order}
use Rattle.answer.specs.Inner.{Passes, Sound}
use Rattle.types.specs.Form.{writable_record, ranged}
use Rattle.types.specs.Promise.{record_of}
use Rattle.frame.specs.declared.Head.{Head}
use Rattle.frame.specs.declared.kind.FrameType.{FrameType}
use Rattle.frame.specs.declared.Pair.{Pair}
use Rattle.frame.specs.declared.Message.{Message}
use Rattle.frame.specs.Kind.{number_of_type}
use Rattle.frame.specs.Head.{four_bytes, head_bytes}
use Rattle.frame.specs.Records.{pair_at, action_at, message_at}
use Rattle.writer.specs.Pair.{pair_checks}
use Rattle.writer.specs.Action.{action_checks}
use Rattle.writer.specs.Frame.{kv_allowed}
use Rattle.writer.specs.Message.{message_checks, run_start}

-- a length as far as it matters: `most` and one more stands for all that is over it
unfoldable pub capped : ℕ → ℕ → ℕ
capped most n = cond (leb n most) n (most + 1)

-- the checks of record i of a table, as the answers have them
abbrev pub pair_order : List ℕ → List ℕ → ℕ → List Check
pair_order buffer pairs i = pair_checks buffer (pair_at pairs i)

abbrev pub action_order : List ℕ → List ℕ → ℕ → List Check
action_order buffer actions i = action_checks buffer (action_at actions i)

abbrev pub message_order : List ℕ → ℕ → List ℕ → ℕ → ℕ → List Check
message_order buffer total messages count i = message_checks buffer total (run_start messages i) (eqb (i + 1) count) (message_at messages i)

-- What checking and measuring one record found: how many bytes it has, or why it is refused.
abbrev pub Measures : List Check → ℕ → List ℕ → Result ℕ Reason → Type 0
Measures checks most bytes r =
    MatchResult r (λ len. Passes checks × (len ≡ capped most (length bytes))) (λ why. number_of why ≡ in_order checks 0)

-- What checking and measuring so many records found: that none is refused, and how many bytes they have; or the refusal.
abbrev pub Checks : (ℕ → List Check) → ℕ → ℕ → List ℕ → Result ℕ Refusal → Type 0
Checks checks count most bytes r =
    MatchResult r
    (λ len. Sound checks count × (len ≡ capped most (length bytes)))
    (λ refusal. (a : Answer (List ℕ)) → each_in_order checks 0 count a ≡ refusal_said refusal)

-- What asking a table for so many records of a width found: that it has them, or 16.
abbrev pub Counted : List ℕ → ℕ → ℕ → Result ℕ Refusal → Type 0
Counted table width count r =
    MatchResult r
    (λ n. (n ≡ count) × (count * width ≤ length table))
    (λ refusal. (length table < count * width) × (refusal_said {A = List ℕ} refusal ≡ refused 16 0))

-- The type of a KV frame, where its metadata is writable.
abbrev pub KvType : Head → Option FrameType → Type 0
KvType h r = MatchOption r (kv_allowed h ≡ false) (λ t. (number_of_type t ≡ h.frame_type) × (kv_allowed h ≡ true))

-- A pair that has a written form.
pub record Formed (buffer : List ℕ) (p : Pair) : Type 0 where
  pub fields : writable_record (record_of p.value) ≡ true
  pub key : p.start + p.len ≤ length buffer
  pub range : ranged buffer (record_of p.value) ≡ true

-- A message that passed every check, and whose pairs did.
pub record Ready (buffer pairs : List ℕ) (m : Message) : Type 0 where
  pub name : m.start + m.len ≤ length buffer
  pub few : m.count < 256
  pub run : (i : ℕ) → m.first ≤ i → i < m.first + m.count → Formed buffer (pair_at pairs i)

-- The front of a frame whose payload is to have so many bytes, where there is so much room: 12 or 11 of the whole frame, or the length
-- bytes and the head.
unfoldable pub begun : ℕ → ℕ → Head → ℕ → Answer (List ℕ)
begun room limit h len =
    let behind = length (head_bytes h) + len in
    in_order (
    (refused 12 0, leb behind limit)
    ∷ (refused 11 0, leb (4 + behind) room) ∷ [])
    (written (four_bytes behind ++ head_bytes h))

-- It says so, and leaves it: its room is the whole frame's.
pub record Begins (a : Answer (List ℕ)) (r : Result ℕ Refusal) (old new : List ℕ) : Type 0 where
  pub says : said r ≡ tells a
  pub holds : new ≡ leaves a old
