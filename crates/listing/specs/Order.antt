-- A frame's lines one by one: which comes next, where its records stand in two tables; and what is said of it.
use Rattle.std.specs.Prelude.{◌≡◌, Bool, cond, ◌&&◌, ◌||◌, List, ℕ, ◌+◌, ◌-◌, ltb, leb, Result, Ok, Err, Option, Some, None}
use Rattle.answer.specs.declared.Refusal.{Refusal}
use Rattle.answer.specs.Answer.{Answer, refused}
use Rattle.answer.specs.Writes.{Writes}
use Rattle.answer.specs.Table.{holds}
use Rattle.frame.specs.Records.{message_width, pair_width, message_at, pair_at}
use Rattle.listing.specs.declared.Place.{Place}
use Rattle.listing.specs.declared.Line.{Line}
use Rattle.listing.specs.Check.{message_answer, pair_answer}

-- ---- which

-- A pair is next where one is left of so many, and it is an argument that is to come, or no message is left of so many.
abbrev pub pair_next : ℕ → ℕ → Place → Bool
pair_next messages pairs p = ltb p.pairs pairs && (ltb 0 p.left || leb messages p.messages)

-- the place behind a pair, and behind a message of so many arguments
abbrev pub behind_pair : Place → Place
behind_pair p = record { messages = p.messages; pairs = p.pairs + 1; left = p.left - 1 }

abbrev pub behind_message : Place → ℕ → Place
behind_message p count = record { messages = p.messages + 1; pairs = p.pairs; left = count }

-- ---- its line

-- Record k of a table, with its index: a record that the table does not have is 16, before its own checks.
abbrev pub in_table : {A : Type 0} → ℕ → (List ℕ → ℕ → A) → (ℕ → List ℕ → A → Answer (List ℕ)) → List ℕ → List ℕ → ℕ → Answer (List ℕ)
in_table width at answer f table k = cond (holds width table (k + 1)) (answer k f (at table k)) (refused 16 0)

-- a line and the place behind it, or no line
pub data Coming : Type 0 where
  line : Answer (List ℕ) → Place → Coming
  none : Coming

-- What comes at a place of so many messages and so many pairs.
unfoldable pub coming : List ℕ → List ℕ → ℕ → List ℕ → ℕ → Place → Coming
coming f messages count pairs total p =
    cond (pair_next count total p) (line (in_table pair_width pair_at pair_answer f pairs p.pairs) (behind_pair p))
    (cond (ltb p.messages count)
    (line (in_table message_width message_at message_answer f messages p.messages) (behind_message p (message_at messages p.messages).count))
    none)

-- ---- what is said of it

-- a writer's answer as a step to a place
abbrev pub step_of : Result ℕ Refusal → Place → Result (Option Line) Refusal
step_of (Ok n) p = Ok (Some (record { len = n; place = p }))
step_of (Err r) p = Err r

-- A line that comes is written, and the step says what its writer does. Where none does, nothing is.
abbrev pub Comes : Coming → Result (Option Line) Refusal → List ℕ → List ℕ → Type 0
Comes (line a p) r old new = (answer : Result ℕ Refusal) × (r ≡ step_of answer p) × Writes a answer old new
Comes none r old new = (r ≡ Ok None) × (new ≡ old)
