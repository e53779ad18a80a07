-- What comes next, where a reading of a payload stands at a place: the one step that every pass over a payload takes.
use Rattle.std.specs.Prelude.{cond, List, ℕ, ltb, length, Option, Some, None, Result, Ok, Err}
use Rattle.answer.specs.declared.Refusal.{Refusal}
use Rattle.answer.specs.Writes.{refusal_said}
use Rattle.answer.specs.Answer.{Answer, done, refused}
use Rattle.payload.specs.declared.Payload.{Payload}
use Rattle.payload.specs.declared.Payload.TheVariants as k
use Rattle.payload.specs.declared.Cursor.{Cursor}
use Rattle.payload.specs.declared.Item.{Item}
use Rattle.payload.specs.declared.Item.TheVariants as i
use Rattle.payload.specs.Pair.{pair_from}
use Rattle.payload.specs.Action.{action_from}
use Rattle.payload.specs.Payload.{message_from}

-- Something that comes, or nothing more, as an answer.
abbrev pub one : {A : Type 0} → A → Answer (Option A)
one x = done (Some x) 0

abbrev pub no_more : {A : Type 0} → Answer (Option A)
no_more = done None 0

-- what the answer of a step says
abbrev pub next_said : {A : Type 0} → Result (Option A) Refusal → Answer (Option A)
next_said (Ok x) = done x 0
next_said (Err r) = refusal_said r

-- what was read as an item of some sort
abbrev pub item_of : {A : Type 0} → (A → ℕ → Item) → Answer A → Answer (Option Item)
item_of sort (done x end) = one (sort x end)
item_of sort (refused number place) = refused number place

-- one of the list that a payload is
abbrev pub listed : Payload → List ℕ → Cursor → Answer (Option Item)
listed k.KvList s x = item_of i.Pair (pair_from x.at s)
listed k.Messages s x = item_of i.Message (message_from x.pairs x.at s)
listed k.Actions s x = item_of i.Action (action_from x.at s)

-- A pair where an argument of the last message is to come; else one of the list, up to the end of the bytes.
unfoldable pub item_at : Payload → List ℕ → Cursor → Answer (Option Item)
item_at kind s x =
    cond (ltb 0 x.left) (item_of i.Pair (pair_from x.at s))
    (cond (ltb x.at (length s)) (listed kind s x) no_more)
