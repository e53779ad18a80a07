-- What the calls' own types mean, and what those calls promise whose contracts name a promise.
use Rattle.std.specs.Prelude.{◌≡◌, List, ℕ, take, Result, Ok, Err}
use Rattle.answer.specs.declared.Read.{Read}
use Rattle.answer.specs.declared.Refusal.{Refusal}
use Rattle.answer.specs.Answer.{done}
use Rattle.answer.specs.Writes.{refusal_said, read_said}
use Rattle.frame.specs.declared.Head.{Head}
use Rattle.frame.specs.declared.Side.{Side}
use Rattle.frame.specs.declared.Stop.{Stop}
use Rattle.frame.specs.declared.Stop.TheVariants as stop
use Rattle.frame.specs.Read.{Reading, wait, answered, cut, sender, head}

-- what is said where there is no frame
abbrev pub stop_said : {A : Type 0} → Stop → Reading A
stop_said (stop.Wait missing) = wait missing
stop_said (stop.Refused r) = answered (refusal_said r)

-- `cut` says where the frame at the front of some bytes ends.
abbrev pub cut_said : List ℕ → Result ℕ Stop → Reading (List ℕ)
cut_said s (Ok end) = answered (done (take end s) end)
cut_said s (Err e) = stop_said e

abbrev pub Cut : List ℕ → ℕ → Result ℕ Stop → Type 0
Cut input limit r = cut_said input r ≡ cut limit input

-- `read_head` reads the head of a frame that was cut out.
abbrev pub ReadHead : List ℕ → Side → Result (Read Head) Refusal → Type 0
ReadHead frame side r = read_said r ≡ head (sender side) frame
