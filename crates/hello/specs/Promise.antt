-- What those calls promise whose contracts name a promise.
use Rattle.std.specs.Prelude.{◌≡◌, ℕ, Result}
use Rattle.answer.specs.declared.Refusal.{Refusal}
use Rattle.answer.specs.Writes.{said}
use Rattle.hello.specs.Hello.{frame_size}

-- `negotiate_max_frame_size` settles on the frame size.
abbrev pub NegotiateMaxFrameSize : ℕ → ℕ → Result ℕ Refusal → Type 0
NegotiateMaxFrameSize theirs ours r = said r ≡ frame_size theirs ours
