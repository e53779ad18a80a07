-- No second result meets a call's promise: it fixes the answer.
use mathlib.Core.Path.{◌≡◌}
use Prim.Native.Nat.{ℕ}
use Rattle.std.specs.Prelude.{Result}
use Rattle.answer.specs.declared.Refusal.{Refusal}
use Rattle.answer.proofs.Same.{said_same, one_only}
use Rattle.hello.specs.Promise.{NegotiateMaxFrameSize}

pub negotiate_max_frame_size_unique : (theirs ours : ℕ) (r q : Result ℕ Refusal) → NegotiateMaxFrameSize theirs ours r → NegotiateMaxFrameSize theirs ours q → r ≡ q
negotiate_max_frame_size_unique theirs ours r q p s = said_same r q (one_only p s)
