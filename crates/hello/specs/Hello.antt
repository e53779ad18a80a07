-- The HELLO handshake: SPOE.txt, sections 3.2, 3.2.4 and 3.2.5, and the ranks of versions: Semantic Versioning 2.0.0, section 11.
use Rattle.std.specs.Prelude.{Bool, cond, ◌&&◌, ◌||◌, List, ℕ, min, ◌/◌, ltb, leb, eqb, length, Option, Some, None}
use Rattle.answer.specs.Answer.{Answer, done, refused}
use Rattle.answer.specs.Table.{number_at, records, some}
use Rattle.hello.specs.declared.Announced.{Announced}
use Rattle.hello.specs.declared.Version.{Version}

-- "The maximum size supported by peers for a frame must be greater than or equal to 256 bytes", and the agent returns "the lower
-- value between its maximum size allowed for a frame and the HAProxy one". 13 at place 0 where a size is below (docs/RULES.md).
unfoldable pub frame_size : ℕ → ℕ → Answer Unit
frame_size theirs ours = cond (leb 256 theirs && leb 256 ours) (done tt (min theirs ours)) (refused 13 0)

-- How many numbers an announced version has in the table of them. Fewer at the end of the table are no version.
abbrev pub version_width : ℕ
version_width = 4

-- major, minor and patch, and a number that is 0 exactly where the version has no pre-release part
unfoldable pub version_at : List ℕ → ℕ → Announced
version_at table i =
    let number = number_at version_width table i in
    record { major = number 0; minor = number 1; patch = number 2; pre = number 3 }

-- The agent's version is to be one that HAProxy supports, and "when a major version is announced by HAProxy, it means it also
-- support all previous minor versions": so 2.0.0 is one where an announced version has the major number 2 and does not rank below
-- 2.0.0. Semantic Versioning 2.0.0, section 11, compares major, minor and patch first, and "when major, minor, and patch are equal,
-- a pre-release version has lower precedence than a normal version".
unfoldable pub covers : Announced → Bool
covers v = eqb v.major 2 && (eqb v.pre 0 || (ltb 0 v.minor || ltb 0 v.patch))

unfoldable pub announced : List ℕ → Bool
announced versions = some covers (records (version_at versions) 0 (length versions / version_width))

-- what the agent chooses: the version that it supports, or none
unfoldable pub choice : List ℕ → Option Version
choice versions = cond (announced versions) (Some (record { major = 2; minor = 0; patch = 0 })) None
