-- What a stream's drift monitor observes in a run, and when it rang, of any stream. Definitions only.
use Rattle.std.specs.Prelude.{ℕ, ◌+◌, cond, List, [], ◌∷◌, Float, None, Some}
use Rattle.float.specs.Rounded.{whole}
use Rattle.drift.specs.History.{Seen}
use Rattle.model.specs.Answers.{is_done, Insertion}
use Rattle.model.specs.Outcome.{Outcome}
use Rattle.model.specs.Run.{one_if_done}
use Rattle.claims.specs.Clock.{Dated}
use Rattle.drift.specs.Monitor.{LastAlarm, Nearest}

-- a refused insert is not observed
abbrev pub seen_if : Insertion → Seen → List Seen → List Seen
seen_if a o rest = cond (is_done a) (o ∷ rest) rest

module _ {S : Type 0} (insert : S → List Float → Outcome S) (nearest : S → List Float → Nearest) where
  -- the nearest distance of each accepted insert, taken before it, at the ticks n, n + 1 and on
  unfoldable pub seen_from : ℕ → S → List (List Float) → List Seen
  seen_from n s [] = []
  seen_from n s (x ∷ xs) =
      seen_if (insert s x).answer (record { nearest = nearest s x; tick = whole n })
      (seen_from (n + one_if_done (insert s x).answer) (insert s x).stream xs)

-- "the last alarm is either absent or the tick at which it rang": that of one of n accepted inserts
abbrev pub Rang : (n : ℕ) → LastAlarm → Type 0
Rang n None = Unit {0}
Rang n (Some t) = Dated n t
