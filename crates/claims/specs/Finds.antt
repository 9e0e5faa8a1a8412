-- Document 02, item 8: the joins and the finds of a cluster, of a stream of any kind. Statements only; proofs/Theorem proves them of both streams.
use Rattle.std.specs.Prelude.{ℕ, ◌+◌, ◌*◌, ◌<◌, ◌≤◌, ◌≡◌, length}
use Rattle.lists.specs.Each.{Each}
use Rattle.model.specs.Stream.{State, Kind, find_steps_of, finds_of}
use Rattle.claims.specs.Lists.{PairBefore, Ascending}

-- s is clustered as it stands, and so many of its micro-clusters are sought
pub record FindsTold {S P H : Type 0} (k : Kind S P H) (s : State P H) (sought : ℕ) : Type 0 where
  -- the pairs due come "in ascending pair order", and each "lower place first"
  pub ascending : Ascending PairBefore (k.pairs_due s)
  pub lower_first : Each (λ (e : ℕ × ℕ). e.0 < e.1) (k.pairs_due s)
  -- "The finds are two a join, .. then one for each"
  pub finds : finds_of k s ≡ 2 * length (k.pairs_due s) + sought
  -- "no find among 64 micro-clusters makes more than 3 steps"
  pub few : Each (λ (steps : ℕ). steps ≤ 3) (find_steps_of k s)
