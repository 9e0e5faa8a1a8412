-- Demand 3 of a whole run in code, of any stream: of the stream that a session gives back which was not refused. Definitions only.
use Rattle.std.specs.Prelude.{◌≡◌, List, Float}
use Rattle.model.specs.Stream.{State, Kind, has_place, cluster_of}
use Rattle.claims.specs.Whole.{Opens, after}

-- `Labels` and `One` are the claims of demand 3
module _ {S P H : Type 0} (k : Kind S P H) (Labels : State P H → Type 0) (One : S → List (List Float) → Type 0) where
  -- s is the stream of a run with the settings p over the points xs
  pub record RunTold (p : S) (xs : List (List Float)) (s : State P H) : Type 0 where
    pub opens : Opens k p
    -- the labels are those that the chains tell
    pub labels : Labels s
    -- of every insert of the list, refused or not, and cluster after them
    pub stream : s ≡ cluster_of k (after k (has_place k) p xs)
    -- of which demand 3 says what is kept and what is worked out from the list
    pub one : One p xs
