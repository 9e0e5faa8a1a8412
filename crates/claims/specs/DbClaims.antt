-- Demand 3 for DBSTREAM, as document 01 says it under "A whole run". Statements only; proofs/Theorem proves them.
use Rattle.std.specs.Prelude.{ℕ, ◌+◌, ◌-◌, ◌*◌, ◌%◌, ◌^◌, ◌≤◌, ◌<◌, ◌≡◌, ◌↔◌, ◌⊎◌, ◌≢◌, true, false, T, ℤ, pos, negsuc, length, Float}
use mathlib.Core.List.{List, ◌++◌, map, foldl}
use Rattle.std.specs.Float.Ieee.{le}
use Rattle.lists.specs.Each.{Each}
use Rattle.lists.specs.Retain.{retain}
use Rattle.float.specs.Rounded.{◌⊗◌}
use Rattle.union_find.specs.Pairs.{Chain}
use Rattle.model.specs.declared.micro.MicroId.{MicroId}
use Rattle.model.specs.declared.micro.DbMicro.{DbMicro}
use Rattle.model.specs.declared.link.Link.{Link}
use Rattle.model.specs.Limits.{micros_most, links_most}
use Rattle.model.specs.Run.{accepted_in}
use Rattle.model.specs.Periods.{Period}
use Rattle.model.specs.DbState.{Settings, State, params_of}
use Rattle.model.specs.DbInsert.{id_of, pairs_of, gain_in, absent, neighbours_of, joined}
use Rattle.model.specs.DbCluster.{is_strong, is_dense}
use Rattle.model.specs.Dbstream.{dbstream, has_place, cluster_of}
use Rattle.claims.specs.Lists.{At, In, PairBefore, Ascending}
use Rattle.claims.specs.Clock.{Counts}
use Rattle.claims.specs.Weighed.{Weighed, KeptBody}
use Rattle.claims.specs.Finds.{FindsTold}
use Rattle.claims.specs.Whole as whole
use Rattle.model.specs.Answers.{Insertion}

-- ---- labels
-- "strong means faded weight ≥ min_weight"
abbrev pub Strong : State → DbMicro → Type 0
Strong s m = is_strong s m ≡ true

-- "A weak micro-cluster is one that isn't strong."
abbrev pub Weak : State → DbMicro → Type 0
Weak s m = is_strong s m ≡ false

-- a is the creation number of a strong micro-cluster that is held
pub record StrongNumber (s : State) (a : ℕ) : Type 0 where
  pub micro : DbMicro
  pub held : In micro s.held.micros
  pub number : micro.id.0 ≡ a
  pub strong : Strong s micro

-- one step of a chain, which may take it either way round: a held link between two strong ones, of faded density ≥ alpha × min_weight
pub record Step (s : State) (a b : ℕ) : Type 0 where
  pub link : Link
  pub held : In link s.held.links
  pub lo : link.lo.0 ≡ a
  pub hi : link.hi.0 ≡ b
  pub dense : is_dense s link ≡ true
  pub from : StrongNumber s a
  pub to : StrongNumber s b

-- both weak, or both strong and chained by strong ones; "A chain has none or more steps."
abbrev pub OneFamily : State → DbMicro → DbMicro → Type 0
OneFamily s m n = (Weak s m × Weak s n) ⊎ (Strong s m × Strong s n × Chain (Step s) m.id.0 n.id.0)

-- of a clustered stream
pub record LabelsTellFamilies (s : State) : Type 0 where
  -- a label for each micro-cluster
  pub count : length s.labels ≡ length s.held.micros
  -- −1 is the label of the weak, and of no other
  pub weak : (i : ℕ) (m : DbMicro) (k : ℤ) → At s.held.micros i m → At s.labels i k → (k ≡ negsuc 0) ↔ Weak s m
  -- two labels are equal exactly for one family
  pub families :
      (i j : ℕ) (m n : DbMicro) (k l : ℤ) →
      At s.held.micros i m →
      At s.held.micros j n →
      At s.labels i k →
      At s.labels j l →
      (k ≡ l) ↔ OneFamily s m n
  -- "Labels count from 0 by first member, −1 otherwise.": a label is −1 or a count, and each smaller count stands before it
  pub counts : (i : ℕ) (k : ℤ) → At s.labels i k → (k ≡ negsuc 0) ⊎ ((c : ℕ) × (k ≡ pos c))
  pub from_zero : (i c m : ℕ) → At s.labels i (pos c) → m < c → (j : ℕ) × (j < i) × At s.labels j (pos m)

-- ---- two DBSTREAMs
-- p with other thresholds: all that the labels alone go by
abbrev pub with_thresholds : Settings → (alpha min_weight : Float) → Settings
with_thresholds p alpha min_weight = record { dim = p.dim; r = p.r; lambda = p.lambda; alpha = alpha; min_weight = min_weight }

-- alike but for the thresholds; the second's min_weight and rounded alpha × min_weight are no larger
pub record Laxer (p q : Settings) : Type 0 where
  pub alike : with_thresholds p q.alpha q.min_weight ≡ q
  pub min_weight : T (le q.min_weight p.min_weight)
  pub density : T (le (q.alpha ⊗ q.min_weight) (p.alpha ⊗ p.min_weight))

-- "every kept figure of micro-clusters, links and drift report is equal"
pub record SameHoldings (s u : State) : Type 0 where
  pub clock : s.t ≡ u.t
  pub next : s.held.next ≡ u.held.next
  pub micros : s.held.micros ≡ u.held.micros
  pub links : s.held.links ≡ u.held.links
  pub drift : s.drift ≡ u.drift

-- the places i and j have one label, other than −1
pub record Together (s : State) (i j : ℕ) : Type 0 where
  pub label : ℤ
  pub here : At s.labels i label
  pub there : At s.labels j label
  pub other : label ≢ negsuc 0

-- equal labels other than −1 in s are equal and other than −1 in u: "labels are matched by list place"
abbrev pub StayTogether : State → State → Type 0
StayTogether s u = (i j : ℕ) → Together s i j → Together u i j

-- ---- a stream from fresh
-- m has the smaller creation number
abbrev pub Older : DbMicro → DbMicro → Type 0
Older m n = m.id.0 < n.id.0

-- the links' order
abbrev pub Before : Link → Link → Type 0
Before l k = PairBefore (l.lo.0, l.hi.0) (k.lo.0, k.hi.0)

-- a is the creation number of a micro-cluster that is held
abbrev pub Live : List DbMicro → ℕ → Type 0
Live ms a = (m : DbMicro) × In m ms × (m.id.0 ≡ a)

-- the links over the micro-clusters ms: they ascend, the smaller number first, both ends held
pub record LinksHeld (ms : List DbMicro) (ls : List Link) : Type 0 where
  pub ascending : Ascending Before ls
  pub smaller_first : Each (λ (l : Link). l.lo.0 < l.hi.0) ls
  pub ends : Each (λ (l : Link). Live ms l.lo.0 × Live ms l.hi.0) ls

-- after n accepted inserts
pub record FromFresh (n : ℕ) (s : State) : Type 0 where
  pub clock : Counts n s.t
  -- creation numbers ascend and are below the next
  pub ascending : Ascending Older s.held.micros
  pub below_next : Each (λ (m : DbMicro). m.id.0 < s.held.next) s.held.micros
  pub next_limit : s.held.next ≤ n
  pub links : LinksHeld s.held.micros s.held.links

-- what is kept of each micro-cluster and link
pub record Figures (n : ℕ) (s : State) : Type 0 where
  pub micros : Each (λ (m : DbMicro). KeptBody n s.params.settings.dim m.body) s.held.micros
  pub densities : Each (λ (l : Link). Weighed n l.value l.last) s.held.links

-- a gain in a list that always has room
abbrev pub gain_unbounded : (lambda t : Float) → List Link → MicroId × MicroId → List Link
gain_unbounded lambda t ls p = gain_in lambda t true (absent p.0 p.1 t) ls

-- no more than there is room for, and none of the definitions' cuts is met
pub record Fits (s : State) : Type 0 where
  pub micros : length s.held.micros ≤ micros_most
  -- no more links than pairs
  pub pairs : 2 * length s.held.links ≤ length s.held.micros * (length s.held.micros - 1)
  pub links : length s.held.links ≤ links_most
  -- a creation number never wraps
  pub number : (s.held.next + 1) % 2 ^ 64 ≡ s.held.next + 1
  -- and no link is turned away: an insert's gains are those in a list without bound
  pub room_for_all :
      (x : List Float) →
      (joined s x).links ≡ foldl (gain_unbounded s.params.settings.lambda s.t) s.held.links (pairs_of (map id_of (neighbours_of s x)))

-- ---- demand 3
-- an opening that is accepted
abbrev pub Opens : Settings → Type 0
Opens = whole.Opens dbstream

-- the stream after the inserts
abbrev pub after : Settings → List (List Float) → State
after = whole.after dbstream has_place

-- what each insert was answered
abbrev pub told : Settings → List (List Float) → List Insertion
told = whole.told dbstream has_place

-- of one stream, after any list of inserts
pub record OneStream (p : Settings) (xs : List (List Float)) : Type 0 where
  -- as of either stream: settings that stay, when a cleanup is due, the drift report
  pub run : whole.OneRun dbstream has_place p xs
  -- t_gap is a whole number of ticks, from 1 to 2^32
  pub period : Period (2 ^ 32) (params_of p).t_gap
  pub labels : LabelsTellFamilies (cluster_of (after p xs))
  -- what that cluster joins and finds: a root for each strong micro-cluster
  pub finds : FindsTold dbstream (after p xs) (length (retain (is_strong (after p xs)) (after p xs).held.micros))
  pub holdings : FromFresh (accepted_in (told p xs)) (after p xs)
  pub figures : Figures (accepted_in (told p xs)) (after p xs)
  pub fits : Fits (after p xs)
  -- a number given out before some of the inserts and live after them was live before them: no number is used twice
  pub never_reused :
      (earlier later : List (List Float)) →
      earlier ++ later ≡ xs →
      (a : ℕ) →
      a < (after p earlier).held.next →
      Live (after p xs).held.micros a →
      Live (after p earlier).held.micros a

-- of two streams, the second's bounds no larger, after the same list
pub record TwoStreams (p q : Settings) (xs : List (List Float)) : Type 0 where
  pub refusals : told p xs ≡ told q xs
  pub holdings : SameHoldings (after p xs) (after q xs)
  pub labels : StayTogether (cluster_of (after p xs)) (cluster_of (after q xs))

-- for all settings that open, and all lists of inserts
pub record Demand3 : Type 0 where
  pub one : (p : Settings) → Opens p → (xs : List (List Float)) → OneStream p xs
  pub two : (p q : Settings) → Opens p → Opens q → Laxer p q → (xs : List (List Float)) → TwoStreams p q xs
  pub calls : whole.Calls dbstream has_place
