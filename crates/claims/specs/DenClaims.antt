-- Demand 3 for DenStream, as document 01 says it under "A whole run". Statements only; proofs/Theorem proves them.
use Rattle.std.specs.Prelude.{ℕ, ◌+◌, ◌-◌, ◌^◌, ◌≤◌, ◌<◌, ◌≡◌, ◌↔◌, ◌⊎◌, true, false, List, [], map, ℤ, pos, negsuc, length, get_or, Float}
use Rattle.std.specs.Float.Ieee.{neg, le, eq}
use Rattle.lists.specs.Each.{Each}
use Rattle.float.specs.Rounded.{◌⊕◌, ◌⊖◌, ◌⊗◌, nought, one, whole, Exact}
use Rattle.float.specs.TwoTo.{two_to}
use Rattle.union_find.specs.Pairs.{Chain}
use Rattle.labels.specs.Group.{Summed}
use Rattle.model.specs.declared.micro.DenMicro.{DenMicro}
use Rattle.model.specs.Limits.{micros_most, clock_most}
use Rattle.model.specs.Run.{accepted_in}
use Rattle.model.specs.Periods.{Period}
use Rattle.model.specs.DenState.{Settings, State, params_of}
use Rattle.model.specs.DenCluster.{close, faded_weights}
use Rattle.model.specs.Denstream.{denstream, has_place, cluster_of}
use Rattle.claims.specs.Clock.{Counts, Dated}
use Rattle.claims.specs.Weighed.{KeptBody}
use Rattle.claims.specs.Finds.{FindsTold}
use Rattle.claims.specs.Whole as whole
use Rattle.model.specs.Answers.{Insertion}

-- ---- labels
-- "A centre is a potential one's mean"
abbrev pub centre : State → ℕ → List Float
centre s i = get_or (map (λ (m : DenMicro). m.body.cf.mean) s.held.potential) i []

-- one step of a chain, which may take it either way round: the centres of the places i and j are at squared distance ≤ 4×(eps×eps)
pub record Step (s : State) (i j : ℕ) : Type 0 where
  pub first : i < j
  pub held : j < length s.held.potential
  pub near : close s.params.eps2 (centre s i) (centre s j) ≡ true

-- "a group is all potential ones chained to one of them": i and j are in one
abbrev pub OneGroup : State → ℕ → ℕ → Type 0
OneGroup s i j = Chain (Step s) i j

-- "and it weighs the sum named under Families": i's group weighs v, "summed by index from 0"
abbrev pub Weighs : State → ℕ → Float → Type 0
Weighs s i v = Summed (λ k. OneGroup s k i) 0 nought (faded_weights s) v

-- v doesn't reach mu
abbrev pub UnderMu : State → Float → Type 0
UnderMu s v = le s.params.settings.mu v ≡ false

-- the label at the place i
abbrev pub label : State → ℕ → ℤ
label s i = get_or s.labels i (negsuc 0)

-- of a clustered stream
pub record LabelsTellGroups (s : State) : Type 0 where
  -- a label for each potential one, and a weight for each group
  pub count : length s.labels ≡ length s.held.potential
  pub weighed : (i : ℕ) → i < length s.held.potential → (v : Float) × Weighs s i v
  -- −1 is the label of those whose group weighs under mu, and of no other
  pub light : (i : ℕ) (v : Float) → i < length s.held.potential → Weighs s i v → (label s i ≡ negsuc 0) ↔ UnderMu s v
  -- two labels are equal exactly where both groups weigh under mu, or both lie in one group
  pub groups :
      (i j : ℕ) (v u : Float) →
      i < length s.held.potential →
      j < length s.held.potential →
      Weighs s i v →
      Weighs s j u →
      (label s i ≡ label s j) ↔ ((UnderMu s v × UnderMu s u) ⊎ OneGroup s i j)
  -- "Labels count from 0 by first member, −1 otherwise.": a label is −1 or a count, and each smaller count stands before it
  pub counts : (i : ℕ) → i < length s.held.potential → (label s i ≡ negsuc 0) ⊎ ((c : ℕ) × (label s i ≡ pos c))
  pub from_zero : (i c m : ℕ) → i < length s.held.potential → label s i ≡ pos c → m < c → (j : ℕ) × (j < i) × (label s j ≡ pos m)

-- ---- a stream from fresh, after n accepted inserts
pub record FromFresh (n : ℕ) (s : State) : Type 0 where
  pub clock : Counts n s.t
  -- both pools together
  pub places : length s.held.potential + length s.held.outliers ≤ micros_most

-- what is kept of a micro-cluster: its body, and its birth at the tick of an accepted insert
pub record Kept (n dim : ℕ) (m : DenMicro) : Type 0 where
  pub body : KeptBody n dim m.body
  pub born : Dated n m.t0

-- what is kept of both pools
pub record Figures (n : ℕ) (s : State) : Type 0 where
  pub potential : Each (Kept n s.params.settings.dim) s.held.potential
  pub outliers : Each (Kept n s.params.settings.dim) s.held.outliers

-- ---- demand 3
-- an opening that is accepted
abbrev pub Opens : Settings → Type 0
Opens = whole.Opens denstream

-- the stream after the inserts
abbrev pub after : Settings → List (List Float) → State
after = whole.after denstream has_place

-- what each insert was answered
abbrev pub told : Settings → List (List Float) → List Insertion
told = whole.told denstream has_place

-- of one stream, after any list of inserts
pub record OneStream (p : Settings) (xs : List (List Float)) : Type 0 where
  -- as of either stream: settings that stay, when the pools are pruned, the drift report
  pub run : whole.OneRun denstream has_place p xs
  -- tp is a whole number of ticks, from 1 to 2^38
  pub period : Period (2 ^ 38) (params_of p).tp
  -- and what outliers need is no division by 0: "/ (2^(−lambda×tp) − 1)"
  pub divisor : eq (two_to (neg p.lambda ⊗ (params_of p).tp) ⊖ one) nought ≡ false
  -- its time, "t−t0+tp", is exact: of every birth, at this clock and at every later one
  pub needed :
      (n : ℕ) (t0 : Float) (born : Dated n t0) (m : ℕ) →
      n ≤ m →
      m ≤ clock_most →
      Exact (m - born.tick + period.ticks) (whole m ⊖ t0 ⊕ (params_of p).tp)
  pub labels : LabelsTellGroups (cluster_of (after p xs))
  -- what that cluster joins and finds: a root for each potential one
  pub finds : FindsTold denstream (after p xs) (length (after p xs).held.potential)
  pub holdings : FromFresh (accepted_in (told p xs)) (after p xs)
  pub figures : Figures (accepted_in (told p xs)) (after p xs)

-- for all settings that open, and all lists of inserts
pub record Demand3 : Type 0 where
  pub one : (p : Settings) → Opens p → (xs : List (List Float)) → OneStream p xs
  pub calls : whole.Calls denstream has_place
