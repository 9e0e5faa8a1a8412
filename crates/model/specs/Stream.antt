-- Document 01: one stream, whatever it holds; DBSTREAM and DenStream say what differs. Definitions only.
use Rattle.std.specs.Prelude.{ℕ, Bool, cond, ◌||◌, List, [], length, ℤ, nat_lt, Float, Ok}
use Rattle.float.specs.Rounded.{◌⊕◌, nought, one}
use Rattle.lists.specs.Total.{total}
use Rattle.union_find.specs.Steps.{find_steps}
use Rattle.drift.specs.Monitor.{Monitor, new_of, observe_of, Nearest}
use Rattle.model.specs.declared.body.Body.{Body}
use Rattle.model.specs.Limits.{micros_most}
use Rattle.model.specs.Answers.{Said, Opening}
use Rattle.model.specs.Questions.{first_no, insertion_asked}
use Rattle.model.specs.Fading.{is_multiple}
use Rattle.model.specs.Outcome.{Opened, Outcome, opened, outcome}
use Rattle.model.specs.ReadOut as read
use Rattle.model.specs.ReadOut.{LabelsRead, Statistics, labels_read, statistics_read}

-- its settings with what follows from them, and what it holds
pub record State (P H : Type 0) : Type 0 where
  pub params : P
  pub t : Float
  pub held : H
  pub labels : List ℤ
  pub drift : Monitor

-- what differs between streams; S is what an opening names
pub record Kind (S P H : Type 0) : Type 0 where
  -- "Opening a stream"; the drift monitor's radius; what a fresh one holds; the settings beside a refusal
  pub questions : S → List (Bool × Opening)
  pub params_of : S → P
  pub radius : S → Float
  pub nothing : H
  pub zeros : S
  -- an insert: whether the point is absorbed, what is held with the point, the drift distance
  pub dim : P → ℕ
  pub size : H → ℕ
  pub is_absorbed : State P H → List Float → Bool
  pub placed : State P H → List Float → H
  pub nearest_for : State P H → List Float → Nearest
  -- the ticks between cleanups, and what a cleanup at t leaves
  pub period : P → Float
  pub cleaned : P → (t : Float) → H → H
  -- families and read-outs: the labels; the pairs of places that are joined, and those whose roots are sought
  pub labels_of : State P H → List ℤ
  pub pairs_due : State P H → List (ℕ × ℕ)
  pub sought : State P H → List Bool
  pub radius2 : P → Float
  pub lambda : P → Float
  pub bodies_of : H → List Body

-- s with other holdings, or with other labels
abbrev pub holding : {P H : Type 0} → State P H → H → State P H
holding s h = record { params = s.params; t = s.t; held = h; labels = s.labels; drift = s.drift }

abbrev pub labelled : {P H : Type 0} → State P H → List ℤ → State P H
labelled s l = record { params = s.params; t = s.t; held = s.held; labels = l; drift = s.drift }

-- s with what it holds after a point: "Insert clears labels."
abbrev pub taking : {P H : Type 0} → State P H → H → State P H
taking s h = record { params = s.params; t = s.t; held = h; labels = []; drift = s.drift }

-- "Tick: drift monitor, then t grows by 1"
abbrev pub advanced : {P H : Type 0} → State P H → Nearest → State P H
advanced s d = record { params = s.params; t = s.t ⊕ one; held = s.held; labels = s.labels; drift = observe_of s.drift d s.t }

module _ {S P H : Type 0} (k : Kind S P H) where
  -- ---- the opening
  unfoldable pub asked : S → Opening
  asked p = first_no (k.questions p) (Ok tt)

  -- "Fresh means as an accepted opening gives it: no micro-cluster, link or label, an empty window, no alarm, clock 0."
  abbrev pub fresh : S → State P H
  fresh p = record { params = k.params_of p; t = nought; held = k.nothing; labels = []; drift = new_of (k.radius p) }

  abbrev pub open_of : S → Opened (State P H)
  open_of p = opened (asked p) (fresh p) (fresh k.zeros)

  -- ---- an insert
  -- "if t is a multiple of t_gap, cleanup"; DenStream: "with pruning when the grown t is a multiple of tp"
  abbrev pub cleaned_if_due : P → (t : Float) → H → H
  cleaned_if_due p t h = cond (is_multiple t (k.period p)) (k.cleaned p t h) h

  -- s after a cleanup
  abbrev pub cleaned_of : State P H → State P H
  cleaned_of s = holding s (k.cleaned s.params s.t s.held)

  unfoldable pub tick_of : State P H → Nearest → State P H
  tick_of s d = holding (advanced s d) (cleaned_if_due s.params (s.t ⊕ one) s.held)

  abbrev pub taken_of : State P H → List Float → State P H
  taken_of s x = tick_of (taking s (k.placed s x)) (k.nearest_for s x)

  -- "Would the point be absorbed, or are fewer than 64 micro-clusters held (DenStream: both pools together)?"
  abbrev pub has_place : State P H → List Float → Bool
  has_place s x = k.is_absorbed s x || nat_lt (k.size s.held) micros_most

  -- an insert, by a question whether there is a place for the point
  unfoldable pub insert_by : (place : State P H → List Float → Bool) → State P H → List Float → Outcome (State P H)
  unfolding tick_of
  insert_by place s x = outcome (insertion_asked (k.dim s.params) (length x) s.t (place s x)) s (taken_of s x)

  abbrev pub insert_of : State P H → List Float → Outcome (State P H)
  insert_of = insert_by has_place

  -- ---- families and read-outs
  abbrev pub cluster_of : State P H → State P H
  cluster_of s = labelled s (k.labels_of s)

  -- Document 02, item 8: the halving steps of each find that a cluster makes, in order
  abbrev pub find_steps_of : State P H → List ℕ
  find_steps_of s = find_steps (k.sought s) (k.pairs_due s)

  -- "Cluster returns the number of finds and the number of halving steps made."
  abbrev pub finds_of : State P H → ℕ
  finds_of s = length (find_steps_of s)

  abbrev pub steps_of : State P H → ℕ
  steps_of s = total (find_steps_of s)

  abbrev pub predict_of : State P H → List Float → Said ℤ
  predict_of s x = read.predict_of (k.dim s.params) (k.radius2 s.params) (k.bodies_of s.held) s.labels x

  abbrev pub labels_read_of : State P H → (lent : List ℤ) → LabelsRead
  labels_read_of s lent = labels_read s.labels lent

  abbrev pub statistics_of : State P H → (centres weights radii : List Float) → Statistics
  statistics_of s = statistics_read (k.lambda s.params) s.t (k.bodies_of s.held)
