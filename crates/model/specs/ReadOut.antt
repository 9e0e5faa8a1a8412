-- Document 01: predict, and the read-outs of both streams. Definitions only.
use Rattle.std.specs.Prelude.{ℕ, ◌+◌, Bool, false, cond, not, ◌&&◌, List, [], ◌∷◌, ◌++◌, map, length, drop, ℤ, pos, negsuc, ◌==◌, nat_le, slice_index_or, Float}
use Rattle.std.proofs.Math.Option.{Option, none, some}
use Rattle.std.specs.Float.Ieee.{le}
use Rattle.model.specs.declared.body.Body.{Body}
use Rattle.model.specs.Answers.{Said, gives, refuses}
use Rattle.model.specs.Any.{any}
use Rattle.model.specs.Questions.{first_no}
use Rattle.model.specs.Body.{faded_weight, distance_to, radius_of}
use Rattle.model.specs.Nearest.{Near, nearest_of}

-- ---- predict
-- "or the nearest .. hasn't a squared distance at most the radius squared; else its label"
abbrev pub label_near : (radius2 : Float) → List ℤ → Option (Near Body) → ℤ
label_near radius2 labels none = negsuc 0
label_near radius2 labels (some b) = cond (le b.dist radius2) (slice_index_or labels b.place (negsuc 0)) (negsuc 0)

-- "−1 if label and micro-cluster counts differ, none exists, or .."
unfoldable pub label_for : (radius2 : Float) → List Body → List ℤ → (x : List Float) → ℤ
unfolding nearest_of
label_for radius2 bodies labels x =
    cond (length labels == length bodies) (label_near radius2 labels (nearest_of (distance_to x) bodies)) (negsuc 0)

-- "predict (7 only)"
abbrev pub predict_of : (dim : ℕ) (radius2 : Float) → List Body → List ℤ → (x : List Float) → Said ℤ
predict_of dim radius2 bodies labels x =
    first_no (((length x == dim), refuses 7 (dim ∷ length x ∷ [])) ∷ []) (gives (label_for radius2 bodies labels x))

-- ---- lent slices
-- "has every lent slice a place for each element due?"
abbrev pub has_places : {A : Type 0} → (due lent : List A) → Bool
has_places due lent = nat_le (length due) (length lent)

-- "Elements beyond those written stay."
abbrev pub written : {A : Type 0} → (due lent : List A) → List A
written due lent = due ++ drop (length due) lent

-- the refusal's number, and the lent slice afterwards
pub record LabelsRead : Type 0 where
  pub number : ℕ
  pub labels : List ℤ

abbrev pub labels_read : (due lent : List ℤ) → LabelsRead
labels_read due lent =
    first_no ((has_places due lent, record { number = 10; labels = lent }) ∷ []) (record { number = 0; labels = written due lent })

-- `n_clusters`: how many different labels there are, −1 left out
abbrev pub same_family : ℤ → ℤ → Bool
same_family (pos a) (pos b) = a == b
same_family (pos a) (negsuc b) = false
same_family (negsuc a) b = false

unfoldable pub clusters_in : List ℤ → ℕ
unfolding any
clusters_in [] = 0
clusters_in (l ∷ rest) = cond (same_family l l && not (any (same_family l) rest)) 1 0 + clusters_in rest

-- ---- statistics
pub record Statistics : Type 0 where
  pub number : ℕ
  pub centres : List Float
  pub weights : List Float
  pub radii : List Float

-- the means, one after another
unfoldable pub centres_of : List Body → List Float
centres_of [] = []
centres_of (b ∷ rest) = b.cf.mean ++ centres_of rest

-- "Statistics as `potential_stats` and `micro_stats`.": weights faded to the clock t, into the slices lent
abbrev pub statistics_read : (lambda t : Float) → List Body → (centres weights radii : List Float) → Statistics
statistics_read lambda t bodies centres weights radii =
    let faded : List Float = map (faded_weight lambda t) bodies in
    first_no
    ((
      has_places (centres_of bodies) centres && has_places faded weights && has_places (map radius_of bodies) radii,
      record { number = 10; centres = centres; weights = weights; radii = radii },
    ) ∷ [])
    (record { number = 0; centres = written (centres_of bodies) centres; weights = written faded weights; radii = written (map radius_of bodies) radii })
