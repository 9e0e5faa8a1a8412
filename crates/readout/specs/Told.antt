-- What the read-outs say of what they are given. Definitions only.
use Rattle.std.specs.Prelude.{cond, List, eqb, ℤ, negsuc, Float, length, get_or, Option, Some, None}
use Rattle.std.specs.Float.Ieee.{le}
use Rattle.model.specs.Answers.{read_out_number, ReadOut}
use Rattle.model.specs.ReadOut.{LabelsRead, Statistics}
use Rattle.readout.specs.declared.distances.Found.{Found}
use Rattle.readout.specs.Found.{nearest_among}

-- "or the nearest .. hasn't a squared distance at most the radius squared; else its label"
abbrev pub label_found : (radius2 : Float) → List ℤ → Option Found → ℤ
label_found radius2 labels None = negsuc 0
label_found radius2 labels (Some f) = cond (le f.dist radius2) (get_or labels f.place (negsuc 0)) (negsuc 0)

-- "−1 if label and micro-cluster counts differ, none exists, or ..", by distances that were measured before
unfoldable pub label_among : (radius2 : Float) → (distances : List Float) → (labels : List ℤ) → ℤ
unfolding nearest_among
label_among radius2 distances labels =
    cond (eqb (length labels) (length distances)) (label_found radius2 labels (nearest_among distances)) (negsuc 0)

-- the answer's number, and the lent slices afterwards
abbrev pub labels_told : ReadOut → List ℤ → LabelsRead
labels_told answer labels = record { number = read_out_number answer; labels = labels }

abbrev pub statistics_told : ReadOut → (centres weights radii : List Float) → Statistics
statistics_told answer centres weights radii = record { number = read_out_number answer; centres = centres; weights = weights; radii = radii }
