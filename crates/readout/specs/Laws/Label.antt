-- A label by distances that were measured before is document 01's. Assumes nothing.
use Rattle.std.specs.Prelude.{ℕ, ◌≡◌, refl, List, map, eqb, ℤ, negsuc, Float}
use Rattle.std.specs.Prelude as prelude
use Rattle.std.proofs.Math.Path.{ap, ap₂}
use Rattle.std.proofs.Common.{◌∙◌}
use Rattle.std.proofs.Math.Bool.{cond}
use Rattle.std.proofs.Math.Option.{Option, none, some}
use Rattle.std.proofs.Math.ListN.{length}
use Rattle.lists.specs.Laws.Maps.{map_length}
use Rattle.model.specs.declared.body.Body.{Body}
use Rattle.model.specs.Body.{distance_to}
use Rattle.model.specs.Nearest.{Near, nearest_of}
use Rattle.model.specs.ReadOut.{label_near, label_for}
use Rattle.readout.specs.declared.distances.Found.{Found}
use Rattle.readout.specs.Found.{found_of}
use Rattle.readout.specs.Told.{label_found, label_among}
use Rattle.readout.specs.Laws.Nearest.{nearest_measured}

module _ (radius2 : Float) (labels : List ℤ) where
  pub label_found_lem : (o : Option (Near Body)) → label_found radius2 labels (found_of o) ≡ label_near radius2 labels o
  label_found_lem none = refl
  label_found_lem (some b) = refl

  -- the label by measured distances is the one by the micro-clusters
  pub label_measured :
      (bodies : List Body) (x distances : List Float) → distances ≡ map (distance_to x) bodies →
      label_among radius2 distances labels ≡ label_for radius2 bodies labels x
  unfolding label_among label_for
  label_measured bodies x distances e =
      ap₂ (λ (n : ℕ) (o : prelude.Option Found). cond (eqb (length labels) n) (label_found radius2 labels o) (negsuc 0))
      (ap length e ∙ map_length (distance_to x) bodies)
      (nearest_measured (distance_to x) bodies distances e)
      ∙ ap (λ (z : ℤ). cond (eqb (length labels) (length bodies)) z (negsuc 0)) (label_found_lem (nearest_of (distance_to x) bodies))
