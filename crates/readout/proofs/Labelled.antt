-- The label of the nearest put together. Assumes nothing.
use Rattle.std.specs.Prelude.{ℕ, min, ◌≡◌, ◌≢◌, Bool, true, false, cond, List, length, ℤ, negsuc, Float, Option, ◌==◌}
use Rattle.std.proofs.Common.{sym, ap, ap₂, ◌∙◌}
use borrow.Author.Tests.{eq-eqb, ne_eqb}
use Rattle.lists.specs.Laws.Maps.{map_length}
use Rattle.feature.specs.Feature.{max_dim}
use Rattle.model.specs.declared.body.Body.{Body}
use Rattle.model.specs.Body.{distance_to, body_in}
use Rattle.model.specs.Nearest.{nearest_of}
use Rattle.model.specs.ReadOut.{label_near, label_for}
use Rattle.readout.specs.declared.distances.Found.{Found}
use Rattle.readout.specs.Found.{found_of}
use Rattle.readout.specs.Seen.{seen}
use Rattle.readout.specs.Told.{label_found}
use Rattle.readout.specs.Laws.Nearest.{found_map}
use Rattle.readout.specs.Laws.Label.{label_found_lem}

module _ (radius2 : Float) (labels : List ℤ) (dim : ℕ) {M : Type 0} (body_of : M → Body) (ms : List M) (x : List Float) where
  abbrev bodies : List Body
  bodies = seen dim body_of ms

  -- the distance that the code measures
  abbrev pub measured : M → Float
  measured m = distance_to x (body_in (min dim max_dim) (body_of m))

  by_counts :
      (t : Bool) → (length labels == length ms) ≡ t →
      label_for radius2 bodies labels x ≡ cond t (label_near radius2 labels (nearest_of (distance_to x) bodies)) (negsuc 0)
  unfolding label_for
  by_counts t e =
      ap₂ (λ (n : ℕ) (b : Bool). cond b (label_near radius2 labels (nearest_of (distance_to x) bodies)) (negsuc 0))
      (map_length (λ m. body_in (min dim max_dim) (body_of m)) ms)
      (ap (λ (n : ℕ). length labels == n) (map_length (λ m. body_in (min dim max_dim) (body_of m)) ms) ∙ e)

  pub label_differ : length labels ≢ length ms → negsuc 0 ≡ label_for radius2 bodies labels x
  label_differ h = sym (by_counts false (ne_eqb (length labels) (length ms) h))

  pub label_nearest :
      length labels ≡ length ms → (o : Option Found) → o ≡ found_of (nearest_of measured ms) →
      label_found radius2 labels o ≡ label_for radius2 bodies labels x
  label_nearest h o e =
      ap (label_found radius2 labels) (e ∙ sym (found_map (distance_to x) (λ m. body_in (min dim max_dim) (body_of m)) ms))
      ∙ label_found_lem radius2 labels (nearest_of (distance_to x) bodies)
      ∙ sym (by_counts true (eq-eqb (length labels) (length ms) h))
