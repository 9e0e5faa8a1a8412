-- One figure of each element, written into a lent slice. Assumes nothing.
use Prim.Native.Nat.{ℕ, ◌+◌, ◌≤◌, ◌<◌}
use mathlib.Core.Path.{◌≡◌, refl, sym, ap₂, ◌∙◌}
use mathlib.Core.List.{List, [], ◌∷◌, map}
use lib.Ieee.{Float}
use lib.ListN.{length, get_or, set}
use Rattle.lists.specs.Laws.Maps.{map_length, map_get_d}
use Rattle.model.specs.declared.body.Body.{Body}
use Rattle.model.specs.Body.{body_in}
use Rattle.model.specs.ReadOut.{written}
use Rattle.readout.proofs.Copies.{partly, copy_step, copy_end}

module _ (f : Body → Float) where
  -- a figure that has nothing to do with the coordinates
  pub figures_in : (w : ℕ) → ((b : Body) → f (body_in w b) ≡ f b) → (l : List Body) → map f (map (body_in w) l) ≡ map f l
  figures_in w same [] = refl
  figures_in w same (b ∷ l) = ap₂ ◌∷◌ (same b) (figures_in w same l)

  -- a turn of the loop: i figures are written
  module _ (l : List Body) (lent out : List Float) (i : ℕ) (room : length l ≤ length lent) (e : out ≡ partly (map f l) lent i) where
    pub figure_step : (v : Float) (z : Body) → v ≡ f (get_or l i z) → i < length l → set out i v ≡ partly (map f l) lent (i + 1)
    figure_step v z ev k = copy_step (map f l) lent out (length l) (map_length f l) room i e v (f z) (ev ∙ sym (map_get_d f l i z)) k

    pub figure_end : i ≡ length l → out ≡ written (map f l) lent
    figure_end = copy_end (map f l) lent out (length l) (map_length f l) room i e
