-- Examples of `sqrt_of`, by computation. Assumes nothing.
use Rattle.std.specs.Prelude.{◌≡◌, true, false, pos, negsuc, refl}
use Rattle.std.specs.Float.{nan, fin}
use Rattle.sqrt.specs.Root.{sqrt_of}

-- "Roots of 0, 4, 2^−1074: 0, 2, 2^−537", then those of −0 and −1
pub examples :
    (sqrt_of (fin false 0 (pos 0)) ≡ fin false 0 (pos 0))
    × (sqrt_of (fin false 1 (pos 2)) ≡ fin false 1 (pos 1))
    × (sqrt_of (fin false 1 (negsuc 1073)) ≡ fin false 1 (negsuc 536))
    × (sqrt_of (fin true 0 (pos 0)) ≡ fin true 0 (pos 0))
    × (sqrt_of (fin true 1 (pos 0)) ≡ nan)
unfolding sqrt_of
examples = (refl, refl, refl, refl, refl)
