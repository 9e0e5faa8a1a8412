-- Document 01, Readings to try, marked *: "Seven values: five buckets of 1, one of 2."
use Rattle.std.specs.Prelude.{◌≡◌, ℕ, Bool, List, [], ◌∷◌, map, ℤ, refl}
use lib.Ieee.{Float, fin, of_bits}
use Rattle.float.specs.Rounded.{one, two}
use Rattle.adwin.specs.Buckets.{Classed}
use Rattle.adwin.specs.Window.{Window, new_of}
use Rattle.adwin.specs.History.{run_of}

-- the sizes of the buckets, oldest first
abbrev pub sizes_of : Window → List Float
sizes_of w = map (λ (c : Classed). c.bucket.size) w.held

-- seven finite values, of any signs, digits and exponents
abbrev pub seven : (s : ℕ → Bool) (m : ℕ → ℕ) (e : ℕ → ℤ) → List Float
seven s m e = map (λ (i : ℕ). fin (s i) (m i) (e i)) (0 ∷ 1 ∷ 2 ∷ 3 ∷ 4 ∷ 5 ∷ 6 ∷ [])

-- the seven values as buckets, whatever they are
pub seven_values :
    (delta : Float) (s : ℕ → Bool) (m : ℕ → ℕ) (e : ℕ → ℤ) →
    sizes_of (run_of (new_of delta) (seven s m e)) ≡ two ∷ one ∷ one ∷ one ∷ one ∷ one ∷ []
unfolding run_of of_bits lib.Ieee.add
seven_values delta s m e = refl
