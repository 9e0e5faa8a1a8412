-- Document 01, "Readings to try": those marked *, shown of the definitions as one theorem.
use Rattle.std.specs.Prelude.{◌≡◌, ℕ, Bool, false, [], ◌∷◌, length, ℤ, negsuc, refl, Float}
use Rattle.std.specs.Float.{fin}
use Rattle.std.specs.Float.Ieee.{to_unsigned}
use Rattle.float.specs.Laws.Computed.{computed}
use Rattle.float.specs.Rounded.{nought, one, two, whole}
use Rattle.sqrt.specs.Root.{sqrt_of}
use Rattle.lists.specs.Retain.{retain}
use Rattle.feature.specs.Distance.{sum_from}
use Rattle.feature.specs.Feature.{moved, pushed, empty}
use Rattle.feature.specs.Fade.{fade_of}
use Rattle.adwin.specs.Window.{new_of, update_of}
use Rattle.adwin.specs.History as window
use Rattle.adwin.specs.Laws.Examples.{sizes_of, seven, seven_values}
use Rattle.model.specs.Fading.{ticks_of}
use Rattle.model.specs.Answers.{opening_number}
use Rattle.model.specs.Any.{any}
use Rattle.model.specs.Periods.{tp_of}
use Rattle.model.specs.Run.{run_of}
use Rattle.model.specs.Stream.{asked, tick_of, insert_by}
use Rattle.model.specs.DbState.{Settings}
use Rattle.model.specs.DbInsert.{least_of, pairs_of, gain_in}
use Rattle.model.specs.Dbstream as db
use Rattle.model.specs.DenState.{Params}
use Rattle.model.specs.Denstream as den
use Rattle.model.specs.DenInsert.{outlier_needs}

abbrev half : Float
half = fin false 1 (negsuc 0)

abbrev quarter : Float
quarter = fin false 1 (negsuc 1)

-- DBSTREAM: r 1, lambda 1
abbrev unit : ℕ → Settings
unit dim = record { dim = dim; r = one; lambda = one; alpha = one; min_weight = one }

-- "lambda 0.25, bm 2: tp 4"
abbrev fours : Params
fours = record { settings = record { dim = 1; eps = one; lambda = quarter; beta = half; mu = whole 4 }; eps2 = one; bm = two; tp = tp_of quarter two }

pub examples :
    -- "Fade, lambda 1: gaps 0, 1, 3 give 1, 0.5, 0.125."
    (fade_of one nought nought ≡ one)
    × (fade_of one one nought ≡ half)
    × (fade_of one (whole 3) nought ≡ fin false 1 (negsuc 2))
    -- "Push 0 then 2, unfaded: w 2, mean 1, ssd 2."
    × (pushed (pushed (empty 1) (nought ∷ [])) (two ∷ []) ≡ record { w = two; mean = one ∷ []; ssd = two })
    -- "lambda 0.25, bm 2: tp 4. beta 0.5, mu 2: refusal 6."
    × (fours.tp ≡ whole 4)
    × (opening_number (den.asked (record { dim = 1; eps = one; lambda = quarter; beta = half; mu = two })) ≡ 6)
    -- "That tp, age 4: outliers need 1.5."
    × (outlier_needs fours (whole 4) nought ≡ fin false 3 (negsuc 0))
    -- "Roots of 0, 4, 2^−1074: 0, 2, 2^−537."
    × (sqrt_of nought ≡ nought)
    × (sqrt_of (whole 4) ≡ two)
    × (sqrt_of (fin false 1 (negsuc 1073)) ≡ fin false 1 (negsuc 536))
    -- "r 1, lambda 1, points 0 and 1: one micro-cluster."
    × (length (run_of db.insert_of (db.fresh (unit 1)) ((nought ∷ []) ∷ (one ∷ []) ∷ [])).held.micros ≡ 1)
    -- "Seven values: five buckets of 1, one of 2.", whatever the values and delta
    × ((delta : Float) (s : ℕ → Bool) (m : ℕ → ℕ) (e : ℕ → ℤ) → sizes_of (window.run_of (new_of delta) (seven s m e)) ≡ two ∷ one ∷ one ∷ one ∷ one ∷ one ∷ [])
    -- "dim 16: refusal 1; dim 15 opens."
    × (opening_number (db.asked (unit 16)) ≡ 1)
    × (opening_number (db.asked (unit 15)) ≡ 0)
unfolding computed to_unsigned ticks_of sqrt_of sum_from moved retain any update_of asked least_of pairs_of gain_in tick_of insert_by run_of
examples = (refl, refl, refl, refl, refl, refl, refl, refl, refl, refl, refl, seven_values, refl, refl)
