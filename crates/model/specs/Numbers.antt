-- Document 01's refusals by number and values, from the questions alone. Definitions only.
use Rattle.std.specs.Prelude.{ℕ, Bool, List, [], ◌∷◌, ◌++◌, ◌==◌, Float}
use Rattle.std.specs.Float.Ieee.{lt}
use Rattle.float.specs.Rounded.{one}
use Rattle.model.specs.declared.settings.DbSettings.{DbSettings}
use Rattle.model.specs.declared.settings.DenSettings.{DenSettings}
use Rattle.model.specs.Limits.{clock_limit}
use Rattle.model.specs.Answers.{insertion_number, insertion_values, Insertion}
use Rattle.model.specs.Questions.{first_no, dim_in_range, positive, lambda_in_range, share_in_range}
use Rattle.model.specs.Periods.{bm_of}

-- "Opening a stream": "No: 1" to "No: 5"
abbrev pub opening_asks : (dim : ℕ) (radius lambda share weight : Float) → List (Bool × ℕ)
opening_asks dim radius lambda share weight =
    (dim_in_range dim, 1) ∷ (positive radius, 2) ∷ (lambda_in_range lambda, 3) ∷ (share_in_range share, 4) ∷ (positive weight, 5) ∷ []

-- the number of a DBSTREAM's opening: the first no's, or 0
abbrev pub db_opening_no : DbSettings → ℕ
db_opening_no p = first_no (opening_asks p.dim p.r p.lambda p.alpha p.min_weight) 0

-- of a DenStream's: "is beta × mu above 1? No: 6."
abbrev pub den_opening_no : DenSettings → ℕ
den_opening_no p = first_no (opening_asks p.dim p.eps p.lambda p.beta p.mu ++ (lt one (bm_of p.beta p.mu), 6) ∷ []) 0

-- an insert's number and values: "7, with expected and got", 8, 9, or 0
abbrev pub insertion_no : (dim got : ℕ) (t : Float) (place : Bool) → ℕ × List ℕ
insertion_no dim got t place = first_no (((got == dim), (7, dim ∷ got ∷ [])) ∷ (lt t clock_limit, (8, [])) ∷ (place, (9, [])) ∷ []) (0, [])

-- the same of an answer
abbrev pub insertion_said : Insertion → ℕ × List ℕ
insertion_said a = (insertion_number a, insertion_values a)
