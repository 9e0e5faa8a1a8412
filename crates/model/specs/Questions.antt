-- Document 01, "Questions before each call". Definitions only.
use Rattle.std.specs.Prelude.{ℕ, Bool, cond, ◌&&◌, List, [], ◌∷◌, ◌==◌, from_bits, nat_le, Float, Ok, Err}
use Rattle.std.specs.Float.{binary64}
use Rattle.std.specs.Float.Ieee.{lt, le}
use Rattle.float.specs.Rounded.{nought, one}
use Rattle.float.specs.Order.{is_finite}
use Rattle.feature.specs.Feature.{max_dim}
use Rattle.model.specs.Limits.{clock_limit}
use Rattle.model.specs.declared.answers.OpenError.TheVariants.{Dim, Radius, Lambda, Share, Weight}
use Rattle.model.specs.declared.answers.InsertError.{InsertError}
use Rattle.model.specs.declared.answers.InsertError.TheVariants.{Shape, ClockAtLimit, NoPlace}
use Rattle.model.specs.Answers.{Insertion, Opening}

-- "The first no decides.": questions in order, each beside the answer that its no gives; and the answer where none is no
abbrev pub first_no : {A : Type 0} → List (Bool × A) → A → A
first_no [] otherwise = otherwise
first_no (q ∷ qs) otherwise = cond q.0 (first_no qs otherwise) q.1

-- "Is dim in 1 to 15?"
abbrev pub dim_in_range : ℕ → Bool
dim_in_range dim = nat_le 1 dim && nat_le dim max_dim

-- "finite and above 0"
abbrev pub positive : Float → Bool
positive x = is_finite x && lt nought x

-- "Is lambda in 2^−32 to 64?"
abbrev pub lambda_in_range : Float → Bool
lambda_in_range lambda = le (from_bits binary64 0x3df0_0000_0000_0000) lambda && le lambda (from_bits binary64 0x4050_0000_0000_0000)

-- "Is beta, or alpha, above 0 and at most 1?"
abbrev pub share_in_range : Float → Bool
share_in_range share = lt nought share && le share one

-- "Opening a stream", what both streams ask: the radius is eps or r, the share beta or alpha, the weight mu or min_weight
abbrev pub questions : (dim : ℕ) (radius lambda share weight : Float) → List (Bool × Opening)
questions dim radius lambda share weight =
    (dim_in_range dim, Err Dim)
    ∷ (positive radius, Err Radius)
    ∷ (lambda_in_range lambda, Err Lambda)
    ∷ (share_in_range share, Err Share)
    ∷ (positive weight, Err Weight)
    ∷ []

-- "7, with expected and got as in `ShapeError`"
abbrev pub other_length : (dim got : ℕ) → InsertError
other_length dim got = Shape (record { expected = dim; got = got })

-- "Insert (7, 8, 9)": the point's length, the clock, and whether there is a place for the point
abbrev pub insertion_asked : (dim got : ℕ) (t : Float) (place : Bool) → Insertion
insertion_asked dim got t place = first_no (((got == dim), Err (other_length dim got)) ∷ (lt t clock_limit, Err ClockAtLimit) ∷ (place, Err NoPlace) ∷ []) (Ok tt)
