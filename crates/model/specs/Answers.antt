-- Document 01's number of each answer, and the values that it carries. Definitions only.
use Rattle.std.specs.Prelude.{ℕ, Bool, List, [], ◌∷◌, ℤ, ◌==◌, Float, Result, Ok, Err, ⊤}
use Rattle.std.proofs.Math.Option.{Option, none, some}
use Rattle.model.specs.declared.answers.OpenError.{OpenError}
use Rattle.model.specs.declared.answers.OpenError.TheVariants.{Dim, Radius, Lambda, Share, Weight, BetaMu}
use Rattle.model.specs.declared.answers.InsertError.{InsertError}
use Rattle.model.specs.declared.answers.InsertError.TheVariants.{Shape, ClockAtLimit, NoPlace}
use Rattle.model.specs.declared.answers.ShapeError.{ShapeError}
use Rattle.model.specs.declared.answers.TooShort.{TooShort}
use Rattle.model.specs.declared.answers.NotLive.{NotLive}

-- what an opening, an insert, predict, a read-out into lent slices and connectivity answer
abbrev pub Opening : Type 0
Opening = Result ⊤ OpenError

abbrev pub Insertion : Type 0
Insertion = Result ⊤ InsertError

abbrev pub Prediction : Type 0
Prediction = Result ℤ ShapeError

abbrev pub ReadOut : Type 0
ReadOut = Result ⊤ TooShort

abbrev pub Connectivity : Type 0
Connectivity = Result Float NotLive

-- "A refusal carries its number"
abbrev pub open_error_number : OpenError → ℕ
open_error_number Dim = 1
open_error_number Radius = 2
open_error_number Lambda = 3
open_error_number Share = 4
open_error_number Weight = 5
open_error_number BetaMu = 6

abbrev pub insert_error_number : InsertError → ℕ
insert_error_number (Shape e) = 7
insert_error_number ClockAtLimit = 8
insert_error_number NoPlace = 9

-- of an answer: 0 where there is none
abbrev pub opening_number : Opening → ℕ
opening_number (Ok _) = 0
opening_number (Err e) = open_error_number e

abbrev pub is_open : Opening → Bool
is_open a = opening_number a == 0

abbrev pub insertion_number : Insertion → ℕ
insertion_number (Ok _) = 0
insertion_number (Err e) = insert_error_number e

abbrev pub is_done : Insertion → Bool
is_done a = insertion_number a == 0

-- "with expected and got as in `ShapeError`"
abbrev pub insertion_values : Insertion → List ℕ
insertion_values (Ok _) = []
insertion_values (Err (Shape e)) = e.expected ∷ e.got ∷ []
insertion_values (Err ClockAtLimit) = []
insertion_values (Err NoPlace) = []

-- what a call says that gives something: the number of its refusal and the values of that, or what it gives
pub record Said (A : Type 0) : Type 0 where
  pub number : ℕ
  pub values : List ℕ
  pub given : Option A

abbrev pub gives : {A : Type 0} → A → Said A
gives a = record { number = 0; values = []; given = some a }

abbrev pub refuses : {A : Type 0} → (number : ℕ) → (values : List ℕ) → Said A
refuses number values = record { number = number; values = values; given = none }

abbrev pub prediction_said : Prediction → Said ℤ
prediction_said (Ok label) = gives label
prediction_said (Err e) = refuses 7 (e.expected ∷ e.got ∷ [])

abbrev pub read_out_number : ReadOut → ℕ
read_out_number (Ok _) = 0
read_out_number (Err _) = 10

abbrev pub connectivity_said : Connectivity → Said Float
connectivity_said (Ok value) = gives value
connectivity_said (Err _) = refuses 12 []
