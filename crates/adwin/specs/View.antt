-- What the struct's fields say: the window, the answer and its number. Definitions only.
use Rattle.std.specs.Prelude.{ℕ, Bool, true, false, Result, Ok, Err, List, [], ◌∷◌, take}
use Rattle.adwin_buckets.specs.declared.bucket.Bucket.{Bucket}
use Rattle.adwin.specs.declared.Adwin.{Adwin}
use Rattle.adwin.specs.declared.Verdict.{Verdict}
use Rattle.adwin.specs.declared.Verdict.TheVariants.{Quiet, Alarm}
use Rattle.adwin.specs.declared.Full.{Full}
use Rattle.adwin.specs.declared.Updated.{Updated}
use Rattle.adwin.specs.Buckets.{Classed}
use Rattle.adwin.specs.Cut.{Sums}
use Rattle.adwin.specs.Window.{Window, Outcome}

-- the buckets with their classes
unfoldable pub classed : List ℕ → List Bucket → List Classed
classed [] bs = []
classed (c ∷ cs) [] = []
classed (c ∷ cs) (b ∷ bs) = record { class = c; bucket = b } ∷ classed cs bs

-- the first count of the places are held
abbrev pub held_of : Adwin → List Classed
held_of a = take a.count (classed a.classes a.buckets)

-- the three sums that the struct keeps
abbrev pub sums_of : Adwin → Sums
sums_of a = record { width = a.width; total = a.total; variance = a.variance }

-- the window that the struct is
abbrev pub view : Adwin → Window
view a = record { delta = a.delta; held = held_of a; sums = sums_of a; since_check = a.since_check; taken = a.taken }

-- whether an answer is the alarm
abbrev pub rings : Result Verdict Full → Bool
rings (Ok Quiet) = false
rings (Ok Alarm) = true
rings (Err e) = false

-- the number that an answer refuses with; 0 where it does not
abbrev pub number_of : Result Verdict Full → ℕ
number_of (Ok v) = 0
number_of (Err e) = 8

-- an update's answer, with the window beside it
abbrev pub outcome_with : Result Verdict Full → Adwin → Outcome
outcome_with answer a = record { alarm = rings answer; refusal = number_of answer; window = view a }

-- what an update gives back, told of the window
abbrev pub told : Updated → Outcome
told r = outcome_with r.answer r.window
