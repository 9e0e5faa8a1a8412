-- Each opening and each insert is refused with document 01's number and values. Assumes nothing.
use Rattle.std.specs.Prelude.{◌≡◌, Bool, true, false, cond, ◌≢◌, List, [], ◌∷◌, map, length, ◌==◌, refl, Float, Ok, Err}
use Rattle.std.proofs.Common.{ap, ◌∙◌}
use Rattle.std.specs.Float.Ieee.{lt}
use Rattle.model.specs.Limits.{clock_limit}
use Rattle.model.specs.Answers.{opening_number, insertion_number, is_done, Insertion, Opening, is_open}
use Rattle.model.specs.Questions.{first_no, other_length}
use Rattle.model.specs.Numbers.{db_opening_no, den_opening_no, insertion_no, insertion_said}
use Rattle.model.specs.Outcome.{Opened, Outcome}
use Rattle.model.specs.Laws.Insert.{given_back}
use Rattle.model.specs.Stream.{State, Kind, asked, open_of, has_place, insert_by, insert_of}
use Rattle.model.specs.DbState as db
use Rattle.model.specs.DenState as den
use Rattle.model.specs.Dbstream.{dbstream}
use Rattle.model.specs.Denstream.{denstream}
use Rattle.model.specs.declared.answers.InsertError.TheVariants.{Shape, ClockAtLimit, NoPlace}
use Rattle.std.specs.Result.{is_ok}
use Rattle.model.specs.declared.answers.OpenError.{OpenError}
use Rattle.model.specs.declared.answers.OpenError.TheVariants.{Dim, Radius, Lambda, Share, Weight, BetaMu}
use Rattle.model.specs.declared.answers.InsertError.{InsertError}

-- what is said of the first no is the first no of what is said
first_no_lem : {A B : Type 0} (f : A → B) (qs : List (Bool × A)) (a : A) → f (first_no qs a) ≡ first_no (map (λ (q : Bool × A). (q.0, f q.1)) qs) (f a)
first_no_lem {A} f [] a = refl
first_no_lem {A} f (q ∷ qs) a = go q.0 (first_no_lem f qs a)
  where
    go :
        (b : Bool) → f (first_no qs a) ≡ first_no (map (λ (q : Bool × A). (q.0, f q.1)) qs) (f a) →
        f (cond b (first_no qs a) q.1) ≡ cond b (first_no (map (λ (q : Bool × A). (q.0, f q.1)) qs) (f a)) (f q.1)
    go true h = h
    go false h = refl

-- an insert of a stream of any kind
pub insertion_said_lem :
    {S P H : Type 0} (k : Kind S P H) (s : State P H) (x : List Float) (o : Outcome (State P H)) → o ≡ insert_of k s x →
    insertion_said o.answer ≡ insertion_no (k.dim s.params) (length x) s.t (has_place k s x)
unfolding insert_by
insertion_said_lem {S} {P} {H} k s x o e =
    ap (λ (q : Outcome (State P H)). insertion_said q.answer) e
    ∙ first_no_lem insertion_said
    (((length x == k.dim s.params), Err (other_length (k.dim s.params) (length x))) ∷ (lt s.t clock_limit, Err ClockAtLimit) ∷ (has_place k s x, Err NoPlace) ∷ []) (Ok tt)

-- the three clauses of an insert, from the first: its answer a, v what becomes of s, r the stream that stands for it, came the one that came
pub inserted_as :
    {S P H R : Type 0} (k : Kind S P H) (s : State P H) (x : List Float) (a : Insertion) (v : State P H) (done : Bool) (r came : R) →
    ◌≡◌ {A = Outcome (State P H)} (record { answer = a; stream = v }) (insert_of k s x) →
    done ≡ is_done a →
    (done ≡ false → r ≡ came) →
    (◌≡◌ {A = Outcome (State P H)} (record { answer = a; stream = v }) (insert_of k s x))
    × ((insertion_number a ≢ 0 → r ≡ came) × (insertion_said a ≡ insertion_no (k.dim s.params) (length x) s.t (has_place k s x)))
inserted_as k s x a v done r came told eb kept = (told, (given_back a done r came eb kept, insertion_said_lem k s x _ told))

-- an opening: the first no's number
opening_said :
    {S P H : Type 0} (k : Kind S P H) (p : S) (o : Opened (State P H)) → o ≡ open_of k p →
    opening_number o.answer ≡ first_no (map (λ (q : Bool × Opening). (q.0, opening_number q.1)) (k.questions p)) 0
unfolding asked
opening_said {S} {P} {H} k p o e = ap (λ (q : Opened (State P H)). opening_number q.answer) e ∙ first_no_lem opening_number (k.questions p) (Ok tt)

pub db_opening_said :
    (p : db.Settings) (o : Opened db.State) → o ≡ open_of dbstream p →
    opening_number o.answer ≡ db_opening_no p
db_opening_said p o e = opening_said dbstream p o e

pub den_opening_said :
    (p : den.Settings) (o : Opened den.State) → o ≡ open_of denstream p →
    opening_number o.answer ≡ den_opening_no p
den_opening_said p o e = opening_said denstream p o e

error_shuts : (e : OpenError) → is_open (Err e) ≡ false
error_shuts Dim = refl
error_shuts Radius = refl
error_shuts Lambda = refl
error_shuts Share = refl
error_shuts Weight = refl
error_shuts BetaMu = refl

-- a stream is open where there is no error
pub open_ok : (a : Opening) → is_open a ≡ is_ok a
open_ok (Ok u) = refl
open_ok (Err e) = error_shuts e

-- an error refuses the point
pub error_refuses : (e : InsertError) → is_done (Err e) ≡ false
error_refuses (Shape e) = refl
error_refuses ClockAtLimit = refl
error_refuses NoPlace = refl
