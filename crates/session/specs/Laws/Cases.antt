-- A whole run by its answer, of any stream. Assumes nothing.
use Rattle.std.specs.Prelude.{ℕ, suc, ◌≡◌, refl, Bool, true, false, cond, List, [], ◌∷◌, ◌++◌, map, eqb, leb, Float, length, drop, Ok, Err}
use Rattle.std.proofs.Common.{arith, sym, ap, ◌∙◌, true≢false, eq-eqb, eqb-true}
use Rattle.lists.specs.Laws.Maps.{map_length}
use Rattle.model.specs.Answers.{open_error_number, opening_number, insertion_number, Opening}
use Rattle.model.specs.Outcome.{Opened, Outcome, opened}
use Rattle.model.specs.Run.{run_of, answers_of}
use Rattle.session.specs.Points.{points_of}
use Rattle.session.specs.Whole.{Session, session_of}
use Rattle.session.specs.Refused.{Run, refusal_number, run_asked}
use Rattle.model.specs.declared.answers.OpenError.{OpenError}
use Rattle.model.specs.declared.answers.OpenError.TheVariants.{Dim, Radius, Lambda, Share, Weight, BetaMu}

error_number : (e : OpenError) → eqb (open_error_number e) 0 ≡ false
error_number Dim = refl
error_number Radius = refl
error_number Lambda = refl
error_number Share = refl
error_number Weight = refl
error_number BetaMu = refl

answers_length :
    {S : Type 0} (insert : S → List Float → Outcome S) (s : S) (points : List (List Float)) → length (answers_of insert s points) ≡ length points
unfolding answers_of
answers_length insert s [] = refl
answers_length insert s (x ∷ xs) = ap suc (answers_length insert (insert s x).stream xs)

points_length : (lengths : List ℕ) (values : List Float) → length (points_of lengths values) ≡ length lengths
unfolding points_of
points_length [] values = refl
points_length (n ∷ rest) values = ap suc (points_length rest (drop n values))

module _
    {S : Type 0} (insert : S → List Float → Outcome S) (cluster : S → S) (o : Opened S) (lengths : List ℕ) (values : List Float) (lent : List ℕ)
  where
    abbrev points : List (List Float)
    points = points_of lengths values

    abbrev due : List ℕ
    due = map insertion_number (answers_of insert o.stream points)

    due_length : length due ≡ length lengths
    due_length = map_length insertion_number (answers_of insert o.stream points) ∙ answers_length insert o.stream points ∙ points_length lengths values

    abbrev told : ℕ → List ℕ → S → Session S
    told number numbers stream = record { number = number; numbers = numbers; stream = stream }

    by_tests :
        (a b : Bool) → eqb (opening_number o.answer) 0 ≡ a → leb (length due) (length lent) ≡ b →
        session_of insert cluster o points lent
        ≡ cond a (cond b (told 0 (due ++ drop (length due) lent) (cluster (run_of insert o.stream points))) (told 10 lent o.stream))
        (told (opening_number o.answer) lent o.stream)
    unfolding session_of
    by_tests a b p q = rw (← p, ← q)

    -- a run that is not refused was opened, and its stream is the run's, clustered
    pub not_refused :
        (session_of insert cluster o points lent).number ≡ 0 →
        (opening_number o.answer ≡ 0) × ((session_of insert cluster o points lent).stream ≡ cluster (run_of insert o.stream points))
    not_refused z = go (eqb (opening_number o.answer) 0) (leb (length due) (length lent)) refl refl
      where
        go : (a b : Bool) → eqb (opening_number o.answer) 0 ≡ a → leb (length due) (length lent) ≡ b →
            (opening_number o.answer ≡ 0) × ((session_of insert cluster o points lent).stream ≡ cluster (run_of insert o.stream points))
        go true true p q = (eqb-true (opening_number o.answer) 0 p, ap (λ (r : Session S). r.stream) (by_tests true true p q))
        go true false p q = let e : ◌≡◌ {A = ℕ} 10 0 = sym (ap (λ (r : Session S). r.number) (by_tests true false p q)) ∙ z in absurd (omega arith)
        go false b p q =
            let e : opening_number o.answer ≡ 0 = sym (ap (λ (r : Session S). r.number) (by_tests false b p q)) ∙ z in
            absurd (true≢false (sym (eq-eqb (opening_number o.answer) 0 e) ∙ p))

    -- what the code tells, by its answer
    abbrev pub told_by : Run → Session S
    told_by (Ok _) = told 0 (due ++ drop (length lengths) lent) (cluster (run_of insert o.stream points))
    told_by (Err r) = told (refusal_number r) lent o.stream

    by_answer : (a : Opening) (b : Bool) → o.answer ≡ a → leb (length lengths) (length lent) ≡ b →
        session_of insert cluster o points lent ≡ told_by (run_asked a (length lengths) (length lent))
    by_answer (Ok _) true p q =
        rw (q, ← due_length) (by_tests true true (rw p refl) (rw due_length q))
    by_answer (Ok _) false p q = rw q (by_tests true false (rw p refl) (rw due_length q))
    by_answer (Err e) b p q =
        by_tests false b (rw p (error_number e)) (rw due_length q) ∙ ap (λ (a : Opening). told (opening_number a) lent o.stream) p

-- the code's answer is the definition's, its opening too
module _
    {S : Type 0} (insert : S → List Float → Outcome S) (cluster : S → S) (lengths : List ℕ) (values : List Float) (lent : List ℕ)
    {o given : Opened S} (is : o ≡ given)
  where
    pub answered :
        (r : Run) → r ≡ run_asked o.answer (length lengths) (length lent) →
        told_by insert cluster o lengths values lent r ≡ session_of insert cluster given (points_of lengths values) lent
    answered r e =
        ap (told_by insert cluster o lengths values lent) e
        ∙ sym (by_answer insert cluster o lengths values lent o.answer (leb (length lengths) (length lent)) refl refl)
        ∙ ap (λ (q : Opened S). session_of insert cluster q (points_of lengths values) lent) is

    -- and what it tells where it goes on: the numbers of the inserts, and their run's stream, clustered
    pub ran :
        (numbers : List ℕ) (run s : S) →
        Ok tt ≡ run_asked o.answer (length lengths) (length lent) →
        numbers ≡ map insertion_number (answers_of insert o.stream (points_of lengths values)) ++ drop (length lengths) lent →
        run ≡ run_of insert o.stream (points_of lengths values) →
        s ≡ cluster run →
        record { number = 0; numbers = numbers; stream = s } ≡ session_of insert cluster given (points_of lengths values) lent
    ran numbers run s asked n r e = rw (e, r, n) (answered (Ok tt) asked)

is_open : (a : Opening) → opening_number a ≡ 0 → a ≡ Ok tt
is_open (Ok _) e = refl
is_open (Err r) e = absurd (true≢false (sym (eq-eqb (open_error_number r) 0 e) ∙ error_number r))

-- so it is the run from the fresh stream
pub run_by :
    {S : Type 0} (insert : S → List Float → Outcome S) (cluster : S → S) (a : Opening) (fresh unopened : S) (lengths : List ℕ) (values : List Float)
    (lent : List ℕ) (r : Session S) →
    r ≡ session_of insert cluster (opened a fresh unopened) (points_of lengths values) lent → r.number ≡ 0 →
    (a ≡ Ok tt) × (r.stream ≡ cluster (run_of insert fresh (points_of lengths values)))
run_by {S} insert cluster a fresh unopened lengths values lent r e z =
    let w = not_refused insert cluster (opened a fresh unopened) lengths values lent (sym (ap (λ (q : Session S). q.number) e) ∙ z) in
    let o = is_open a w.0 in (
      o,
      ap (λ (q : Session S). q.stream) e
          ∙ w.1
          ∙ ap (λ (b : Opening). cluster (run_of insert (opened b fresh unopened).stream (points_of lengths values))) o,
    )
