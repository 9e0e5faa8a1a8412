-- A stream's alpha, min_weight and labels play no part in an insert: two streams that differ in nothing else go the same way.
use mathlib.Core.Path.{◌≡◌, refl, sym, ap, ap₂, subst}
use mathlib.Core.Bool.{Bool, true, false, cond}
use mathlib.Core.List.{List, [], ◌∷◌}
use lib.IntN.{ℤ}
use lib.Ieee.{Float}
use Rattle.model.specs.Answers.{is_done}
use Rattle.model.specs.Outcome.{Outcome}
use Rattle.model.specs.Run.{run_of, answers_of}
use Rattle.model.specs.Stream.{insert_by}
use Rattle.model.specs.DbState.{Settings, State}
use Rattle.model.specs.Dbstream.{fresh, taken_of, insert_of}
use Rattle.claims.specs.DbClaims.{with_thresholds, Laxer, SameHoldings, after, told}

module _ (alpha min_weight : Float) where
  -- s with another alpha, min_weight and other labels
  abbrev pub twin : List ℤ → State → State
  twin labels s =
      record {
        params = record { settings = with_thresholds s.params.settings alpha min_weight; t_gap = s.params.t_gap; floor = s.params.floor };
        t = s.t;
        held = s.held;
        labels = labels;
        drift = s.drift;
      }

  -- the twin's insert is answered alike, and leaves a twin
  record Alike (one two : Outcome State) : Type 0 where
    labels : List ℤ
    answer : two.answer ≡ one.answer
    stream : two.stream ≡ twin labels one.stream

  twin_insert : (labels : List ℤ) (s : State) (x : List Float) → Alike (insert_of s x) (insert_of (twin labels s) x)
  unfolding insert_by
  twin_insert labels s x = record { labels = cond (is_done (insert_of s x).answer) [] labels; answer = refl; stream = go (is_done (insert_of s x).answer) }
    where
      go : (b : Bool) → cond b (taken_of (twin labels s) x) (twin labels s) ≡ twin (cond b [] labels) (cond b (taken_of s x) s)
      go true = refl
      go false = refl

  -- and so does the whole run
  pub record TwinRun (s u : State) (xs : List (List Float)) : Type 0 where
    pub labels : List ℤ
    pub answers : answers_of insert_of u xs ≡ answers_of insert_of s xs
    pub stream : run_of insert_of u xs ≡ twin labels (run_of insert_of s xs)

  -- insert by insert
  pub twin_run : (xs : List (List Float)) (labels : List ℤ) (s u : State) → u ≡ twin labels s → TwinRun s u xs
  unfolding run_of answers_of
  twin_run [] labels s u e = record { labels = labels; answers = refl; stream = e }
  twin_run (x ∷ xs) labels s u e =
      let a : Alike (insert_of s x) (insert_of u x) = subst (λ (v : State). Alike (insert_of s x) (insert_of v x)) (sym e) (twin_insert labels s x) in
      let h : TwinRun (insert_of s x).stream (insert_of u x).stream xs = twin_run xs a.labels (insert_of s x).stream (insert_of u x).stream a.stream in
      record { labels = h.labels; answers = ap₂ ◌∷◌ a.answer h.answers; stream = h.stream }

module _ (p q : Settings) (laxer : Laxer p q) where
  twin_fresh : fresh q ≡ twin q.alpha q.min_weight [] (fresh p)
  twin_fresh = sym (ap fresh laxer.alike)

  -- two fresh streams that are alike but for the thresholds are twins
  pub twins : (xs : List (List Float)) → TwinRun q.alpha q.min_weight (fresh p) (fresh q) xs
  twins xs = twin_run q.alpha q.min_weight xs [] (fresh p) (fresh q) twin_fresh

  pub same_refusals : (xs : List (List Float)) → told p xs ≡ told q xs
  same_refusals xs = sym (twins xs).answers

  pub same_holdings : (xs : List (List Float)) → SameHoldings (after p xs) (after q xs)
  same_holdings xs =
      let e : after q xs ≡ twin q.alpha q.min_weight (twins xs).labels (after p xs) = (twins xs).stream in
      record {
        clock = sym (ap (λ (u : State). u.t) e);
        next = sym (ap (λ (u : State). u.held.next) e);
        micros = sym (ap (λ (u : State). u.held.micros) e);
        links = sym (ap (λ (u : State). u.held.links) e);
        drift = sym (ap (λ (u : State). u.drift) e);
      }
