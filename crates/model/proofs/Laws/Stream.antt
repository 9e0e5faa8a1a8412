-- What holds of a stream of any kind: its tick, its insert, its labels. Assumes nothing.
use Rattle.std.specs.Prelude.{◌≡◌, ℕ, Bool, true, false, cond, ◌≢◌, List, [], length, Float, Ok}
use Rattle.std.proofs.Math.Path.{refl, ap, ap₂, subst}
use Rattle.std.proofs.Common.{sym, ◌∙◌}
use Rattle.std.specs.Float.Ieee.{lt}
use Rattle.float.specs.Rounded.{◌⊕◌, one}
use Rattle.drift.specs.Monitor.{observe_of, Nearest}
use Rattle.model.specs.Limits.{clock_limit}
use Rattle.model.specs.Answers.{is_done, Insertion}
use Rattle.model.specs.Questions.{insertion_asked}
use Rattle.model.specs.Fading.{is_multiple}
use Rattle.model.specs.Ticking.{Tick}
use Rattle.model.specs.Outcome.{Outcome, outcome}
use Rattle.model.specs.Laws.Insert.{never, asked_cases, same_answer, taken_asks}
use Rattle.model.specs.Stream.{State, Kind, holding, taking, advanced, cleaned_of, tick_of, taken_of, has_place, insert_by, insert_of}

module _ {S P H : Type 0} (k : Kind S P H) where
  -- ---- the tick
  module _ (s : State P H) (d : Nearest) where
    pub tick_params : (tick_of k s d).params ≡ s.params
    unfolding tick_of
    tick_params = refl

    pub tick_clock : (tick_of k s d).t ≡ s.t ⊕ one
    unfolding tick_of
    tick_clock = refl

    pub tick_drift : (tick_of k s d).drift ≡ observe_of s.drift d s.t
    unfolding tick_of
    tick_drift = refl

    pub tick_labels : (tick_of k s d).labels ≡ s.labels
    unfolding tick_of
    tick_labels = refl

    -- with a cleanup, or without
    pub tick_cases :
        (Q : State P H → Type 0) →
        Q (holding (advanced s d) (k.cleaned s.params (s.t ⊕ one) s.held)) →
        Q (advanced s d) →
        Q (tick_of k s d)
    unfolding tick_of
    tick_cases Q due still = go (is_multiple (s.t ⊕ one) (k.period s.params))
      where
        go : (b : Bool) → Q (holding (advanced s d) (cond b (k.cleaned s.params (s.t ⊕ one) s.held) s.held))
        go true = due
        go false = still

    -- q is what the clock tells: the tick is s at that time with that monitor, cleaned where that is due
    module _
        (q : Tick)
        (told : q ≡ record { t = s.t ⊕ one; drift = observe_of s.drift d s.t; due = is_multiple (s.t ⊕ one) (k.period s.params) }) where
      abbrev at : Tick → State P H
      at u = record { params = s.params; t = u.t; held = s.held; labels = s.labels; drift = u.drift }

      pub ticked : (due : Bool) (v : State P H) → q.due ≡ due → v ≡ cond due (cleaned_of k (at q)) (at q) → v ≡ tick_of k s d
      unfolding tick_of
      ticked due v e ev =
          ev ∙ ap (λ (b : Bool). cond b (cleaned_of k (at q)) (at q)) (sym e) ∙ ap (λ (u : Tick). cond u.due (cleaned_of k (at u)) (at u)) told
          ∙ go (is_multiple (s.t ⊕ one) (k.period s.params))
        where
          go :
              (b : Bool) →
              cond b (cleaned_of k (advanced s d)) (advanced s d)
              ≡ holding (advanced s d) (cond b (k.cleaned s.params (s.t ⊕ one) s.held) s.held)
          go true = refl
          go false = refl

  -- ---- the insert
  module _ (place : State P H → List Float → Bool) (s : State P H) (x : List Float) where
    -- refused, with the stream as it came; or taken
    pub insert_cases :
        (Q : Outcome (State P H) → Type 0) →
        ((a : Insertion) → is_done a ≡ false → Q (record { answer = a; stream = s })) →
        (lt s.t clock_limit ≡ true → place s x ≡ true → Q (record { answer = Ok tt; stream = taken_of k s x })) →
        Q (insert_by k place s x)
    unfolding insert_by
    insert_cases Q refuse accept =
        asked_cases (k.dim s.params) (length x) s.t (place s x) (λ (a : Insertion). Q (outcome a s (taken_of k s x)))
        (λ a r. subst (λ (b : Bool). Q (record { answer = a; stream = cond b (taken_of k s x) s })) (sym r) (refuse a r)) (λ h l p. accept l p)

  -- d coordinates, a place p, what is held h and the distance near as found of a point of d coordinates; the answer a; v what becomes of the stream
  pub inserted_by :
      (s : State P H) (x : List Float) (d : ℕ) (p : Bool) (h : H) (near : Nearest) (a : Insertion) (b : Bool) (v : State P H) →
      d ≡ k.dim s.params →
      (length x ≡ d → p ≡ has_place k s x) →
      (length x ≡ d → p ≡ true → h ≡ k.placed s x) →
      (length x ≡ d → near ≡ k.nearest_for s x) →
      a ≡ insertion_asked d (length x) s.t p →
      b ≡ is_done a →
      v ≡ cond b (tick_of k (taking s h) near) s →
      ◌≡◌ {A = Outcome (State P H)} (record { answer = a; stream = v }) (insert_of k s x)
  unfolding insert_by
  inserted_by s x d p h near a b v ed ep eh en ea eb ev =
      ap (λ (u : State P H). record { answer = a; stream = u }) (ev ∙ given b eb ∙ ap (λ (c : Bool). cond c (taken_of k s x) s) eb)
      ∙ ap (λ (c : Insertion). outcome c s (taken_of k s x))
      (ea ∙ same_answer d (length x) s.t p (has_place k s x) ep ∙ ap (λ (n : ℕ). insertion_asked n (length x) s.t (has_place k s x)) ed)
    where
      given : (c : Bool) → c ≡ is_done a → cond c (tick_of k (taking s h) near) s ≡ cond c (taken_of k s x) s
      given true e =
          let asks : (length x ≡ d) × (p ≡ true) = taken_asks d (length x) s.t p a ea (sym e) in
          ap₂ (λ (g : H) (d : Nearest). tick_of k (taking s g) d) (eh asks.0 asks.1) (en asks.0)
      given false e = refl

  -- "a refused insert changes nothing"
  pub refused_nothing :
      (place : State P H → List Float → Bool) (s : State P H) (x : List Float) → (insert_by k place s x).answer ≢ Ok tt → (insert_by k place s x).stream ≡ s
  refused_nothing place s x =
      insert_cases place s x (λ (r : Outcome (State P H)). r.answer ≢ Ok tt → r.stream ≡ s) (λ a h q. refl) (λ l e q. absurd (q refl))

  -- ---- "Insert clears labels."
  pub insert_clears :
      (place : State P H → List Float → Bool) (s : State P H) (x : List Float) → (insert_by k place s x).answer ≡ Ok tt →
      (insert_by k place s x).stream.labels ≡ []
  insert_clears place s x =
      insert_cases place s x (λ (r : Outcome (State P H)). r.answer ≡ Ok tt → r.stream.labels ≡ [])
      (λ a h q. never (sym h ∙ ap is_done q)) (λ l e q. tick_labels (taking s (k.placed s x)) (k.nearest_for s x))
