-- The questions of an opening: where a stream opens, each was answered with yes; and what an opening gives. Assumes nothing.
use Rattle.std.specs.Prelude.{◌≡◌, ℕ, ◌≤◌, min, Bool, true, false, cond, ◌&&◌, List, [], ◌∷◌, ◌++◌, nat_le, refl, Ok}
use Rattle.std.proofs.Common.{arith, sym, ap, ap₂, ◌∙◌, leb-true}
use Rattle.feature.specs.Feature.{max_dim}
use Rattle.model.specs.Answers.{opening_number, is_open, Opening}
use Rattle.model.specs.Questions.{first_no, dim_in_range}
use Rattle.model.specs.Outcome.{Opened}
use Rattle.model.specs.Laws.Insert.{never}
use Rattle.model.specs.Stream.{State, Kind, asked, fresh, open_of}

-- questions whose no is a refusal; and questions that are all answered with yes
abbrev pub Refusals : List (Bool × Opening) → Type 0
Refusals [] = Unit {0}
Refusals (q ∷ qs) = (is_open q.1 ≡ false) × Refusals qs

abbrev pub AllYes : List (Bool × Opening) → Type 0
AllYes [] = Unit {0}
AllYes (q ∷ qs) = (q.0 ≡ true) × AllYes qs

pub all_yes : (qs : List (Bool × Opening)) → Refusals qs → is_open (first_no qs (Ok tt)) ≡ true → AllYes qs
all_yes [] r h = tt
all_yes (q ∷ qs) r h = go q.0 refl h (all_yes qs r.1)
  where
    go :
        (b : Bool) → q.0 ≡ b → is_open (cond b (first_no qs (Ok tt)) q.1) ≡ true → (is_open (first_no qs (Ok tt)) ≡ true → AllYes qs) →
        (q.0 ≡ true) × AllYes qs
    go true e k ih = (e, ih k)
    go false e k ih = never (sym r.0 ∙ k)

-- an accepted dim is not cut
second_yes : (a b : Bool) → (a && b) ≡ true → b ≡ true
second_yes true b e = e
second_yes false b e = never e

pub uncut : (dim : ℕ) → dim_in_range dim ≡ true → min dim max_dim ≡ dim
uncut dim e =
    let low : dim ≤ max_dim = leb-true dim max_dim (second_yes (nat_le 1 dim) (nat_le dim max_dim) e) in
    omega arith

-- ---- one question more: asked only where the others were all answered with yes
module _ (last : Bool × Opening) where
  abbrev more : List (Bool × Opening) → Opening
  more qs = first_no (qs ++ last ∷ []) (Ok tt)

  abbrev asking : Opening → Opening
  asking a = cond (is_open a) (cond last.0 (Ok tt) last.1) a

  asked_more : (qs : List (Bool × Opening)) → Refusals qs → asking (first_no qs (Ok tt)) ≡ more qs
  asked_more [] r = refl
  asked_more (q ∷ qs) r = go q.0 (asked_more qs r.1)
    where
      go : (b : Bool) → asking (first_no qs (Ok tt)) ≡ more qs → asking (cond b (first_no qs (Ok tt)) q.1) ≡ cond b (more qs) q.1
      go true ih = ih
      go false ih = ap (λ (c : Bool). cond c (cond last.0 (Ok tt) last.1) q.1) r.0

  -- a is the others' answer
  pub one_more :
      (qs : List (Bool × Opening)) →
      Refusals qs →
      (a : Opening) (others this : Bool) →
      a ≡ first_no qs (Ok tt) →
      is_open a ≡ others →
      last.0 ≡ this →
      cond others (cond this (Ok tt) last.1) a ≡ more qs
  one_more qs r a others this e eo et =
      ap₂ (λ (o t : Bool). cond o (cond t (Ok tt) last.1) a) (sym eo) (sym et) ∙ ap asking e ∙ asked_more qs r

-- ---- an opening of a stream of any kind
module _ {S P H : Type 0} (k : Kind S P H) (p : S) where
  pub opens_yes : Refusals (k.questions p) → is_open (asked k p) ≡ true → AllYes (k.questions p)
  unfolding asked
  opens_yes = all_yes (k.questions p)

  -- p is of dim coordinates, about which its questions ask; no is the number of their first no
  module _
      (dim : ℕ) (of : ℕ → S) (is : of dim ≡ p)
      (r : Refusals (k.questions p)) (asks : AllYes (k.questions p) → dim_in_range dim ≡ true)
      (no : ℕ) (said : (o : Opened (State P H)) → o ≡ open_of k p → opening_number o.answer ≡ no) where
    -- a stream that opens has dim coordinates: they are not cut
    whole : is_open (asked k p) ≡ true → fresh k (of (min dim max_dim)) ≡ fresh k p
    whole opens =
        let low : dim_in_range dim ≡ true = asks (opens_yes r opens) in
        ap (fresh k) (ap of (uncut dim low) ∙ is)

    -- both clauses of an opening: a is the answer, v the stream beside it, of at most 15 coordinates
    pub opened_as :
        (a : Opening) (b : Bool) (v : State P H) → a ≡ asked k p → is_open a ≡ b →
        v ≡ cond b (fresh k (of (min dim max_dim))) (fresh k k.zeros) →
        (◌≡◌ {A = Opened (State P H)} (record { answer = a; stream = v }) (open_of k p)) × (opening_number a ≡ no)
    opened_as a b v e t ev =
        let stands : v ≡ cond (is_open (asked k p)) (fresh k p) (fresh k k.zeros) = ev ∙ go b (ap is_open (sym e) ∙ t) in
        let opened : ◌≡◌ {A = Opened (State P H)} (record { answer = a; stream = v }) (open_of k p) =
        ap₂ (λ (q : Opening) (s : State P H). record { answer = q; stream = s }) e stands in
        (opened, said _ opened)
      where
        go :
            (b : Bool) → is_open (asked k p) ≡ b →
            cond b (fresh k (of (min dim max_dim))) (fresh k k.zeros) ≡ cond (is_open (asked k p)) (fresh k p) (fresh k k.zeros)
        go true h = whole h ∙ ap (λ (q : Bool). cond q (fresh k p) (fresh k k.zeros)) (sym h)
        go false h = ap (λ (q : Bool). cond q (fresh k p) (fresh k k.zeros)) (sym h)
