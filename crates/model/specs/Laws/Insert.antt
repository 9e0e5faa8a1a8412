-- The questions of an insert, opened here and nowhere else; and what follows for an answer. Assumes nothing.
use Rattle.std.specs.Prelude.{◌≡◌, ℕ, ◌-◌, ◌≤◌, Bool, true, false, cond, ◌≢◌, List, [], ◌∷◌, ◌++◌, length, take, replicate, ◌==◌, nat_eq, refl, Float, Ok, Err}
use Rattle.std.proofs.Common.{arith, sym, ap, ap₂, ◌∙◌, true≢false, ne_eqb, eqb-true, take_all}
use Rattle.std.proofs.Math.Decide.{ℕ_discrete}
use Rattle.std.proofs.Math.Logic.{by_cases}
use Rattle.std.specs.Float.Ieee.{lt}
use Rattle.std.proofs.Math.Seq.{take-append_seam}
use Rattle.float.specs.Rounded.{nought}
use Rattle.feature.specs.Feature.{max_dim}
use Rattle.model.specs.Limits.{clock_limit}
use Rattle.model.specs.Answers.{insertion_number, is_done, Insertion}
use Rattle.model.specs.Questions.{first_no, other_length, insertion_asked}
use Rattle.model.specs.Point.{padded_of}
use Rattle.model.specs.declared.answers.InsertError.TheVariants.{ClockAtLimit, NoPlace}

pub never : {A : Type 0} → false ≡ true → A
never e = absurd (true≢false (sym e))

-- a point of dim coordinates, out of the places that it was copied to
pub point_is : (x p : List Float) (d : ℕ) → length x ≡ d → d ≤ max_dim → p ≡ padded_of x → take d p ≡ x
point_is x p d e h q =
    ap₂ (λ (n : ℕ) (l : List Float). take n l) (sym e) (q ∙ ap (λ (l : List Float). l ++ zeros) (take_all max_dim x (omega (arith, e, h))))
    ∙ take-append_seam x zeros
  where
    zeros : List Float
    zeros = replicate (max_dim - length x) nought

module _ (dim got : ℕ) (t : Float) where
  -- refused; or taken, with dim coordinates, below the clock's limit and with a place
  pub asked_cases :
      (place : Bool) (P : Insertion → Type 0) → ((a : Insertion) → is_done a ≡ false → P a) →
      (got ≡ dim → lt t clock_limit ≡ true → place ≡ true → P (Ok tt)) → P (insertion_asked dim got t place)
  asked_cases place P refuse accept = go (got == dim) (lt t clock_limit) place refl refl refl
    where
      go : (b c d : Bool) → (got == dim) ≡ b → lt t clock_limit ≡ c → place ≡ d → P (first_no ((b, Err (other_length dim got)) ∷ (c, Err ClockAtLimit) ∷ (d, Err NoPlace) ∷ []) (Ok tt))
      go false c d e f g = refuse (Err (other_length dim got)) refl
      go true false d e f g = refuse (Err ClockAtLimit) refl
      go true true false e f g = refuse (Err NoPlace) refl
      go true true true e f g = accept (eqb-true got dim e) f g

  -- a point of another length has the same answer with a place or without
  other_answer : (p q : Bool) → got ≢ dim → insertion_asked dim got t p ≡ insertion_asked dim got t q
  other_answer p q h =
      let e : nat_eq got dim ≡ false = ne_eqb got dim h in
      ap (λ (b : Bool). cond b (cond (lt t clock_limit) (cond p (Ok tt) (Err NoPlace)) (Err ClockAtLimit)) (Err (other_length dim got))) e
      ∙ sym (ap (λ (b : Bool). cond b (cond (lt t clock_limit) (cond q (Ok tt) (Err NoPlace)) (Err ClockAtLimit)) (Err (other_length dim got))) e)

  pub same_answer : (p q : Bool) → (got ≡ dim → p ≡ q) → insertion_asked dim got t p ≡ insertion_asked dim got t q
  same_answer p q same = by_cases (ℕ_discrete got dim) (λ h. ap (insertion_asked dim got t) (same h)) (other_answer p q)

  -- a point that is taken has dim coordinates, and a place
  pub taken_asks : (p : Bool) (a : Insertion) → a ≡ insertion_asked dim got t p → is_done a ≡ true → (got ≡ dim) × (p ≡ true)
  taken_asks p a e done =
      asked_cases p (λ (b : Insertion). is_done b ≡ true → (got ≡ dim) × (p ≡ true)) (λ b r h. never (sym r ∙ h)) (λ h l q d. (h, q)) (ap is_done (sym e) ∙ done)

-- a refused stream is the one that came
pub given_back : {S : Type 0} (a : Insertion) (b : Bool) (r came : S) → b ≡ is_done a → (b ≡ false → r ≡ came) → insertion_number a ≢ 0 → r ≡ came
given_back a b r came h same refusal = same (h ∙ ne_eqb (insertion_number a) 0 refusal)

-- what becomes of a stream goes by whether the point is taken: both clauses of it, as view sees it and as it came
module _ {S R : Type 0} (view : R → S) (done : Bool) (taken : S) (came : R) where
  pub when_refused : done ≡ false → (view came ≡ cond done taken (view came)) × (done ≡ false → came ≡ came)
  when_refused e = (sym (ap (λ (q : Bool). cond q taken (view came)) e), λ q. refl)

  pub when_done : (r : R) → done ≡ true → view r ≡ taken → (view r ≡ cond done taken (view came)) × (done ≡ false → r ≡ came)
  when_done r e is = (is ∙ sym (ap (λ (q : Bool). cond q taken (view came)) e), λ q. never (sym q ∙ e))
