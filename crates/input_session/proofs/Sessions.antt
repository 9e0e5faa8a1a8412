-- Which session an input gives, question by question. Assumes nothing.
use Rattle.std.specs.Prelude.{ℕ, ◌≡◌, ◌-◌, ◌*◌, ◌/◌, ◌≤◌, refl, Bool, true, false, ◌&&◌, cond, List, [], ◌∷◌, length, take, drop, eqb, leb, Ok, Err}
use Rattle.std.proofs.Common.{sym, ap, ap₂, ◌∙◌, subst, true≢false, length-drop}
use Rattle.std.proofs.Math.Seq.{take-length}
use lib.Dec.{T, leb→le}
use lib.Ieee.Fits.{and_l, and_r}
use Rattle.words.specs.Word.{word_at}
use Rattle.model.specs.declared.answers.OpenError.{OpenError}
use Rattle.model.specs.declared.answers.OpenError.TheVariants.{Dim, Radius, Lambda, Share, Weight}
use Rattle.model.specs.Answers.{open_error_number, opening_number, is_open, Opening}
use Rattle.model.proofs.Laws.Numbers.{open_ok, error_refuses}
use Rattle.model.specs.Questions.{dim_in_range, positive, lambda_in_range, share_in_range, first_no}
use Rattle.model.specs.Outcome.{Opened, Outcome}
use Rattle.model.specs.Stream as stream
use Rattle.model.specs.DbState.{Settings, State}
use Rattle.model.specs.Dbstream.{open_of}
use Rattle.input_session.specs.Input.{head_size, settings_in, points_from, points_in, is_whole}
use Rattle.input_session.specs.declared.refusal.Refusal.{Refusal}
use Rattle.input_session.specs.declared.refusal.Refusal.TheVariants as refusal
use Rattle.input_session.specs.Refused.{refusal_number}
use Rattle.input_session.specs.Session.{Ran, ran, insert_all, inserted_ran, opened_ran, ran_of}
use Rattle.input_session.proofs.Runs.{points, points_behind}

-- an opening that is accepted has dim in range
pub open_dim : (p : Settings) (o : Opened State) → o ≡ open_of p → is_open o.answer ≡ true → dim_in_range p.dim ≡ true
unfolding stream.asked
open_dim p o e h = go (dim_in_range p.dim) (sym (ap (λ (q : Opened State). is_open q.answer) e) ∙ h)
  where
    rest : Opening
    rest =
        first_no
        ((positive p.r, Err Radius) ∷ (lambda_in_range p.lambda, Err Lambda) ∷ (share_in_range p.alpha, Err Share) ∷ (positive p.min_weight, Err Weight) ∷ [])
        (Ok tt)

    go : (b : Bool) → is_open (cond b rest (Err Dim)) ≡ true → b ≡ true
    go true q = refl
    go false q = absurd (true≢false (sym q))

pub in_range : (p : Settings) (o : Opened State) → o ≡ open_of p → o.answer ≡ Ok tt → (1 ≤ p.dim) × (p.dim ≤ 15)
in_range p o e h =
    let t : T (leb 1 p.dim && leb p.dim 15) = subst T (sym (open_dim p o e (ap is_open h))) tt in
    (leb→le 1 p.dim (and_l (leb 1 p.dim) (leb p.dim 15) t), leb→le p.dim 15 (and_r (leb 1 p.dim) (leb p.dim 15) t))

-- no refusal's number is 0
pub no_nought : (r : Refusal) → eqb (refusal_number r) 0 ≡ false
no_nought refusal.Input = refl
no_nought (refusal.Opening e) = open_ok (Err e)
no_nought (refusal.Insertion e) = error_refuses e

-- the points are in the bytes behind the settings
abbrev pub behind : List ℕ → List ℕ
behind bytes = take (length bytes - head_size) (drop head_size bytes)

points_are : (bytes : List ℕ) → points (word_at bytes 0) (behind bytes) ≡ points_in bytes
points_are bytes =
    let dim = word_at bytes 0 in
    let all : behind bytes ≡ drop head_size bytes =
    ap (λ (n : ℕ). take n (drop head_size bytes)) (sym (length-drop head_size bytes)) ∙ take-length (drop head_size bytes)
    in
    ap (points dim) all
    ∙ ap (λ (n : ℕ). points_from (n / (dim * 8)) dim (drop head_size bytes) 0) (length-drop head_size bytes)
    ∙ points_behind ((length bytes - head_size) / (dim * 8)) dim head_size bytes 0

module _ (bytes : List ℕ) (o : Opened State) (e : o ≡ open_of (settings_in bytes)) where
  abbrev known : Bool → Opened State → Ran
  known whole q = cond whole (opened_ran q (points_in bytes)) (ran 11 q.stream)

  is : known (is_whole bytes) o ≡ ran_of bytes
  unfolding ran_of
  is = ap (known (is_whole bytes)) e

  pub not_whole : is_whole bytes ≡ false → ran 11 o.stream ≡ ran_of bytes
  not_whole w = ap (λ (b : Bool). known b o) (sym w) ∙ is

  module _ (w : is_whole bytes ≡ true) where
    whole : opened_ran o (points_in bytes) ≡ ran_of bytes
    whole = ap (λ (b : Bool). known b o) (sym w) ∙ is

    abbrev asked_of : Bool → Outcome State → Ran
    asked_of b q = cond b (inserted_ran q) (ran (opening_number o.answer) o.stream)

    pub not_open : (r : OpenError) → o.answer ≡ Err r → ran (open_error_number r) o.stream ≡ ran_of bytes
    not_open r h =
        ap (λ (a : Opening). ran (opening_number a) o.stream) (sym h)
        ∙ ap (λ (b : Bool). asked_of b (insert_all o.stream (points_in bytes))) (sym (ap is_open h ∙ open_ok (Err r)))
        ∙ whole

    pub inserted :
        o.answer ≡ Ok tt → (dim : ℕ) → dim ≡ word_at bytes 0 → (q : Outcome State) → q ≡ insert_all o.stream (points dim (behind bytes)) →
        inserted_ran q ≡ ran_of bytes
    inserted h dim d q i =
        let p : points dim (behind bytes) ≡ points_in bytes = rw d (points_are bytes) in
        ap₂ asked_of (sym (ap is_open h)) (i ∙ ap (insert_all o.stream) p) ∙ whole
