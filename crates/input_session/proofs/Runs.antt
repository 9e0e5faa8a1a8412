-- Points taken one by one from their bytes. Assumes nothing.
use Rattle.std.specs.Prelude.{◌≡◌, ℕ, zero, suc, ◌+◌, ◌*◌, ◌/◌, ◌≤◌, ◌<◌, Bool, cond, List, ◌∷◌, ◌++◌, Float, length, drop, refl, Ok, Err}
use Rattle.std.proofs.Common.{arith, sym, ap, ap₂, ◌∙◌, drop_at, get_or-drop, length-append, add-one}
use Rattle.std.proofs.Math.ListN.{get_or-append}
use Rattle.std.proofs.Math.Nat.{add-div_right, div-eq_of_lt}
use Rattle.std.specs.Float.{binary64}
use Rattle.std.specs.Float.Ieee.{of_bits}
use Rattle.words.specs.Word.{little_endian}
use Rattle.model.specs.declared.answers.InsertError.{InsertError}
use Rattle.model.proofs.Laws.Numbers.{error_refuses}
use Rattle.model.specs.Answers.{is_done, Insertion}
use Rattle.model.specs.Outcome.{Outcome}
use Rattle.model.specs.DbState.{State}
use Rattle.model.specs.Dbstream.{insert_of}
use Rattle.input_session.specs.Input.{doubles_from, points_from}
use Rattle.input_session.specs.Session.{insert_all}

-- ---- bytes before others, and behind them
word_before : (n : ℕ) (x rest : List ℕ) (at : ℕ) → at + n ≤ length x → little_endian n (x ++ rest) at ≡ little_endian n x at
unfolding little_endian
word_before zero x rest at h = refl
word_before (suc n) x rest at h =
    ap₂ (λ (b w : ℕ). b + 256 * w) (get_or-append x rest 0 at (omega arith)) (word_before n x rest (at + 1) (omega arith))

word_behind : (n m : ℕ) (bytes : List ℕ) (at : ℕ) → little_endian n (drop m bytes) at ≡ little_endian n bytes (m + at)
unfolding little_endian
word_behind zero m bytes at = refl
word_behind (suc n) m bytes at =
    let e : m + (at + 1) ≡ m + at + 1 = omega arith in
    ap₂ (λ (b w : ℕ). b + 256 * w) (get_or-drop m bytes at 0) (word_behind n m bytes (at + 1) ∙ ap (little_endian n bytes) e)

doubles_before : (n : ℕ) (x rest : List ℕ) (at : ℕ) → at + n * 8 ≤ length x → doubles_from n (x ++ rest) at ≡ doubles_from n x at
unfolding doubles_from
doubles_before zero x rest at h = refl
doubles_before (suc n) x rest at h =
    ap₂ (λ (d : Float) (ds : List Float). d ∷ ds) (ap (of_bits binary64) (word_before 8 x rest at (omega arith)))
    (doubles_before n x rest (at + 8) (omega arith))

doubles_behind : (n m : ℕ) (bytes : List ℕ) (at : ℕ) → doubles_from n (drop m bytes) at ≡ doubles_from n bytes (m + at)
unfolding doubles_from
doubles_behind zero m bytes at = refl
doubles_behind (suc n) m bytes at =
    let e : m + (at + 8) ≡ m + at + 8 = omega arith in
    ap₂ (λ (d : Float) (ds : List Float). d ∷ ds) (ap (of_bits binary64) (word_behind 8 m bytes at))
    (doubles_behind n m bytes (at + 8) ∙ ap (doubles_from n bytes) e)

pub points_behind : (k dim m : ℕ) (bytes : List ℕ) (at : ℕ) → points_from k dim (drop m bytes) at ≡ points_from k dim bytes (m + at)
unfolding points_from
points_behind zero dim m bytes at = refl
points_behind (suc k) dim m bytes at =
    let e : m + (at + dim * 8) ≡ m + at + dim * 8 = omega arith in
    ap₂ (λ (x : List Float) (xs : List (List Float)). x ∷ xs) (doubles_behind dim m bytes at)
    (points_behind k dim m bytes (at + dim * 8) ∙ ap (points_from k dim bytes) e)

-- the bytes of a point, then those of the others
next_point :
    (k dim : ℕ) (x rest : List ℕ) → length x ≡ dim * 8 → points_from (suc k) dim (x ++ rest) 0 ≡ doubles_from dim x 0 ∷ points_from k dim rest 0
unfolding points_from
next_point k dim x rest h =
    let e : dim * 8 + 0 ≡ 0 + dim * 8 = omega arith in
    ap₂ (λ (y : List Float) (xs : List (List Float)). y ∷ xs) (doubles_before dim x rest 0 (omega (arith, h)))
    (ap (points_from k dim (x ++ rest)) (sym e) ∙ sym (points_behind k dim (dim * 8) (x ++ rest) 0)
    ∙ ap (λ (b : List ℕ). points_from k dim b 0) (drop_at x rest (dim * 8) h))

abbrev pub points : (dim : ℕ) → List ℕ → List (List Float)
points dim bytes = points_from (length bytes / (dim * 8)) dim bytes 0

pub none_left : (dim : ℕ) (bytes : List ℕ) (s : State) → length bytes < dim * 8 → insert_all s (points dim bytes) ≡ record { answer = Ok tt; stream = s }
unfolding insert_all points_from
none_left dim bytes s h = ap (λ (k : ℕ). insert_all s (points_from k dim bytes 0)) (div-eq_of_lt h)

-- the next point gives o
module _
    (dim : ℕ) (some : 1 ≤ dim) (bytes x rest : List ℕ) (parts : bytes ≡ x ++ rest) (whole : length x ≡ dim * 8) (s : State) (y : List Float)
    (is : y ≡ doubles_from dim x 0) (o : Outcome State) (e : o ≡ insert_of s y)
  where
    opens : points dim bytes ≡ y ∷ points dim rest
    opens =
        let n : length (x ++ rest) ≡ length rest + dim * 8 = length-append x rest ∙ omega (arith, whole) in
        ap (points dim) parts
        ∙ ap (λ (k : ℕ). points_from k dim (x ++ rest) 0) (ap (λ (m : ℕ). m / (dim * 8)) n ∙ add-div_right (length rest) {k = dim * 8} (omega arith)
        ∙ add-one (length rest / (dim * 8)))
        ∙ next_point (length rest / (dim * 8)) dim x rest whole
        ∙ ap (λ (p : List Float). p ∷ points dim rest) (sym is)

    told : insert_all s (points dim bytes) ≡ cond (is_done o.answer) (insert_all o.stream (points dim rest)) o
    unfolding insert_all
    told =
        ap (insert_all s) opens ∙ ap (λ (q : Outcome State). cond (is_done q.answer) (insert_all q.stream (points dim rest)) q) (sym e)

    pub goes_on : o.answer ≡ Ok tt → insert_all o.stream (points dim rest) ≡ insert_all s (points dim bytes)
    goes_on z = sym (told ∙ ap (λ (a : Insertion). cond (is_done a) (insert_all o.stream (points dim rest)) o) z)

    pub stops : (r : InsertError) → o.answer ≡ Err r → o ≡ insert_all s (points dim bytes)
    stops r z = sym (told ∙ ap (λ (b : Bool). cond b (insert_all o.stream (points dim rest)) o) (ap is_done z ∙ error_refuses r))
