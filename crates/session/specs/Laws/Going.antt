-- The loop over the inserts, of any stream: what is done and what is left make up the whole run. Assumes nothing.
use Prim.Native.Nat.{ℕ, zero, suc, ◌+◌, ◌≤◌, ◌<◌, min}
use native.Mathlib.Omega.{arith}
use Rattle.std.proofs.Common.{add-one, ◌∙◌, drop_of_length-le, take-append-drop, take-suc-set}
use Rattle.std.specs.Prelude.{◌≡◌, refl, Float, set}
use Rattle.std.proofs.Math.Path.{sym, ap, ap₂}
use mathlib.Core.List.{List, [], ◌∷◌, ◌++◌, map, append-nil}
use Rattle.std.proofs.Math.Nat.{zero-min, suc-min-suc}
use Rattle.std.proofs.Math.ListN.{length, take, drop, get_or, length-set}
use Rattle.std.proofs.Math.Seq.{append_snoc, drop-set-lt, take-length}
use Rattle.lists.specs.Laws.Rest.{rest_start, rest_step, rest_end, take_min}
use Rattle.lists.specs.Rest.{rest}
use Rattle.model.specs.Answers.{insertion_number}
use Rattle.model.specs.Outcome.{Outcome}
use Rattle.model.specs.Run.{run_of, answers_of}
use Rattle.session.specs.Points.{points_of}

-- the points that are left at insert i, in the values behind those that were taken
abbrev pub left : List ℕ → (i : ℕ) → List Float → List (List Float)
left lengths i behind = points_of (rest (length lengths) i lengths) behind

drop_min : {A : Type 0} (k : ℕ) (l : List A) → drop (min k (length l)) l ≡ drop k l
drop_min k [] = drop_of_length-le [] {i = min k 0} (omega arith) ∙ sym (drop_of_length-le [] {i = k} (omega arith))
drop_min zero (x ∷ xs) = rw zero-min
drop_min (suc k) (x ∷ xs) = rw suc-min-suc (drop_min k xs)

-- a number written at place i, before what is still to be written
one_more : (numbers : List ℕ) (i v : ℕ) (later : List ℕ) → i < length numbers → take (i + 1) (set numbers i v) ++ later ≡ take i numbers ++ v ∷ later
one_more numbers i v later h = rw (add-one, take-suc-set numbers i v) (append_snoc (take i numbers) v later)

module _ {S : Type 0} (insert : S → List Float → Outcome S) (lengths : List ℕ) (values : List Float) where
  -- the stream s and the numbers written, at insert i, against the stream and the numbers at the start
  pub record Going (s₀ s : S) (numbers₀ numbers : List ℕ) (i : ℕ) (behind : List Float) : Type 0 where
    pub few : i ≤ length lengths
    pub runs : run_of insert s (left lengths i behind) ≡ run_of insert s₀ (points_of lengths values)
    pub told :
        take i numbers ++ map insertion_number (answers_of insert s (left lengths i behind))
        ≡ map insertion_number (answers_of insert s₀ (points_of lengths values))
    pub beyond : drop (length lengths) numbers ≡ drop (length lengths) numbers₀
    pub places : length numbers ≡ length numbers₀

  -- what is left opens with the next point, cut where its length says or the values run out
  next_point :
      (i n : ℕ) (behind : List Float) →
      i < length lengths →
      n ≡ min (get_or lengths i 0) (length behind) →
      left lengths i behind ≡ take n behind ∷ left lengths (i + 1) (drop n behind)
  unfolding points_of
  next_point i n behind h e =
      let t : take n behind ≡ take (get_or lengths i 0) behind =
      ap (λ (k : ℕ). take k behind) e ∙ take_min (get_or lengths i 0) (length behind) behind refl
      in
      let d : drop n behind ≡ drop (get_or lengths i 0) behind = ap (λ (k : ℕ). drop k behind) e ∙ drop_min (get_or lengths i 0) behind in
      let b : length lengths ≤ length lengths = omega arith in
      ap (λ (r : List ℕ). points_of r behind) (rest_step (length lengths) i lengths 0 h b)
      ∙ ap₂ (λ (x v : List Float). x ∷ points_of (rest (length lengths) (i + 1) lengths) v) (sym t) (sym d)

  pub going_start : (s : S) (numbers : List ℕ) → Going s s numbers numbers 0 values
  unfolding points_of
  going_start s numbers =
      let e : left lengths 0 values ≡ points_of lengths values =
      ap (λ (l : List ℕ). points_of l values) (rest_start (length lengths) lengths ∙ take-length lengths)
      in
      record {
        few = omega arith;
        runs = ap (run_of insert s) e;
        told = ap (λ (l : List (List Float)). map insertion_number (answers_of insert s l)) e;
        beyond = refl;
        places = refl;
      }

  -- one insert more: its point is cut off in front
  going_step :
      (s₀ s : S) (numbers₀ numbers : List ℕ) (i n : ℕ) (behind : List Float) →
      Going s₀ s numbers₀ numbers i behind →
      i < length lengths →
      i < length numbers →
      n ≡ min (get_or lengths i 0) (length behind) →
      let r = insert s (take n behind) in Going s₀ r.stream numbers₀ (set numbers i (insertion_number r.answer)) (i + 1) (drop n behind)
  unfolding run_of answers_of
  going_step s₀ s numbers₀ numbers i n behind g h k e =
      let p = next_point i n behind h e in
      let b : i < length lengths = h in
      record {
        few = omega arith;
        runs = sym (ap (run_of insert s) p) ∙ g.runs;
        told = one_more numbers i _ _ k ∙ sym (ap (λ (l : List (List Float)). take i numbers ++ map insertion_number (answers_of insert s l)) p) ∙ g.told;
        beyond = drop-set-lt (length lengths) numbers i _ h ∙ g.beyond;
        places = length-set numbers i _ ∙ g.places;
      }

  -- the same, of the parts of a split, an outcome that is the insert's, and its number
  pub going_on :
      (s₀ s : S) (next : Outcome S) (numbers₀ numbers : List ℕ) (i n v : ℕ) (behind point later : List Float) →
      Going s₀ s numbers₀ numbers i behind →
      i < length lengths →
      length lengths ≤ length numbers₀ →
      n ≡ min (get_or lengths i 0) (length behind) →
      point ≡ take n behind →
      later ≡ drop n behind →
      next ≡ insert s point →
      v ≡ insertion_number next.answer →
      Going s₀ next.stream numbers₀ (set numbers i v) (i + 1) later
  going_on s₀ s next numbers₀ numbers i n v behind point later g h k e front back is number =
      rw (number, is, front, back) (going_step s₀ s numbers₀ numbers i n behind g h (omega (arith, g.places)) e)

  pub going_end :
      (s₀ s : S) (numbers₀ numbers : List ℕ) (i : ℕ) (behind : List Float) → Going s₀ s numbers₀ numbers i behind → length lengths ≤ i →
      (s ≡ run_of insert s₀ (points_of lengths values))
      × (numbers ≡ map insertion_number (answers_of insert s₀ (points_of lengths values)) ++ drop (length lengths) numbers₀)
  unfolding run_of answers_of points_of
  going_end s₀ s numbers₀ numbers i behind g h =
      let n : i ≡ length lengths = omega (arith, g.few) in
      let e : left lengths i behind ≡ [] = ap (λ (r : List ℕ). points_of r behind) (rest_end (length lengths) i lengths h) in
      let a : take i numbers ≡ map insertion_number (answers_of insert s₀ (points_of lengths values)) =
      sym (append-nil (take i numbers))
      ∙ sym (ap (λ (l : List (List Float)). take i numbers ++ map insertion_number (answers_of insert s l)) e)
      ∙ g.told
      in (
        sym (ap (run_of insert s) e) ∙ g.runs,
        sym (take-append-drop i numbers) ∙ ap₂ (λ (x y : List ℕ). x ++ y) a (ap (λ (k : ℕ). drop k numbers) n ∙ g.beyond),
      )
