-- The loop over a window's values: what was done at i and what is left make up the whole run. Assumes nothing.
use Rattle.std.specs.Prelude.{ℕ, ◌+◌, ◌≤◌, ◌<◌, ◌≡◌, Bool, true, false, cond, List, [], ◌∷◌, Float, length, get_or}
use Rattle.std.proofs.Common.{arith, sym, ap, ap₂, ◌∙◌}
use Rattle.std.proofs.Math.Seq.{take-length}
use Rattle.lists.specs.Laws.Rest.{rest_start, rest_step, rest_end}
use Rattle.lists.specs.Rest.{rest}
use Rattle.adwin.specs.Window.{Window, update_of, width_of, mean_of, variance_of}
use Rattle.adwin.specs.History.{run_of}
use Rattle.whole_runs.specs.Window.{alarms_in, figures_of}

abbrev pub left : List Float → ℕ → List Float
left values i = rest (length values) i values

pub record Going (values : List Float) (w₀ w : Window) (alarms i : ℕ) : Type 0 where
  pub few : alarms ≤ i
  pub runs : run_of w (left values i) ≡ run_of w₀ values
  pub rang : alarms + alarms_in w (left values i) ≡ alarms_in w₀ values

pub going_start : (values : List Float) (w : Window) → Going values w w 0 0
going_start values w =
    let e : left values 0 ≡ values = rest_start (length values) values ∙ take-length values in
    let a : alarms_in w (left values 0) ≡ alarms_in w values = ap (alarms_in w) e in
    record { few = omega arith; runs = ap (run_of w) e; rang = omega arith }

pub one_at_most : (b : Bool) → cond b 1 0 ≤ 1
one_at_most true = omega arith
one_at_most false = omega arith

-- one update more, whose answer and window are those of the definition
pub going_on :
    (values : List Float) (w₀ w next : Window) (alarms i ring : ℕ) (d : Float) →
    Going values w₀ w alarms i →
    i < length values →
    next ≡ (update_of w (get_or values i d)).window →
    ring ≡ cond (update_of w (get_or values i d)).alarm 1 0 →
    Going values w₀ next (alarms + ring) (i + 1)
unfolding run_of alarms_in
going_on values w₀ w next alarms i ring d g h en er =
    let b : length values ≤ length values = omega arith in
    let p : left values i ≡ get_or values i d ∷ left values (i + 1) = rest_step (length values) i values d h b in
    let k : ring ≤ 1 = rw er (one_at_most (update_of w (get_or values i d)).alarm) in
    let s : ℕ → Window → ℕ = λ n v. n + alarms_in v (left values (i + 1)) in
    let a : alarms_in w (left values i) ≡ ring + alarms_in next (left values (i + 1)) = ap (alarms_in w) p ∙ ap₂ s (sym er) (sym en) in
    record {
      few = omega (arith, g.few);
      runs = ap (λ (v : Window). run_of v (left values (i + 1))) en ∙ sym (ap (run_of w) p) ∙ g.runs;
      rang = omega (arith, g.rang);
    }

pub going_end :
    (values : List Float) (w₀ w : Window) (alarms i : ℕ) → Going values w₀ w alarms i → length values ≤ i →
    (alarms ≡ alarms_in w₀ values) × (w ≡ run_of w₀ values)
unfolding run_of alarms_in
going_end values w₀ w alarms i g h =
    let e : left values i ≡ [] = rest_end (length values) i values h in
    let z : alarms_in w (left values i) ≡ 0 = ap (alarms_in w) e in
    (omega (arith, g.rang), sym (ap (run_of w) e) ∙ g.runs)

-- what is read out of the window that is left
pub run_figures :
    (values : List Float) (w₀ w : Window) (alarms width : ℕ) (mean variance : Float) → (alarms ≡ alarms_in w₀ values) × (w ≡ run_of w₀ values) →
    width ≡ width_of w.sums → mean ≡ mean_of w.sums → variance ≡ variance_of w.sums →
    record { alarms = alarms; taken = w.taken; width = width; mean = mean; variance = variance } ≡ figures_of (alarms_in w₀ values) (run_of w₀ values)
run_figures values w₀ w alarms width mean variance e ew em ev = rw (ew, em, ev, e.0, ← e.1)
