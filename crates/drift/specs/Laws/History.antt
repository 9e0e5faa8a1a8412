-- What holds of the monitor, from the list of its observations.
use Rattle.std.specs.Prelude.{◌≡◌, ℕ, ◌+◌, ◌%◌, ◌^◌, ◌<◌, ◌≤◌, Bool, true, false, cond, List, [], ◌∷◌, ◌++◌, length, refl, Float, None, Some}
use Rattle.std.proofs.Common.{ap, sym, ◌∙◌, subst, arith, mod-eq_of_lt}
use Rattle.float.specs.Rounded.{◌⊘◌}
use Rattle.sqrt.specs.Root.{sqrt_of}
use Rattle.adwin.specs.Settings.{limit}
use Rattle.adwin.specs.Window as window
use Rattle.adwin.specs.Window.{Window}
use Rattle.adwin.specs.History.{run_of, Told}
use Rattle.adwin.specs.Laws.Cases.{Takes, update_takes}
use Rattle.adwin.proofs.Laws.History.{told_from_history}
use Rattle.drift.specs.Monitor.{Monitor, new_of, observe_of, heard, delta, LastAlarm, Nearest}
use Rattle.drift.specs.History.{Heard, Seen, watch_of, given, values_seen, answer_to, rings_in, last_of}

-- ---- one observation
answer_takes : (w : Window) (radius : Float) (n : Nearest) → w.taken ≤ limit → Takes w (answer_to w radius n)
answer_takes w radius None h = record { more = omega arith; within = h }
answer_takes w radius (Some d2) h = update_takes w (sqrt_of d2 ⊘ radius) h

observed : (m : Monitor) (n : Nearest) (t : Float) → observe_of m n t ≡ heard m (answer_to m.window m.radius n) t
observed m None t = refl
observed m (Some d2) t = refl

run_given : (w : Window) (radius : Float) (n : Nearest) (xs : List Float) → run_of (answer_to w radius n).window xs ≡ run_of w (given radius n ++ xs)
unfolding run_of
run_given w radius None xs = refl
run_given w radius (Some d2) xs = refl

one_more : (b : Bool) (t : Float) (l : List Float) → length (cond b (t ∷ []) [] ++ l) ≡ cond b 1 0 + length l
one_more true t l = omega arith
one_more false t l = omega arith

-- every ring takes a value, so there are no more than the limit
few_rings : (w : Window) (radius : Float) (l : List Seen) → w.taken ≤ limit → w.taken + length (rings_in w radius l) ≤ limit
unfolding rings_in
few_rings w radius [] h = omega arith
few_rings w radius (o ∷ l) h =
    let a = answer_to w radius o.nearest in
    let r = rings_in a.window radius l in
    let p = answer_takes w radius o.nearest h in
    let n : length (cond a.alarm (o.tick ∷ []) [] ++ r) ≡ cond a.alarm 1 0 + length r = one_more a.alarm o.tick r in
    let i : a.window.taken + length r ≤ limit = few_rings a.window radius l p.within in
    omega (arith, p.more)

-- ---- the monitor after l, when it was m before
pub record Watched (m : Monitor) (l : List Seen) (r : Monitor) : Type 0 where
  pub alarms : r.alarms ≡ m.alarms + length (rings_in m.window m.radius l)
  pub last_alarm : r.last_alarm ≡ last_of m.last_alarm (rings_in m.window m.radius l)
  pub window : r.window ≡ run_of m.window (values_seen m.radius l)

below_end : (k n : ℕ) (b : Bool) → k + (cond b 1 0 + n) < 2 ^ 64 → cond b ((k + 1) % 2 ^ 64) k ≡ k + cond b 1 0
below_end k n true h = mod-eq_of_lt (omega arith)
below_end k n false h = omega arith

last_more : (a : LastAlarm) (b : Bool) (t : Float) (l : List Float) → last_of (cond b (Some t) a) l ≡ last_of a (cond b (t ∷ []) [] ++ l)
last_more a true t l = refl
last_more a false t l = refl

watched : (m : Monitor) (l : List Seen) → m.alarms + length (rings_in m.window m.radius l) < 2 ^ 64 → Watched m l (watch_of m l)
unfolding watch_of rings_in values_seen run_of
watched m [] h = record { alarms = omega arith; last_alarm = refl; window = refl }
watched m (o ∷ l) h =
    let a = answer_to m.window m.radius o.nearest in
    let k = heard m a o.tick in
    let r = rings_in a.window m.radius l in
    let n : length (cond a.alarm (o.tick ∷ []) [] ++ r) ≡ cond a.alarm 1 0 + length r = one_more a.alarm o.tick r in
    let c : k.alarms ≡ m.alarms + cond a.alarm 1 0 = below_end m.alarms (length r) a.alarm (omega arith) in
    let i : Watched k l (watch_of k l) = watched k l (omega arith) in
    let e : watch_of (observe_of m o.nearest o.tick) l ≡ watch_of k l = ap (λ (j : Monitor). watch_of j l) (observed m o.nearest o.tick) in
    let q : (watch_of k l).alarms ≡ k.alarms + length r = i.alarms in
    record {
      alarms = ap (λ (j : Monitor). j.alarms) e ∙ omega arith;
      last_alarm = ap (λ (j : Monitor). j.last_alarm) e ∙ i.last_alarm ∙ last_more m.last_alarm a.alarm o.tick r;
      window = ap (λ (j : Monitor). j.window) e ∙ i.window ∙ run_given m.window m.radius o.nearest (values_seen m.radius l);
    }

-- a fresh monitor's alarms, its last alarm and its window are told from its observations
pub heard_from_history : (radius : Float) (l : List Seen) → Heard radius l (watch_of (new_of radius) l)
heard_from_history radius l =
    let f : 0 + length (rings_in (window.new_of delta) radius l) ≤ limit = few_rings (window.new_of delta) radius l (omega arith) in
    let r = watched (new_of radius) l (omega arith) in
    record {
      alarms = r.alarms ∙ omega arith;
      last_alarm = r.last_alarm;
      window = r.window;
      told = subst (Told delta (values_seen radius l)) (sym r.window) (told_from_history delta (values_seen radius l));
    }
