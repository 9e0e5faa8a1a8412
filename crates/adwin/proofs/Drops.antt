-- The cut search of the window, one dropped bucket after the other. Assumes nothing.
use Rattle.std.proofs.Common.{◌≡◌, ℕ, zero, suc, ◌+◌, ◌<◌, ◌≤◌, Bool, true, false, cond, ◌||◌, List, [], ◌∷◌, length, get_or, take, drop, sym, refl, ap, ◌∙◌, true≢false, arith}
use Rattle.std.specs.Prelude.{Ok}
use lib.Ieee.{Float, le}
use Rattle.adwin_buckets.specs.declared.bucket.Bucket.{Bucket}
use Rattle.adwin.specs.declared.Adwin.{Adwin}
use Rattle.adwin.specs.declared.Verdict.{Verdict}
use Rattle.adwin.specs.declared.Verdict.TheVariants.{Quiet, Alarm}
use Rattle.float.specs.Rounded.{◌⊖◌, ◌⊗◌, two}
use Rattle.adwin.specs.Settings.{places, side}
use Rattle.adwin.specs.Buckets.{Classed}
use Rattle.adwin.specs.Cut.{Sums, must_drop, variance_without, sums_without, search_of, buckets_of, also_dropped, all_kept}
use Rattle.adwin.specs.Window.{Window, Outcome, shrunk, outcome, quiet}
use Rattle.adwin.specs.View.{classed, held_of, sums_of, view, rings, outcome_with}
use Rattle.adwin.specs.Inside.Lists.{oldest_dropped, with_held, without_oldest}

-- ---- the oldest bucket, in the arrays and in the list
pub oldest_is :
    (n : ℕ) (cs : List ℕ) (bs : List Bucket) (d : Bucket) (s : Sums) →
    0 < n →
    0 < length bs →
    length cs ≡ length bs →
    sums_without s (get_or bs 0 d) ≡ without_oldest s (take n (classed cs bs))
unfolding classed
oldest_is zero cs bs d s h k e = absurd (omega arith)
oldest_is (suc n) cs [] d s h k e = absurd (omega arith)
oldest_is (suc n) [] (b ∷ bs) d s h k e = absurd (omega arith)
oldest_is (suc n) (c ∷ cs) (b ∷ bs) d s h k e = refl

-- w with the sums s
abbrev pub with_sums : Window → Sums → Window
with_sums w s = record { delta = w.delta; held = w.held; sums = s; since_check = w.since_check; taken = w.taken }

-- the oldest bucket has left the row, and its figures the sums
pub dropped_is :
    (a : Adwin) (d : Bucket) (v : Float) (t : Window) →
    length a.buckets ≡ places →
    length a.classes ≡ places →
    0 < a.count →
    v ≡ variance_without a.width a.total a.variance (get_or a.buckets 0 d) →
    let gone = get_or a.buckets 0 d in
    t ≡ with_sums (with_held (view a) (drop 1 (held_of a))) (record { width = a.width ⊖ gone.size; total = a.total ⊖ gone.total; variance = v }) →
    t ≡ oldest_dropped (view a)
dropped_is a d v t b k h e q =
    let gone = get_or a.buckets 0 d in
    let w = with_held (view a) (drop 1 (held_of a)) in
    q ∙ ap (λ (x : Float). with_sums w (record { width = a.width ⊖ gone.size; total = a.total ⊖ gone.total; variance = x })) e
    ∙ ap (with_sums w) (oldest_is a.count a.classes a.buckets d (sums_of a) h (omega (arith, b)) (k ∙ sym b))

-- ---- the search
none_drop : (d : Float) (s : Sums) → must_drop d s [] ≡ false
unfolding must_drop
none_drop d s = go (le (two ⊗ side) s.width)
  where
    go : (t : Bool) → cond t false false ≡ false
    go true = refl
    go false = refl

-- a window that must drop holds a bucket
pub some_held : (d : Float) (s : Sums) (n : ℕ) (l : List Classed) → must_drop d s (buckets_of (take n l)) ≡ true → 0 < n
some_held d s zero l h = absurd (true≢false (sym h ∙ none_drop d s))
some_held d s (suc n) l h = omega arith

-- whether the window must drop its oldest bucket
abbrev pub must_drop_in : Window → Bool
must_drop_in w = must_drop w.delta w.sums (buckets_of w.held)

module _ (d : Float) (s : Sums) (k t : ℕ) where
  abbrev win : List Classed → Window
  win l = record { delta = d; held = l; sums = s; since_check = k; taken = t }

  unrung_at : (l : List Classed) → must_drop_in (win l) ≡ false → quiet (win l) ≡ shrunk (win l)
  unfolding shrunk
  unrung_at [] h = refl
  unrung_at (b ∷ l) h =
      ap (λ (u : Bool). outcome (win (b ∷ l)) (cond u (also_dropped b (search_of d (sums_without s b.bucket) l)) (all_kept s (b ∷ l)))) (sym h)

  rung_at : (l : List Classed) → must_drop_in (win l) ≡ true → true ≡ (shrunk (win l)).alarm
  unfolding shrunk
  rung_at [] h = absurd (true≢false (sym h ∙ none_drop d s))
  rung_at (b ∷ l) h =
      ap (λ (u : Bool). (outcome (win (b ∷ l)) (cond u (also_dropped b (search_of d (sums_without s b.bucket) l)) (all_kept s (b ∷ l)))).alarm) (sym h)

  goes_on_at : (l : List Classed) → must_drop_in (win l) ≡ true → (shrunk (oldest_dropped (win l))).window ≡ (shrunk (win l)).window
  unfolding shrunk
  goes_on_at [] h = absurd (true≢false (sym h ∙ none_drop d s))
  goes_on_at (b ∷ l) h =
      ap (λ (u : Bool). (outcome (win (b ∷ l)) (cond u (also_dropped b (search_of d (sums_without s b.bucket) l)) (all_kept s (b ∷ l)))).window) (sym h)

-- a search that drops nothing, and one that drops
unrung : (w : Window) → must_drop_in w ≡ false → quiet w ≡ shrunk w
unrung w h = unrung_at w.delta w.sums w.since_check w.taken w.held h

rung : (w : Window) → must_drop_in w ≡ true → true ≡ (shrunk w).alarm
rung w h = rung_at w.delta w.sums w.since_check w.taken w.held h

goes_on : (w : Window) → must_drop_in w ≡ true → (shrunk (oldest_dropped w)).window ≡ (shrunk w).window
goes_on w h = goes_on_at w.delta w.sums w.since_check w.taken w.held h

-- what a search comes to that has reached w, with `verdict` for what it dropped
abbrev pub resumed : Verdict → Window → Outcome
resumed verdict w = record { alarm = rings (Ok verdict) || (shrunk w).alarm; refusal = 0; window = (shrunk w).window }

-- the cut search of u has reached s
pub record Searching (u : Window) (s : Adwin) (verdict : Verdict) : Type 0 where
  pub room : s.count ≤ places
  pub left : resumed verdict (view s) ≡ shrunk u

-- before the first bucket is dropped
pub search_starts : (s : Adwin) → s.count ≤ places → Searching (view s) s Quiet
unfolding shrunk
search_starts s h = record { room = h; left = refl }

or_true : (b : Bool) → true ≡ (b || true)
or_true true = refl
or_true false = refl

or_false : (b : Bool) → b ≡ (b || false)
or_false true = refl
or_false false = refl

-- one more is dropped
pub search_goes_on :
    (u : Window) (s : Adwin) (verdict : Verdict) (r : Adwin) →
    Searching u s verdict →
    must_drop_in (view s) ≡ true →
    r.count + 1 ≡ s.count →
    view r ≡ oldest_dropped (view s) →
    Searching u r Alarm
search_goes_on u s verdict r c h n e =
    let a : true ≡ (rings (Ok verdict) || (shrunk (view s)).alarm) =
    or_true (rings (Ok verdict)) ∙ ap (λ (b : Bool). rings (Ok verdict) || b) (rung (view s) h) in
    record {
      room = omega (arith, c.room);
      left =
          ap (λ (w : Window). record { alarm = true; refusal = 0; window = (shrunk w).window }) e
          ∙ ap (λ (w : Window). record { alarm = true; refusal = 0; window = w }) (goes_on (view s) h)
          ∙ ap (λ (b : Bool). record { alarm = b; refusal = 0; window = (shrunk (view s)).window }) a
          ∙ c.left;
    }

-- none must be dropped
pub search_ends :
    (u : Window) (s : Adwin) (verdict : Verdict) → Searching u s verdict → must_drop_in (view s) ≡ false → outcome_with (Ok verdict) s ≡ shrunk u
search_ends u s verdict c h =
    ap (λ (b : Bool). record { alarm = b; refusal = 0; window = view s }) (or_false (rings (Ok verdict)))
    ∙ ap (λ (o : Outcome). record { alarm = rings (Ok verdict) || o.alarm; refusal = 0; window = o.window }) (unrung (view s) h)
    ∙ c.left
