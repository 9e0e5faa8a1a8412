-- Document 01, `Adwin::new`: "NaN stays and never alarms", for every list of values. Assumes nothing.
use Rattle.std.specs.Prelude.{◌≡◌, Bool, true, false, cond, not, ◌||◌, List, [], ◌∷◌, refl, Float}
use Rattle.std.proofs.Common.{ap, ◌∙◌}
use Rattle.std.specs.Float.{nan, inf, fin, binary64}
use Rattle.std.specs.Float.Ieee.{of_bits, lt, le}
use Rattle.float.specs.Rounded.{◌⊕◌, ◌⊖◌, ◌⊗◌, nought, two}
use Rattle.float.specs.Ln.{ln_of}
use Rattle.float.specs.Laws.Opened.{add_nan, mul_nan, div_nan}
use Rattle.adwin_buckets.specs.declared.bucket.Bucket.{Bucket}
use Rattle.adwin_buckets.specs.declared.cut.CutTest.{CutTest}
use Rattle.adwin_buckets.specs.Cut.{cut_fails, some_fails, bound_of, aOf}
use Rattle.adwin.specs.Settings.{side}
use Rattle.adwin.specs.Buckets.{Classed}
use Rattle.adwin.specs.Cut.{Sums, gOf, test_of, must_drop, Searched, all_kept, buckets_of, search_of}
use Rattle.adwin.specs.Window.{Window, Outcome, grown, shrunk, is_empty, update_of, clamped, new_of}
use Rattle.adwin.specs.History.{run_of}
use Rattle.adwin.specs.Laws.Cases.{update_cases}

-- ---- a NaN goes through every operation, and ln
not_above_nan : (x : Float) → lt nan x ≡ false
unfolding lt
not_above_nan nan = refl
not_above_nan (inf s) = refl
not_above_nan (fin s m e) = refl

ln_nan : ln_of nan ≡ nan
unfolding ln_of le of_bits
ln_nan = refl

g_nan : (width : Float) → gOf nan width ≡ nan
g_nan width = ap ln_of (div_nan binary64 _) ∙ ln_nan

-- ---- so no cut fails
sum_nan : (x y : Float) → x ⊕ y ⊗ nan ≡ nan
sum_nan x y = ap (λ (z : Float). x ⊕ z) (mul_nan binary64 y) ∙ add_nan binary64 x

bound_nan : (a v : Float) → bound_of a v nan ≡ nan
bound_nan a v = sum_nan _ _

no_cut : (c : CutTest) → c.g ≡ nan → (n0 t0 : Float) → cut_fails c n0 t0 ≡ false
unfolding cut_fails
no_cut c e n0 t0 = go (lt n0 c.side || lt (c.width ⊖ n0) c.side) (aOf c.side n0 (c.width ⊖ n0)) _
  where
    go : (b : Bool) (a y : Float) → cond b false (lt (bound_of a c.v c.g) y) ≡ false
    go true a y = refl
    go false a y = ap (λ (g : Float). lt (bound_of a c.v g) y) e ∙ ap (λ (z : Float). lt z y) (bound_nan a c.v) ∙ not_above_nan y

none_fails : (c : CutTest) → c.g ≡ nan → (n0 t0 : Float) (l : List Bucket) → some_fails c n0 t0 l ≡ false
unfolding some_fails
none_fails c e n0 t0 [] = refl
none_fails c e n0 t0 (b ∷ newer) =
    ap (λ (t : Bool). cond t true (some_fails c (n0 ⊕ b.size) (t0 ⊕ b.total) newer)) (no_cut c e (n0 ⊕ b.size) (t0 ⊕ b.total))
    ∙ none_fails c e (n0 ⊕ b.size) (t0 ⊕ b.total) newer

nothing_due : (s : Sums) (l : List Bucket) → must_drop nan s l ≡ false
unfolding must_drop
nothing_due s l = go (le (two ⊗ side) s.width)
  where
    go : (b : Bool) → cond b (some_fails (test_of s (gOf nan s.width)) nought nought l) false ≡ false
    go true = none_fails (test_of s (gOf nan s.width)) (g_nan s.width) nought nought l
    go false = refl

nothing_dropped : (s : Sums) (held : List Classed) → search_of nan s held ≡ all_kept s held
unfolding search_of
nothing_dropped s [] = refl
nothing_dropped s (b ∷ newer) = rw (nothing_due s (buckets_of (b ∷ newer)))

-- ---- an update, and a list of them
record Silent (o : Outcome) : Type 0 where
  alarm : o.alarm ≡ false
  delta : o.window.delta ≡ nan

no_drop : (d : Float) (s : Sums) (held : List Classed) → d ≡ nan → not (is_empty (search_of d s held).dropped) ≡ false
no_drop d s held h =
    ap (λ (q : Float). not (is_empty (search_of q s held).dropped)) h ∙ ap (λ (q : Searched). not (is_empty q.dropped)) (nothing_dropped s held)

silent : (w : Window) (x : Float) → w.delta ≡ nan → Silent (update_of w x)
unfolding grown shrunk
silent w x h =
    update_cases w x (λ (o : Outcome) (l : List Classed). Silent o) (λ e. record { alarm = refl; delta = h }) (λ e r. record { alarm = refl; delta = h })
    (λ e r i. record { alarm = refl; delta = h })
    (λ e r i. record {
      alarm = no_drop w.delta (grown w x).sums (grown w x).held h;
      delta = h;
    })

stays : (w : Window) (xs : List Float) → w.delta ≡ nan → (run_of w xs).delta ≡ nan
unfolding run_of
stays w [] h = h
stays w (x ∷ xs) h = stays (update_of w x).window xs (silent w x h).delta

kept : clamped nan ≡ nan
unfolding lt of_bits
kept = refl

-- after any list of values the next one does not ring
pub nan_never_rings : (xs : List Float) (x : Float) → (update_of (run_of (new_of nan) xs) x).alarm ≡ false
nan_never_rings xs x = (silent (run_of (new_of nan) xs) x (stays (new_of nan) xs kept)).alarm
