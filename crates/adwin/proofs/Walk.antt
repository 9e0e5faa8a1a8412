-- The walk of `push_bucket` over the arrays, from the newest bucket to the oldest. Assumes nothing.
use Rattle.std.proofs.Common.{◌≡◌, ℕ, ◌+◌, ◌<◌, ◌≤◌, [], length, get_or, set, sym, refl, ap, ◌∙◌, arith, length-take-le}
use Rattle.adwin_buckets.specs.declared.bucket.Bucket.{Bucket}
use Rattle.adwin.specs.declared.Adwin.{Adwin}
use Rattle.adwin.specs.Settings.{cap, places}
use Rattle.adwin.specs.Buckets.{push_of}
use Rattle.adwin.specs.Window.{Window}
use Rattle.adwin.specs.View.{classed, held_of, view}
use Rattle.adwin.specs.Inside.Lists.{pair_merged, with_held}
use Rattle.adwin.proofs.Classes.{classed_length}
use Rattle.adwin.proofs.Carries.{nothing, settled, settled_first, settled_other, settled_next, settled_pair, class_at, pair_inside, pushed_is}

-- The window a has its newest bucket at n. In s the walk has reached i, with k newer buckets in its class.
pub record Carrying (a : Adwin) (n : ℕ) (s : Adwin) (i k : ℕ) : Type 0 where
  pub within : i < s.count
  pub room : s.count ≤ places
  pub few : k < cap
  pub inside : i < length (held_of s)
  pub figures : with_held (view s) [] ≡ with_held (view a) []
  pub left : settled k i (held_of s) ≡ settled 0 n (held_of a)

module _ (a : Adwin) (n : ℕ) (s : Adwin) (i k : ℕ) (w : Carrying a n s i k) where
  held_class : (j : ℕ) → j ≤ i → (get_or (held_of s) j nothing).class ≡ get_or s.classes j 0
  held_class j h = class_at s.count j s.classes s.buckets (omega (arith, w.inside))

  -- the walk ends where it reaches the oldest bucket
  pub at_oldest : i ≡ 0 → settled k i (held_of s) ≡ held_of s
  at_oldest e = settled_first k i (held_of s) e (omega (arith, w.inside))

  module _ (j : ℕ) (e : i ≡ j + 1) where
    held_next : (get_or (held_of s) i nothing).class ≡ get_or s.classes (j + 1) 0
    held_next = held_class i (omega arith) ∙ ap (λ (m : ℕ). get_or s.classes m 0) e

    -- .. and where the next older one is of another class
    pub at_other : (get_or s.classes j 0 ≡ get_or s.classes (j + 1) 0 → ⊥) → settled k i (held_of s) ≡ held_of s
    at_other d = settled_other k i j (held_of s) e w.inside (λ u. d (sym (held_class j (omega arith)) ∙ u ∙ held_next))

    module _ (f : get_or s.classes j 0 ≡ get_or s.classes (j + 1) 0) where
      alike_classes : (get_or (held_of s) j nothing).class ≡ (get_or (held_of s) i nothing).class
      alike_classes = held_class j (omega arith) ∙ f ∙ sym held_next

      -- one more in the class
      pub walk_goes_on : k + 2 ≤ cap → Carrying a n s j (k + 1)
      walk_goes_on h = record {
        within = omega (arith, w.within);
        room = w.room;
        few = omega arith;
        inside = omega (arith, w.inside);
        figures = w.figures;
        left = sym (settled_next k i j (held_of s) e w.inside alike_classes h) ∙ w.left;
      }

      -- over the cap: in t the two at j and j + 1 are one of the next class
      pub walk_merges :
          cap < k + 2 →
          (t : Adwin) →
          t.count + 1 ≡ s.count →
          view t ≡ with_held (view s) (pair_merged j (held_of s)) →
          Carrying a n t j 0
      walk_merges h t c v = record {
        within = omega (arith, w.within);
        room = omega (arith, w.room);
        few = omega arith;
        inside = rw (ap (λ (u : Window). length u.held) v) (pair_inside j (held_of s) (omega (arith, w.inside)));
        figures = ap (λ (u : Window). with_held u []) v ∙ w.figures;
        left =
            ap (λ (u : Window). settled 0 j u.held) v ∙ sym (settled_pair k i j (held_of s) e w.inside alike_classes h) ∙ w.left;
      }

-- a with its new bucket at n, one place past those held
abbrev pub stored : Adwin → ℕ → Bucket → Adwin
stored a n new = record {
  delta = a.delta;
  buckets = set a.buckets n new;
  classes = set a.classes n 0;
  count = n + 1;
  width = a.width;
  total = a.total;
  variance = a.variance;
  since_check = a.since_check;
  taken = a.taken;
}

-- the walk begins at the new bucket
pub walk_starts :
    (a : Adwin) (n : ℕ) → length a.buckets ≡ places → length a.classes ≡ places → n + 1 ≡ a.count → a.count ≤ places → Carrying a n a n 0
walk_starts a n b k e r =
    let c : length (classed a.classes a.buckets) ≡ places = classed_length a.classes a.buckets (k ∙ sym b) ∙ b in
    record {
      within = omega arith;
      room = r;
      few = omega arith;
      inside = omega (arith, length-take-le a.count (classed a.classes a.buckets) (omega arith));
      figures = refl;
      left = refl;
    }

-- the walk's end is the push
pub walk_ends :
    (a : Adwin) (new : Bucket) (s : Adwin) (i k : ℕ) →
    length a.buckets ≡ places →
    length a.classes ≡ places →
    a.count < places →
    Carrying (stored a a.count new) a.count s i k →
    settled k i (held_of s) ≡ held_of s →
    view s ≡ with_held (view a) (push_of (held_of a) new)
walk_ends a new s i k b c h w e =
    let p : held_of s ≡ push_of (held_of a) new =
    sym e ∙ w.left ∙ pushed_is a.count 0 a.classes a.buckets (omega arith) (c ∙ sym b) new (omega arith) in
    ap (with_held (view s)) p ∙ ap (λ (u : Window). with_held u (push_of (held_of a) new)) w.figures
