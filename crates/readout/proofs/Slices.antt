-- The read-outs into lent slices put together: every slice is asked before one is written. Assumes nothing.
use Prim.Native.Nat.{ℕ, ◌*◌, ◌≤◌, ◌<◌, min}
use mathlib.Core.Path.{◌≡◌, refl, sym, ap, ap₂, ◌∙◌}
use mathlib.Core.Bool.{Bool, true, false, ◌&&◌, cond}
use mathlib.Core.List.{List, map, map-map}
use borrow.Author.Tests.{le-leb, lt-leb}
use lib.Dec.{leb}
use lib.Ieee.{Float}
use lib.ListN.{length, take}
use Rattle.model.specs.Limits.{micros_most}
use Rattle.lists.specs.Laws.Rest.{cut_take}
use Rattle.lists.specs.Laws.Maps.{map_length}
use Rattle.feature.specs.Feature.{max_dim}
use Rattle.model.specs.declared.body.Body.{Body}
use Rattle.model.specs.Body.{faded_weight, radius_of, body_in}
use Rattle.model.specs.ReadOut.{Statistics, written, centres_of, statistics_read}
use Rattle.readout.specs.Seen.{seen}
use Rattle.readout.specs.Told.{statistics_told}
use Rattle.readout.proofs.Centres.{Wide, centres_due, due_length}
use Rattle.readout.proofs.Figures.{figures_in}
use Rattle.std.specs.Prelude.{Ok, Err}

-- the bodies of the first micro-clusters are those that are due, cut to dim coordinates
pub first_due :
    (n w dim : ℕ) {M : Type 0} (body_of : M → Body) (micros : List M) (all : List Body) →
    n ≡ min (length micros) micros_most →
    w ≡ min dim max_dim →
    length all ≡ micros_most →
    take (length micros) all ≡ map body_of (take micros_most micros) →
    seen dim body_of (take micros_most micros) ≡ map (body_in w) (take n all)
first_due n w dim body_of micros all en ew el e =
    sym
    (ap₂ (λ (d : ℕ) (l : List Body). map (body_in d) l) ew (cut_take n (length micros) micros_most all en el ∙ e)
    ∙ map-map (body_in (min dim max_dim)) body_of (take micros_most micros))

-- those that are due are these, cut to w coordinates of their 15
pub record Due (w : ℕ) (bodies due : List Body) : Type 0 where
  pub low : w ≤ max_dim
  pub wide : Wide max_dim bodies
  pub is : due ≡ map (body_in w) bodies

module _ (lambda t : Float) {w : ℕ} {bodies due : List Body} (q : Due w bodies due) where
  abbrev n : ℕ
  n = length bodies

  centres_count : length (centres_of due) ≡ n * w
  centres_count = ap (λ (l : List Body). length (centres_of l)) q.is ∙ due_length w bodies q.wide q.low

  figures_are : (f : Body → Float) → ((b : Body) → f (body_in w b) ≡ f b) → map f due ≡ map f bodies
  figures_are f same = ap (map f) q.is ∙ figures_in f w same bodies

  figures_count : (f : Body → Float) → ((b : Body) → f (body_in w b) ≡ f b) → length (map f due) ≡ n
  figures_count f same = ap length (figures_are f same) ∙ map_length f bodies

  module _ (centres weights radii : List Float) where
    abbrev all : Statistics
    all = statistics_told (Ok tt) (written (centres_of due) centres) (written (map (faded_weight lambda t) due) weights) (written (map radius_of due) radii)

    abbrev none : Statistics
    none = statistics_told (Err (record {})) centres weights radii

    abbrev read : Statistics
    read = statistics_read lambda t due centres weights radii

    read_by :
        (a b c : Bool) → leb (n * w) (length centres) ≡ a → leb n (length weights) ≡ b → leb n (length radii) ≡ c → read ≡ cond (a && b && c) all none
    read_by a b c ea eb ec =
        ap (λ (t : Bool). cond t all none)
        (ap₂ (λ (s t : Bool). s && t)
        (ap₂ (λ (s t : Bool). s && t)
        (ap (λ (k : ℕ). leb k (length centres)) centres_count ∙ ea)
        (ap (λ (k : ℕ). leb k (length weights)) (figures_count (faded_weight lambda t) (λ b. refl)) ∙ eb))
        (ap (λ (k : ℕ). leb k (length radii)) (figures_count radius_of (λ b. refl)) ∙ ec))

    pub short_centres : length centres < n * w → none ≡ read
    short_centres h = sym (read_by false (leb n (length weights)) (leb n (length radii)) (lt-leb (n * w) (length centres) h) refl refl)

    module _ (hc : n * w ≤ length centres) where
      pub short_weights : length weights < n → none ≡ read
      short_weights h = sym (read_by true false (leb n (length radii)) (le-leb (n * w) (length centres) hc) (lt-leb n (length weights) h) refl)

      module _ (hw : n ≤ length weights) where
        pub short_radii : length radii < n → none ≡ read
        short_radii h =
            sym (read_by true true false (le-leb (n * w) (length centres) hc) (le-leb n (length weights) hw) (lt-leb n (length radii) h))

        pub all_written :
            n ≤ length radii →
            (c f r : List Float) →
            c ≡ written (centres_due w bodies) centres →
            f ≡ written (map (faded_weight lambda t) bodies) weights →
            r ≡ written (map radius_of bodies) radii →
            statistics_told (Ok tt) c f r ≡ read
        all_written hr c f r ec ef er =
            ap₃
            (ec ∙ ap (λ (l : List Body). written (centres_of l) centres) (sym q.is))
            (ef ∙ ap (λ (l : List Float). written l weights) (sym (figures_are (faded_weight lambda t) (λ b. refl))))
            (er ∙ ap (λ (l : List Float). written l radii) (sym (figures_are radius_of (λ b. refl))))
            ∙ sym (read_by true true true (le-leb (n * w) (length centres) hc) (le-leb n (length weights) hw) (le-leb n (length radii) hr))
          where
            ap₃ : {a b d e g h : List Float} → a ≡ b → d ≡ e → g ≡ h → statistics_told (Ok tt) a d g ≡ statistics_told (Ok tt) b e h
            ap₃ p q s = rw (p, q, s)
