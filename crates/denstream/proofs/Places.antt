-- A point at its place: places that lie in the arrays, and what the stream is before its tick. Assumes nothing.
use Prim.Native.Nat.{ℕ, ◌+◌, ◌≤◌, ◌<◌}
use mathlib.Core.Path.{◌≡◌, sym, ap, ◌∙◌, subst}
use mathlib.Core.List.{List, ◌++◌}
use native.Mathlib.Omega.{arith}
use lib.ListN.{length, take, set, length-take, length-append}
use lib.Seq.{length-take-le, take-append-le}
use Rattle.lists.specs.Retain.{without}
use Rattle.model.specs.declared.micro.DenMicro.{DenMicro}
use Rattle.model.specs.Limits.{micros_most}
use Rattle.model.specs.Stream.{taking}
use Rattle.den_pool.specs.Held.{micro_in}
use Rattle.den_placement.specs.declared.choice.Target.{Target}
use Rattle.den_placement.specs.declared.choice.Target.TheVariants.{Potential, Promotion, Outlier, Newborn}
use Rattle.den_placement.specs.declared.choice.Placed.{Placed}
use Rattle.den_placement.specs.Pools.{potential_held, outliers_held}
use Rattle.den_placement.specs.Placing.{Ready, pooled_at}
use Rattle.den_placement.specs.Laws.Pools as laws
use Rattle.denstream.specs.declared.stream.DenStream.{DenStream}
use Rattle.denstream.specs.View.{view, dim_of, held_in}
use Rattle.denstream.specs.Inside.Placed.{placed_by}

-- ---- an array of which the first places were written: its first k elements
module _ {A : Type 0} (k : ℕ) (front rest : List A) (h : k ≤ length front) where
  pub front_is : (kept : List A) → take k front ≡ kept → take k (front ++ rest) ≡ kept
  front_is kept e = take-append-le k front rest h ∙ e

  pub front_length : k ≡ length (take k (front ++ rest))
  front_length = sym (length-take-le k (front ++ rest) (omega (arith, length-append front rest)))

-- the pools hold np and no micro-clusters, and are ready for the target
pub record Counted (s : DenStream) (k : Placed) (np no : ℕ) : Type 0 where
  pub potential_size : length s.potential ≡ micros_most
  pub outliers_size : length s.outliers ≡ micros_most
  pub np_is : np ≡ potential_held s.potential_count
  pub no_is : no ≡ outliers_held s.potential_count s.outlier_count
  pub ready : Ready k.target (view s).held

-- s over other pools and without labels; and over its own
abbrev pub over : DenStream → (potential : List DenMicro) → ℕ → (outliers : List DenMicro) → ℕ → DenStream
over s a n b k =
    record {
      params = s.params;
      t = s.t;
      potential = a;
      potential_count = n;
      outliers = b;
      outlier_count = k;
      labels = s.labels;
      label_count = 0;
      drift = s.drift;
    }

abbrev pub cleared : DenStream → DenStream
cleared s = over s s.potential s.potential_count s.outliers s.outlier_count

module _ {s : DenStream} {k : Placed} {np no : ℕ} (c : Counted s k np no) where
  potential_length : length (view s).held.potential ≡ np
  unfolding held_in
  potential_length = laws.potential_length (dim_of s) s.potential s.potential_count s.outliers s.outlier_count c.potential_size c.outliers_size ∙ sym c.np_is

  outliers_length : length (view s).held.outliers ≡ no
  unfolding held_in
  outliers_length = laws.outliers_length (dim_of s) s.potential s.potential_count s.outliers s.outlier_count c.potential_size c.outliers_size ∙ sym c.no_is

  ready_for : (u : Target) → k.target ≡ u → Ready u (view s).held
  ready_for u e = subst (λ (v : Target). Ready v (view s).held) e c.ready

  pub potential_low : (place : ℕ) → k.target ≡ Potential place → place < micros_most
  potential_low place e =
      let q : place < length (view s).held.potential = ready_for (Potential place) e in
      omega (arith, q, potential_length, c.np_is)

  pub outlier_low : (place : ℕ) → k.target ≡ Outlier place → place < micros_most
  outlier_low place e =
      let q : place < length (view s).held.outliers = ready_for (Outlier place) e in
      omega (arith, q, outliers_length, c.no_is)

  pub promotion_low : (place : ℕ) → k.target ≡ Promotion place → np < micros_most
  promotion_low place e =
      let q : place < length (view s).held.outliers = ready_for (Promotion place) e in
      omega (arith, q, outliers_length, c.no_is, c.np_is)

  pub newborn_low : k.target ≡ Newborn → np + no < micros_most
  newborn_low e =
      let q : length (view s).held.potential + length (view s).held.outliers < micros_most = ready_for Newborn e in
      omega (arith, q, potential_length, outliers_length)

  -- what a target makes of the pools, of the one that the micro-cluster goes to
  at_target : (u : Target) → k.target ≡ u → pooled_at u (micro_in (dim_of s) k.micro) (view s).held ≡ pooled_at k.target (micro_in (dim_of s) k.micro) (view s).held
  at_target u e = ap (λ (v : Target). pooled_at v (micro_in (dim_of s) k.micro) (view s).held) (sym e)

  pub to_potential :
      (place : ℕ) → k.target ≡ Potential place →
      view (over s (set s.potential place k.micro) s.potential_count s.outliers s.outlier_count) ≡ placed_by s k
  unfolding held_in
  to_potential place e =
      ap (taking (view s))
      (laws.potential_absorbs (dim_of s) s.potential s.potential_count s.outliers s.outlier_count place k.micro ∙ at_target (Potential place) e)

  pub to_outlier :
      (place : ℕ) → k.target ≡ Outlier place →
      view (over s s.potential s.potential_count (set s.outliers place k.micro) s.outlier_count) ≡ placed_by s k
  unfolding held_in
  to_outlier place e =
      ap (taking (view s))
      (laws.outlier_absorbs (dim_of s) s.potential s.potential_count s.outliers s.outlier_count place k.micro ∙ at_target (Outlier place) e)

  pub to_promotion :
      (place : ℕ) → k.target ≡ Promotion place → (front rest : List DenMicro) (count : ℕ) →
      take count front ≡ without place (take no s.outliers) →
      count ≡ length (take count front) →
      view (over s (set s.potential np k.micro) (np + 1) (front ++ rest) count) ≡ placed_by s k
  unfolding held_in
  to_promotion place e front rest count el cl =
      let low : count ≤ length front = omega (arith, cl, length-take count front) in
      ap (λ (n : ℕ). view (over s (set s.potential n k.micro) (n + 1) (front ++ rest) count)) c.np_is
      ∙ ap (taking (view s))
      (laws.promotes (dim_of s) s.potential s.potential_count s.outliers s.outlier_count c.potential_size c.outliers_size
      place k.micro (ready_for (Promotion place) e) (front ++ rest) count
      (front_is count front rest low _ el ∙ ap (λ (n : ℕ). without place (take n s.outliers)) c.no_is) (front_length count front rest low)
      ∙ at_target (Promotion place) e)

  pub to_newborn :
      k.target ≡ Newborn →
      view (over s s.potential s.potential_count (set s.outliers no k.micro) (no + 1)) ≡ placed_by s k
  unfolding held_in
  to_newborn e =
      ap (λ (n : ℕ). view (over s s.potential s.potential_count (set s.outliers n k.micro) (n + 1))) c.no_is
      ∙ ap (taking (view s))
      (laws.comes (dim_of s) s.potential s.potential_count s.outliers s.outlier_count c.potential_size c.outliers_size
      k.micro (ready_for Newborn e) ∙ at_target Newborn e)
