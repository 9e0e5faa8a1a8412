-- A point's placement is document 01's: whether it has a place, its drift distance, and what becomes of the stream. Assumes nothing.
use Rattle.std.specs.Prelude.{◌+◌, ◌<◌, ◌≡◌, refl, Bool, true, false, cond, ◌||◌, List, [], ◌∷◌, ◌++◌, Float, length, set, Result, Ok, Err}
use Rattle.std.specs.Result.{is_ok}
use Rattle.std.specs.Float.Ieee.{le}
use Rattle.std.proofs.Common.{sym, ap, ap₂, ◌∙◌, subst, ltb-true}
use Rattle.std.proofs.Math.Option.{Option, none, some}
use Rattle.lists.specs.Retain.{without}
use Rattle.drift.specs.Monitor.{Nearest}
use Rattle.model.specs.declared.micro.DenMicro.{DenMicro}
use Rattle.model.specs.Limits.{micros_most}
use Rattle.model.specs.Nearest.{Near}
use Rattle.model.specs.DenState.{Holdings, pooled, State}
use Rattle.model.specs.DenInsert as doc
use Rattle.model.specs.DenInsert.{nearest_in, trial_in, is_there, distance_of, smaller_of, nearest_for, placed_by, newborn}
use Rattle.model.specs.Denstream.{has_place}
use Rattle.den_pool.specs.declared.trial.Absorbed.{Absorbed}
use Rattle.den_pool.specs.declared.trial.Trial.{Trial}
use Rattle.den_pool.specs.Tried.{tried_of}
use Rattle.den_pool.specs.Laws.Tried.{squared, taker_by, taker_of, tried_trial, tried_near, tried_low}
use Rattle.den_placement.specs.declared.choice.Target.TheVariants.{Potential, Promotion, Outlier, Newborn}
use Rattle.den_placement.specs.declared.choice.Placed.{Placed}
use Rattle.den_placement.specs.declared.choice.Placement.{Placement}
use Rattle.den_placement.specs.Placing.{alone_by, placement_by, has_room, placement_of, pooled_at, Ready}

-- the placement r of the point x in the stream s
pub record Placing (s : State) (x : List Float) (r : Placement) : Type 0 where
  pub fits : is_ok r.placed ≡ has_place s x
  pub near : r.near ≡ nearest_for s x
  pub placed : (k : Placed) → r.placed ≡ Ok k → pooled_at k.target k.micro s.held ≡ doc.placed s x
  pub ready : (k : Placed) → r.placed ≡ Ok k → Ready k.target s.held

-- the place of the one that takes the point is one of the pool
abbrev Low : Result Absorbed Absorbed → List DenMicro → Type 0
Low (Ok a) pool = a.place < length pool
Low (Err a) pool = Unit {0}

trial_low : (s : State) (x : List Float) (pool : List DenMicro) → Low (tried_of s.params s.t x pool).taken pool
trial_low s x pool = go (tried_of s.params s.t x pool).taken refl
  where
    go : (r : Result Absorbed Absorbed) → (tried_of s.params s.t x pool).taken ≡ r → Low r pool
    go (Ok a) e = tried_low s.params s.t x pool a e
    go (Err a) e = tt

module _ (s : State) (x : List Float) (from_potential from_outliers : Nearest) where
  abbrev room : Bool
  room = has_room s.held

  -- a placement, by those who take the point
  record By (a b : Option (Near DenMicro)) (r : Placement) : Type 0 where
    fits : is_ok r.placed ≡ ((is_there a || is_there b) || room)
    near : r.near ≡ cond (is_there a) from_potential (smaller_of from_potential from_outliers)
    placed : (k : Placed) → r.placed ≡ Ok k → pooled_at k.target k.micro s.held ≡ placed_by s x a b
    ready : (k : Placed) → r.placed ≡ Ok k → Ready k.target s.held

  -- what is held once an outlier took the point, by whether it is heavy enough
  abbrev by_heavy : Near DenMicro → Bool → Holdings
  by_heavy b u =
      cond u (pooled (s.held.potential ++ b.micro ∷ []) (without b.place s.held.outliers)) (pooled s.held.potential (set s.held.outliers b.place b.micro))

  -- what is placed is k, which goes where it belongs
  module _ (a b : Option (Near DenMicro)) (k : Placed) (there : ((is_there a || is_there b) || room) ≡ true)
      (held : pooled_at k.target k.micro s.held ≡ placed_by s x a b) (ready : Ready k.target s.held) where
    by_placed :
        (near : Nearest) → near ≡ cond (is_there a) from_potential (smaller_of from_potential from_outliers) →
        By a b (record { placed = Ok k; near = near })
    by_placed near e =
        record {
          fits = sym there;
          near = e;
          placed = λ j h. subst (λ (i : Placed). pooled_at i.target i.micro s.held ≡ placed_by s x a b) (let q : k ≡ j = cc in q) held;
          ready = λ j h. subst (λ (i : Placed). Ready i.target s.held) (let q : k ≡ j = cc in q) ready;
        }

  -- an outlier takes it, and moves to the potential ones or stays, by its weight
  by_weight :
      (b : Near DenMicro) → b.place < length s.held.outliers → (u : Bool) → le s.params.bm b.micro.body.cf.w ≡ u →
      By none (some b)
      (record {
        placed = Ok (record { target = cond u (Promotion b.place) (Outlier b.place); micro = b.micro });
        near = smaller_of from_potential from_outliers;
      })
  by_weight b low true e =
      by_placed none (some b) (record { target = Promotion b.place; micro = b.micro }) refl
      (ap (by_heavy b) (sym e)) low (smaller_of from_potential from_outliers) refl
  by_weight b low false e =
      by_placed none (some b) (record { target = Outlier b.place; micro = b.micro }) refl
      (ap (by_heavy b) (sym e)) low (smaller_of from_potential from_outliers) refl

  -- a new outlier, or none
  by_room :
      (u : Bool) → room ≡ u →
      By none none (record { placed = alone_by u (newborn s.params.settings.dim s.t x); near = smaller_of from_potential from_outliers })
  by_room true e =
      by_placed none none (record { target = Newborn; micro = newborn s.params.settings.dim s.t x }) e refl
      (ltb-true (length s.held.potential + length s.held.outliers) micros_most e) (smaller_of from_potential from_outliers) refl
  by_room false e = record { fits = sym e; near = refl; placed = λ k h. cc; ready = λ k h. absurd cc }

  by_takers :
      (a b : Result Absorbed Absorbed) → Low a s.held.potential → Low b s.held.outliers →
      By (taker_by from_potential a) (taker_by from_outliers b)
      (placement_by s.params s.t x room from_potential a (record { near = from_outliers; taken = b }))
  by_takers (Ok a) b h k =
      by_placed (taker_by from_potential (Ok a)) (taker_by from_outliers b) (record { target = Potential a.place; micro = a.micro })
      refl refl h from_potential refl
  by_takers (Err a) (Ok b) h k = by_weight (record { place = b.place; micro = b.micro; dist = squared from_outliers }) k (le s.params.bm b.micro.body.cf.w) refl
  by_takers (Err a) (Err b) h k = by_room room refl

pub placing_law : (s : State) (x : List Float) → Placing s x (placement_of s.params s.t s.held x)
unfolding nearest_for doc.placed
placing_law s x =
    let p : Option (Near DenMicro) = nearest_in x s.held.potential in
    let o : Option (Near DenMicro) = nearest_in x s.held.outliers in
    let a : Trial = tried_of s.params s.t x s.held.potential in
    let b : Trial = tried_of s.params s.t x s.held.outliers in
    let ea : trial_in s x s.held.potential ≡ taker_of a = tried_trial s.params s.t x p in
    let eb : trial_in s x s.held.outliers ≡ taker_of b = tried_trial s.params s.t x o in
    let q = by_takers s x a.near b.near a.taken b.taken (trial_low s x s.held.potential) (trial_low s x s.held.outliers) in
    record {
      fits = q.fits ∙ ap₂ (λ (i j : Option (Near DenMicro)). (is_there i || is_there j) || has_room s.held) (sym ea) (sym eb);
      near = q.near
          ∙ ap₂ (λ (i j : Nearest). cond (is_there (taker_of a)) i (smaller_of i j)) (tried_near s.params s.t x p) (tried_near s.params s.t x o)
          ∙ ap (λ (i : Option (Near DenMicro)). cond (is_there i) (distance_of p) (smaller_of (distance_of p) (distance_of o))) (sym ea);
      placed = λ k h. q.placed k h ∙ ap₂ (placed_by s x) (sym ea) (sym eb);
      ready = q.ready;
    }
