-- A trial is that of document 01's definitions, and finds a place of the pool. Assumes nothing.
use Rattle.std.specs.Prelude.{ℕ, ◌≤◌, ◌<◌, ◌≡◌, refl, Bool, true, false, cond, List, Float, length, None, Some, Result, Ok, Err}
use Rattle.std.specs.Result.{is_ok}
use Rattle.std.proofs.Common.{arith, ap, ◌∙◌}
use Rattle.std.proofs.Math.Option.{Option, none, some}
use Rattle.float.specs.Rounded.{nought}
use Rattle.feature.specs.Feature.{max_dim}
use Rattle.drift.specs.Monitor.{Nearest}
use Rattle.model.specs.declared.micro.DenMicro.{DenMicro}
use Rattle.model.specs.Nearest.{Near}
use Rattle.model.specs.declared.body.Body.{Body}
use Rattle.model.specs.Body.{distance_to}
use Rattle.model.specs.DenState.{Params}
use Rattle.model.specs.DenInsert.{nearest_in, trial, distance_of, stands, absorbs, newborn}
use Rattle.model.specs.Laws.Body.{birth_in, absorbing_in}
use Rattle.readout.specs.Found.{found_of}
use Rattle.readout.specs.Laws.Nearest.{found_at}
use Rattle.den_pool.specs.declared.trial.Absorbed.{Absorbed}
use Rattle.den_pool.specs.declared.trial.Trial.{Trial}
use Rattle.den_pool.specs.Held.{micro_in}
use Rattle.den_pool.specs.Tried.{copy_by, tried_by, tried_of}

abbrev pub squared : Nearest → Float
squared None = nought
squared (Some d) = d

abbrev pub taker_by : Nearest → Result Absorbed Absorbed → Option (Near DenMicro)
taker_by near (Ok a) = some (record { place = a.place; micro = a.micro; dist = squared near })
taker_by near (Err a) = none

-- the one that takes the point, if there is one
abbrev pub taker_of : Trial → Option (Near DenMicro)
taker_of r = taker_by r.near r.taken

-- the micro-cluster that a trial tells, whether it stands or not
abbrev told_by : Result Absorbed Absorbed → Absorbed
told_by (Ok a) = a
told_by (Err a) = a

-- all that a trial tells of its nearest b: the distance, whether the copy stands, and its place and the copy, where it does not stand too
pub record Tells (p : Params) (t : Float) (x : List Float) (b : Near DenMicro) (r : Trial) : Type 0 where
  pub near : r.near ≡ Some b.dist
  pub standing : is_ok r.taken ≡ stands p.eps2 (absorbs p.settings.lambda t x b.micro)
  pub place : (told_by r.taken).place ≡ b.place
  pub micro : (told_by r.taken).micro ≡ absorbs p.settings.lambda t x b.micro

pub tried_tells : (p : Params) (t : Float) (x : List Float) (b : Near DenMicro) → Tells p t x b (tried_by p t x (some b))
tried_tells p t x b = go (stands p.eps2 (absorbs p.settings.lambda t x b.micro)) refl
  where
    go :
        (u : Bool) → u ≡ stands p.eps2 (absorbs p.settings.lambda t x b.micro) →
        Tells p t x b (record { near = Some b.dist; taken = copy_by u (record { place = b.place; micro = absorbs p.settings.lambda t x b.micro }) })
    go true e = record { near = refl; standing = e; place = refl; micro = refl }
    go false e = record { near = refl; standing = e; place = refl; micro = refl }

-- the nearest's copy, by whether it stands
abbrev copied : Params → (t : Float) → List Float → Near DenMicro → Bool → Option (Near DenMicro)
copied p t x b u = cond u (some (record { place = b.place; micro = absorbs p.settings.lambda t x b.micro; dist = b.dist })) none

-- the definition's trial is the taker
pub tried_trial : (p : Params) (t : Float) (x : List Float) (o : Option (Near DenMicro)) → trial p t x o ≡ taker_of (tried_by p t x o)
tried_trial p t x none = refl
tried_trial p t x (some b) = go (stands p.eps2 (absorbs p.settings.lambda t x b.micro))
  where
    go : (u : Bool) → copied p t x b u ≡ taker_by (Some b.dist) (copy_by u (record { place = b.place; micro = absorbs p.settings.lambda t x b.micro }))
    go true = refl
    go false = refl

pub tried_near : (p : Params) (t : Float) (x : List Float) (o : Option (Near DenMicro)) → (tried_by p t x o).near ≡ distance_of o
tried_near p t x none = refl
tried_near p t x (some b) = refl

pub tried_low :
    (p : Params) (t : Float) (x : List Float) (pool : List DenMicro) (a : Absorbed) → (tried_of p t x pool).taken ≡ Ok a → a.place < length pool
tried_low p t x pool a = go (nearest_in x pool) refl
  where
    go : (o : Option (Near DenMicro)) → nearest_in x pool ≡ o → (tried_by p t x o).taken ≡ Ok a → a.place < length pool
    go none e h = let z : ◌≡◌ {A = ℕ} 0 1 = cc in absurd (omega arith)
    go (some b) e h = by_standing (stands p.eps2 (absorbs p.settings.lambda t x b.micro)) h
      where
        low : b.place < length pool
        low = (found_at (λ (m : DenMicro). distance_to x m.body) pool b.place b.dist (ap found_of e)).low

        by_standing : (u : Bool) → copy_by u (record { place = b.place; micro = absorbs p.settings.lambda t x b.micro }) ≡ Ok a → a.place < length pool
        by_standing true k =
            let q : record { place = b.place; micro = absorbs p.settings.lambda t x b.micro } ≡ a = cc in
            let e : b.place ≡ a.place = ap (λ (r : Absorbed). r.place) q in
            omega (arith, low)
        by_standing false k = let z : ◌≡◌ {A = ℕ} 0 1 = cc in absurd (omega arith)

-- ---- cut to the coordinates of a point
pub newborn_in :
    (dim : ℕ) (t : Float) (x : List Float) (m : DenMicro) → length x ≡ dim → dim ≤ max_dim → m ≡ newborn max_dim t x → micro_in dim m ≡ newborn dim t x
newborn_in dim t x m h k e =
    ap (micro_in dim) e ∙ ap (λ (b : Body). record { body = b; t0 = t }) (birth_in dim t x h k)

pub absorbs_in :
    (dim : ℕ) (lambda t : Float) (x : List Float) (m : DenMicro) → length x ≡ dim →
    micro_in dim (absorbs lambda t x m) ≡ absorbs lambda t x (micro_in dim m)
absorbs_in dim lambda t x m h = ap (λ (b : Body). record { body = b; t0 = m.t0 }) (absorbing_in dim t x h lambda m.body)
