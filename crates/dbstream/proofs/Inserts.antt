-- An insert into the arrays, seen through the view. Assumes nothing.
use Prim.Native.Nat.{ℕ, ◌+◌, ◌%◌, ◌^◌, ◌≤◌, ◌<◌, min}
use native.Mathlib.Omega.{arith}
use native.Mathlib.Decide.{ℕ_discrete, dec_lt}
use mathlib.Core.Path.{◌≡◌, refl, sym, ap, ap₂, subst, ◌∙◌}
use mathlib.Core.Logic.{◌≢◌, by_cases}
use mathlib.Core.List.{List, [], ◌∷◌, ◌++◌, map, foldl}
use mathlib.Core.Bool.{Bool, true, false, not, cond, ◌||◌}
use borrow.Author.Tests.{eq-eqb, ne_eqb, lt-ltb, le-ltb}
use lib.Dec.{T, ltb, ltb→lt}
use lib.Ieee.{Float}
use lib.ListN.{length, take, length-take}
use Rattle.float.specs.Rounded.{◌⊗◌}
use Rattle.std.proofs.lemmas.List.{take_all}
use Rattle.lists.specs.Retain.{retain}
use Rattle.lists.specs.Laws.Rest.{cut_take}
use Rattle.lists.specs.Laws.Maps.{map_length, map_append}
use Rattle.feature.specs.Feature.{max_dim}
use Rattle.model.specs.declared.micro.MicroId.{MicroId}
use Rattle.model.specs.declared.micro.DbMicro.{DbMicro}
use Rattle.model.specs.Any.{any}
use Rattle.model.specs.Limits.{micros_most}
use Rattle.model.specs.Answers.{is_done, Insertion}
use Rattle.model.specs.Questions.{insertion_asked}
use Rattle.model.proofs.Laws.Stream.{inserted_by}
use Rattle.model.specs.DbState.{Holdings, State}
use Rattle.model.specs.DbInsert.{is_neighbour, neighbours_of, is_absorbed, newborn, absorbs, absorbed, pairs_of, gain_of, born, joined, placed}
use Rattle.model.specs.Dbstream.{dbstream, tick_of, has_place, insert_of}
use Rattle.db_neighbours.specs.declared.scan.Scan.{Scan}
use Rattle.db_micro.specs.Held.{cut_to, held}
use Rattle.db_neighbours.specs.Near.{absorb_near}
use Rattle.db_neighbours.specs.Placing.{has_place_by}
use Rattle.db_neighbours.specs.Scanned.{scan_told, scan_of}
use Rattle.db_neighbours.specs.Laws.Views.{absorb_view, newborn_view}
use Rattle.dbstream.specs.declared.stream.DbStream.{DbStream}
use Rattle.dbstream.specs.View.{view, dim_of}
use Rattle.dbstream.specs.Inside.Placed.{placed_by, told_of, holds, micros_by, gained_by, held_by}

-- a point that nobody absorbs has a place only where fewer than 64 are held
place_free : (f : Scan) (n : ℕ) → has_place_by f n ≡ true → f.count ≡ 0 → n < micros_most
place_free f n p h =
    let q : ltb n micros_most ≡ true = ap (λ (b : Bool). not b || ltb n micros_most) (sym (eq-eqb f.count 0 h)) ∙ p in
    ltb→lt n micros_most (subst T (sym q) tt)

-- ---- lists: p holds of one where one is retained; fewer than two make no pair
any_none : {A : Type 0} (p : A → Bool) (l : List A) → length (retain p l) ≡ 0 → any p l ≡ false
unfolding retain any
any_none p [] h = refl
any_none {A} p (x ∷ xs) h = go (p x) (any_none p xs) h
  where
    go : (b : Bool) → (length (retain p xs) ≡ 0 → any p xs ≡ false) → length (cond b (x ∷ retain p xs) (retain p xs)) ≡ 0 → b || any p xs ≡ false
    go true more h = absurd (omega arith)
    go false more h = more h

any_some : {A : Type 0} (p : A → Bool) (l : List A) → 0 < length (retain p l) → any p l ≡ true
unfolding retain any
any_some p [] h = absurd (omega arith)
any_some {A} p (x ∷ xs) h = go (p x) (any_some p xs) h
  where
    go : (b : Bool) → (0 < length (retain p xs) → any p xs ≡ true) → 0 < length (cond b (x ∷ retain p xs) (retain p xs)) → b || any p xs ≡ true
    go true more h = refl
    go false more h = more h

no_pair : (ids : List MicroId) → length ids ≤ 1 → pairs_of ids ≡ []
unfolding pairs_of
no_pair [] h = refl
no_pair (a ∷ []) h = refl
no_pair (a ∷ b ∷ ids) h = absurd (omega arith)

-- ---- the stream after the micro-clusters and links, before the tick
-- what is known once the micro-clusters are scanned for x
pub record Met (s : DbStream) (x : List Float) (d : ℕ) (f : Scan) : Type 0 where
  pub coordinates : d ≡ dim_of s
  pub places : length s.micros ≡ micros_most
  pub scanned : scan_told s.count f ≡ scan_of s.params.settings.r x (held d s.count s.micros)

-- the micro-clusters lent are those held
pub scanned :
    (s : DbStream) (x : List Float) (d : ℕ) (f : Scan) →
    d ≡ dim_of s →
    length s.micros ≡ micros_most →
    length f.distances ≡ micros_most →
    (lent : List DbMicro) →
    lent ≡ take s.count s.micros →
    scan_told (length lent) f ≡ scan_of s.params.settings.r x (held (min d max_dim) micros_most lent) →
    Met s x d f
scanned s x d f ed places measured lent el told =
    let size : length lent ≡ min s.count micros_most = ap (λ (l : List DbMicro). length l) el ∙ length-take s.count s.micros ∙ ap (min s.count) places in
    let dims : min d max_dim ≡ d = omega (arith, ed) in
    let all : take micros_most lent ≡ take s.count s.micros = take_all micros_most lent (omega (arith, size)) ∙ el in
    record {
      coordinates = ed;
      places = places;
      scanned =
          ap (λ (ds : List Float). record { distances = ds; nearest = f.nearest; ids = take f.count f.ids; count = f.count })
          (sym (cut_take (length lent) s.count micros_most f.distances size measured))
          ∙ told ∙ ap₂ (λ (q : ℕ) (l : List DbMicro). scan_of s.params.settings.r x (map (cut_to q) l)) dims all;
    }

-- of a point of dim coordinates
module _ {s : DbStream} {x : List Float} {d : ℕ} {f : Scan} (m : Met s x d f) (ex : length x ≡ d) where
  met : scan_told s.count f ≡ scan_of s.params.settings.r x (view s).held.micros
  met = m.scanned ∙ ap (λ (q : ℕ). scan_of s.params.settings.r x (held q s.count s.micros)) m.coordinates

  k_is : length (neighbours_of (view s) x) ≡ f.count
  k_is = sym (ap (λ (q : Scan). q.count) met)

  none : f.count ≡ 0 → is_absorbed (view s) x ≡ false
  none h = any_none (is_neighbour s.params.settings.r x) (view s).held.micros (k_is ∙ h)

  some : f.count ≢ 0 → is_absorbed (view s) x ≡ true
  some h = any_some (is_neighbour s.params.settings.r x) (view s).held.micros (omega (arith, k_is, h))

  size : length (view s).held.micros ≡ min s.count micros_most
  size = map_length (cut_to (dim_of s)) (take s.count s.micros) ∙ length-take s.count s.micros ∙ ap (min s.count) m.places

  free_is : ltb s.count micros_most ≡ ltb (length (view s).held.micros) micros_most
  free_is =
      by_cases (dec_lt s.count micros_most)
      (λ h. lt-ltb s.count micros_most h ∙ sym (lt-ltb (length (view s).held.micros) micros_most (omega (arith, size, h))))
      (λ h. le-ltb s.count micros_most (omega (arith, h)) ∙ sym (le-ltb (length (view s).held.micros) micros_most (omega (arith, size, h))))

  place_is : has_place_by f s.count ≡ has_place (view s) x
  place_is =
      ap₂ (λ (a b : Bool). a || b)
      (by_cases (ℕ_discrete f.count 0) (λ h. ap not (eq-eqb f.count 0 h) ∙ sym (none h)) (λ h. ap not (ne_eqb f.count 0 h) ∙ sym (some h))) free_is

  micros_born : f.count ≡ 0 → s.count < micros_most → micros_by s f x ≡ (view s).held.micros ++ newborn (dim_of s) s.next_id s.t x ∷ []
  micros_born z h =
      let new_is : cut_to (dim_of s) (newborn max_dim s.next_id s.t x) ≡ newborn (dim_of s) s.next_id s.t x =
      newborn_view (dim_of s) x (ex ∙ m.coordinates) (omega arith) s.t s.next_id in
      rw (eq-eqb f.count 0 z, lt-ltb s.count micros_most h)
      (map_append (cut_to (dim_of s)) (take s.count s.micros) (newborn max_dim s.next_id s.t x ∷ [])
      ∙ ap (λ (v : DbMicro). (view s).held.micros ++ v ∷ []) new_is)

  micros_absorbed : f.count ≢ 0 → micros_by s f x ≡ map (absorbed s.params.settings.r s.params.settings.lambda s.t x) (view s).held.micros
  micros_absorbed h =
      let r2 : Float = s.params.settings.r ⊗ s.params.settings.r in
      let absorbing : List Float → List DbMicro =
      λ q. map (cut_to (dim_of s)) (absorb_near r2 (absorbs s.params.settings.lambda s.t x) q (take s.count s.micros)) in
      rw (ne_eqb f.count 0 h)
      (ap absorbing (ap (λ (q : Scan). q.distances) met)
      ∙ absorb_view (dim_of s) x (ex ∙ m.coordinates) s.params.settings.r s.params.settings.lambda s.t (take s.count s.micros))

  -- no pair, no gain
  links_stay : f.count ≡ 0 → gained_by s f ≡ (view s).held.links
  links_stay h =
      let short : length (take f.count f.ids) ≤ 1 = omega (arith, length-take f.count f.ids) in
      ap (foldl (gain_of s.params.settings.lambda s.t) (view s).held.links) (no_pair (take f.count f.ids) short)

  placed_is : (f.count ≡ 0 → s.count < micros_most) → held_by s f x ≡ placed (view s) x
  placed_is free =
      by_cases (ℕ_discrete f.count 0) (λ h. alone h ∙ sym (ap way (none h))) (λ h. among h ∙ sym (ap way (some h)))
    where
      way : Bool → Holdings
      way c = cond c (joined (view s) x) (born (view s) x)

      numbered : MicroId → Holdings
      numbered q = holds q (micros_by s f x) (gained_by s f)

      alone : f.count ≡ 0 → held_by s f x ≡ born (view s) x
      alone h =
          ap numbered (rw (eq-eqb f.count 0 h, lt-ltb s.count micros_most (free h)) refl)
          ∙ ap₂ (holds (record { 0 = (s.next_id.0 + 1) % 2 ^ 64 })) (micros_born h (free h)) (links_stay h)

      among : f.count ≢ 0 → held_by s f x ≡ joined (view s) x
      among h =
          ap numbered (rw (ne_eqb f.count 0 h) refl)
          ∙ ap₂ (holds s.next_id) (micros_absorbed h)
          (ap (λ (q : Scan). foldl (gain_of s.params.settings.lambda s.t) (view s).held.links (pairs_of q.ids)) met)

-- ---- the whole insert
module _
    {s : DbStream} {x : List Float} {d : ℕ} {f : Scan} (ed : d ≡ dim_of s) (m : length x ≡ d → Met s x d f)
    (a : Insertion) (place : Bool) (ep : place ≡ has_place_by f s.count) (e : a ≡ insertion_asked d (length x) s.t place) where
  -- v is what becomes of the stream, by whether the answer is no refusal
  pub inserted :
      (b : Bool) (v : State) → b ≡ is_done a → v ≡ cond b (tick_of (placed_by s f x) (told_of s f x)) (view s) →
      record { answer = a; stream = v } ≡ insert_of (view s) x
  inserted b v eb ev =
      inserted_by dbstream (view s) x d place (held_by s f x) f.nearest a b v ed (λ h. ep ∙ place_is (m h) h)
      (λ h p. placed_is (m h) h (place_free f s.count (sym ep ∙ p))) (λ h. ap (λ (q : Scan). q.nearest) (met (m h) h)) e eb ev
