-- What is kept of each micro-cluster and link, through every insert of a DBSTREAM.
use Prim.Native.Nat.{ℕ, ◌+◌, ◌<◌}
use mathlib.Core.Path.{◌≡◌, refl, sym, ap, ap₂, subst}
use mathlib.Core.Logic.{◌⊎◌, inl, inr, ⊎_elim}
use mathlib.Core.Bool.{Bool, true, false, ◌&&◌, cond, true≢false}
use mathlib.Core.List.{List, [], ◌∷◌, ◌++◌, map, foldl}
use native.Mathlib.Omega.{arith}
use lib.Dec.{eqb}
use lib.Ieee.{Float}
use borrow.Author.Tests.{lt-ltb, eqb-true}
use Rattle.lists.specs.Each.{Each}
use Rattle.lists.specs.Laws.Each.{each_more, each_append}
use Rattle.float.specs.Rounded.{◌⊕◌, nought, one}
use Rattle.model.specs.declared.micro.MicroId.{MicroId}
use Rattle.model.specs.declared.micro.DbMicro.{DbMicro}
use Rattle.model.specs.declared.link.Link.{Link}
use Rattle.model.specs.Run.{accepted_in}
use Rattle.model.specs.DbState.{Settings, Params, Holdings, State}
use Rattle.model.specs.DbInsert.{id_of, is_neighbour, newborn, absorbs, absorbed, pair_of, pairs_of, gains, absent, before, same_ends, gain_in, has_room, gain_of}
use Rattle.model.specs.DbInsert.{micro_stays, link_stays, neighbours_of, born, joined, placed, nearest_for, cleanup}
use Rattle.model.specs.Dbstream.{dbstream, taken_of, has_place}
use Rattle.model.specs.Stream.{taking}
use Rattle.model.proofs.Laws.Stream.{tick_cases}
use Rattle.claims.specs.Lists.{In, Ascending}
use Rattle.claims.specs.Clock.{Counts}
use Rattle.claims.specs.Weighed.{Weighed, KeptBody}
use Rattle.claims.specs.DbClaims.{Older, Figures, after, told}
use Rattle.claims.proofs.Places.{each_in}
use Rattle.claims.proofs.Order.{each_retain, each_map, ascending_map, ascending_append}
use Rattle.claims.proofs.Runs.{always}
use Rattle.claims.proofs.Weights.{later, regains, above_0, zero_most, zero_least}
use Rattle.claims.proofs.Bodies.{body_later, body_absorbing, body_birth}
use Rattle.claims.proofs.DbCases.{placed_cases}
use Rattle.claims.proofs.DbGains.{Smaller, pairs_each}
use Rattle.claims.proofs.DbFresh.{Numbered, neighbours_ascend, numbered_taken, numbered_fresh}

-- ---- the pairs of an insert are all different: they ascend
abbrev PairBefore : MicroId × MicroId → MicroId × MicroId → Type 0
PairBefore p q = (p.0.0 < q.0.0) ⊎ ((p.0.0 ≡ q.0.0) × (p.1.0 < q.1.0))

smaller_first : (a : MicroId) (bs : List MicroId) → Each (Smaller a) bs → map (λ (b : MicroId). (a, b)) bs ≡ map (pair_of a) bs
smaller_first a [] e = refl
smaller_first a (b ∷ bs) e =
    ap₂ ◌∷◌ (sym (ap (λ (t : Bool). cond {A = MicroId × MicroId} t (a, b) (b, a)) (lt-ltb a.0 b.0 e.0))) (smaller_first a bs e.1)

pairs_ascend : (ids : List MicroId) → Ascending Smaller ids → Ascending PairBefore (pairs_of ids)
unfolding pairs_of
pairs_ascend [] u = tt
pairs_ascend (a ∷ bs) u =
    let above : Each (λ (q : MicroId × MicroId). Smaller a q.0) (pairs_of bs) =
    pairs_each (λ c d. Smaller a c) bs u.1 (λ c d i j l. each_in (Smaller a) bs c u.0 i) in
    subst (λ (ps : List (MicroId × MicroId)). Ascending PairBefore (ps ++ pairs_of bs)) (smaller_first a bs u.0)
    (ascending_append PairBefore (map (λ (b : MicroId). (a, b)) bs) (pairs_of bs)
    (ascending_map Smaller PairBefore (λ (b : MicroId). (a, b)) (λ (b c : MicroId) (h : Smaller b c). inr (refl, h)) bs u.1)
    (pairs_ascend bs u.1)
    (each_map (Smaller a) (λ (p : MicroId × MicroId). Each (PairBefore p) (pairs_of bs)) (λ (b : MicroId). (a, b))
    (λ (b : MicroId) (h : Smaller a b). each_more (λ (q : MicroId × MicroId) (g : Smaller a q.0). inl g) (pairs_of bs) above)
    bs u.0))

-- ---- links: each gains once in an insert
and_both : (a b : Bool) → (a && b) ≡ true → (a ≡ true) × (b ≡ true)
and_both true true e = (refl, refl)
and_both true false e = absurd (true≢false (sym e))
and_both false b e = absurd (true≢false (sym e))

module _ (lambda t : Float) where
  gain_figure :
      (P Q : Link → Type 0) (room : Bool) (k : Link) →
      ((l : Link) → P l → Q l) →
      ((l : Link) → same_ends l k ≡ true → P l → Q (gains lambda t l)) →
      Q (gains lambda t k) →
      (ls : List Link) →
      Each P ls →
      Each Q (gain_in lambda t room k ls)
  unfolding gain_in
  gain_figure P Q true k stays gain new [] e = (new, tt)
  gain_figure P Q false k stays gain new [] e = tt
  gain_figure P Q room k stays gain new (l ∷ ls) e = go (before l k) (same_ends l k) room refl (gain_figure P Q room k stays gain new ls e.1)
    where
      go :
          (a b c : Bool) →
          same_ends l k ≡ b →
          Each Q (gain_in lambda t room k ls) →
          Each Q (cond a (l ∷ gain_in lambda t room k ls) (cond b (gains lambda t l ∷ ls) (cond c (gains lambda t k ∷ l ∷ ls) (l ∷ ls))))
      go true b c q ih = (stays l e.0, ih)
      go false true c q ih = (gain l q e.0, each_more stays ls e.1)
      go false false true q ih = (new, (stays l e.0, each_more stays ls e.1))
      go false false false q ih = (stays l e.0, each_more stays ls e.1)

  module _ (n : ℕ) (clock : Counts n t) where
    -- weighed, and not yet gained where a gain is still to come
    abbrev Gaining : List (MicroId × MicroId) → Link → Type 0
    Gaining ps l = Weighed (n + 1) l.value l.last × (In (l.lo, l.hi) ps → Weighed n l.value l.last)

    gain_one :
        (p : MicroId × MicroId) (ps : List (MicroId × MicroId)) →
        Each (PairBefore p) ps →
        (ls : List Link) →
        Each (Gaining (p ∷ ps)) ls →
        Each (Gaining ps) (gain_of lambda t ls p)
    gain_one p ps u ls g =
        gain_figure (Gaining (p ∷ ps)) (Gaining ps) (has_room ls) k (λ (l : Link) (w : Gaining (p ∷ ps) l). (w.0, (λ i. w.1 (inr i)))) again
        (regains n nought t lambda t clock zero_least (zero_most n clock.limit), (λ i. absurd (once p.0 p.1 refl refl i))) ls g
      where
        k : Link
        k = absent p.0 p.1 t

        once : (a b : MicroId) → a.0 ≡ p.0.0 → b.0 ≡ p.1.0 → In (a, b) ps → ⊥
        once a b x y i = ⊎_elim (λ (l : p.0.0 < a.0). omega arith) (λ l. let z : p.1.0 < b.0 = l.1 in omega arith) (each_in (PairBefore p) ps (a, b) u i)

        again : (l : Link) → same_ends l k ≡ true → Gaining (p ∷ ps) l → Gaining ps (gains lambda t l)
        again l s w =
            let b = and_both (eqb l.lo.0 p.0.0) (eqb l.hi.0 p.1.0) s in
            let x : l.lo.0 ≡ p.0.0 = eqb-true l.lo.0 p.0.0 b.0 in
            let y : l.hi.0 ≡ p.1.0 = eqb-true l.hi.0 p.1.0 b.1 in
            let z : ◌≡◌ {A = MicroId × MicroId} (l.lo, l.hi) p = ap₂ {C = MicroId × MicroId} (λ (a b : ℕ). (record { 0 = a }, record { 0 = b })) x y in
            let v : Weighed n l.value l.last = w.1 (inl z) in
            (regains n l.value l.last lambda t clock (above_0 l.value v.least) v.most, (λ i. absurd (once l.lo l.hi x y i)))

    gain_all :
        (ps : List (MicroId × MicroId)) →
        Ascending PairBefore ps →
        (ls : List Link) →
        Each (Gaining ps) ls →
        Each (Gaining []) (foldl (gain_of lambda t) ls ps)
    gain_all [] u ls g = g
    gain_all (p ∷ ps) u ls g = gain_all ps u.1 (gain_of lambda t ls p) (gain_one p ps u.0 ls g)

-- what is kept of the micro-clusters and links of dim coordinates
record Kept (n dim : ℕ) (h : Holdings) : Type 0 where
  micros : Each (λ (m : DbMicro). KeptBody n dim m.body) h.micros
  densities : Each (λ (l : Link). Weighed n l.value l.last) h.links

-- ---- a point taken
figures_joined :
    (n : ℕ) (s : State) (x : List Float) →
    Counts n s.t →
    Ascending Older s.held.micros →
    Kept n s.params.settings.dim s.held →
    Kept (n + 1) s.params.settings.dim (joined s x)
figures_joined n s x f asc g =
    record {
      micros = each_map (λ (m : DbMicro). KeptBody n s.params.settings.dim m.body)
          (λ (m : DbMicro). KeptBody (n + 1) s.params.settings.dim m.body) (absorbed s.params.settings.r s.params.settings.lambda s.t x)
          (λ (m : DbMicro) k. either m k (is_neighbour s.params.settings.r x m)) s.held.micros g.micros;
      densities = each_more (λ (l : Link) w. w.0) (joined s x).links
          (gain_all s.params.settings.lambda s.t n f (pairs_of (map id_of (neighbours_of s x)))
          (pairs_ascend (map id_of (neighbours_of s x)) (neighbours_ascend s x asc)) s.held.links
          (each_more (λ (l : Link) (w : Weighed n l.value l.last). (later n l.value l.last f.limit w, (λ i. w))) s.held.links
          g.densities));
    }
  where
    either :
        (m : DbMicro) →
        KeptBody n s.params.settings.dim m.body →
        (b : Bool) →
        KeptBody (n + 1) s.params.settings.dim (cond b (absorbs s.params.settings.lambda s.t x m) m).body
    either m k true = body_absorbing n s.params.settings.dim s.t x f s.params.settings.lambda m.body k
    either m k false = body_later n s.params.settings.dim m.body f.limit k

figures_born :
    (n : ℕ) (s : State) (x : List Float) →
    Counts n s.t →
    Ascending Older s.held.micros →
    Kept n s.params.settings.dim s.held →
    Kept (n + 1) s.params.settings.dim (born s x)
figures_born n s x f asc g =
    record {
      micros = each_append (λ (m : DbMicro). KeptBody (n + 1) s.params.settings.dim m.body) s.held.micros (new ∷ [])
          (each_more (λ (m : DbMicro) k. body_later n s.params.settings.dim m.body f.limit k) s.held.micros g.micros)
          (body_birth n s.params.settings.dim s.t x f, tt);
      densities = each_more (λ (l : Link) w. later n l.value l.last f.limit w) s.held.links g.densities;
    }
  where
    new : DbMicro
    new = newborn s.params.settings.dim (record { 0 = s.held.next }) s.t x

figures_cleanup : (n dim : ℕ) (p : Params) (t : Float) (h : Holdings) → Kept n dim h → Kept n dim (cleanup p t h)
figures_cleanup n dim p t h g =
    record {
      micros = each_retain (λ (m : DbMicro). KeptBody n dim m.body) (micro_stays p.settings.lambda p.floor t) h.micros g.micros;
      densities = each_retain (λ (l : Link). Weighed n l.value l.last) (link_stays p.settings.lambda p.floor t (cleanup p t h).micros) h.links
          g.densities;
    }

-- ---- the whole run
record Both (n : ℕ) (s : State) : Type 0 where
  numbered : Numbered n s.held
  kept : Kept n s.params.settings.dim s.held

both_taken : (n : ℕ) (s : State) (x : List Float) → Counts n s.t → has_place s x ≡ true → Both n s → Both (n + 1) (taken_of s x)
both_taken n s x c e b =
    record {
      numbered = numbered_taken n s x c.limit b.numbered;
      kept = tick_cases dbstream (taking s (placed s x)) (nearest_for s x) (λ (u : State). Kept (n + 1) u.params.settings.dim u.held)
          (figures_cleanup (n + 1) s.params.settings.dim s.params (s.t ⊕ one) (placed s x) k) k;
    }
  where
    k : Kept (n + 1) s.params.settings.dim (placed s x)
    k =
        placed_cases (Kept (n + 1) s.params.settings.dim) s x (λ q. figures_joined n s x c b.numbered.ascending b.kept)
        (λ q. figures_born n s x c b.numbered.ascending b.kept)

pub figures : (p : Settings) (xs : List (List Float)) → Figures (accepted_in (told p xs)) (after p xs)
figures p xs =
    let k : Kept (accepted_in (told p xs)) (after p xs).params.settings.dim (after p xs).held =
    (always dbstream has_place Both both_taken p (record { numbered = numbered_fresh p; kept = record { micros = tt; densities = tt } }) xs).kept in
    record { micros = k.micros; densities = k.densities }
