-- `near_ids` meets its contract. Assumes nothing.
use Rattle.std.proofs.Common.{◌≡◌, ℕ, ◌+◌, ◌<◌, Bool, true, false, List, [], ◌∷◌, ◌++◌, map, length, take, drop, set, get_or, sym, ap, ◌∙◌, add-one, append-nil, arith, length-set, take-suc-set}
use mathlib.Core.Logic.{inl, inr}
use lib.Seq.{append_snoc}
use lib.Ieee.{Float, le, nan}
use Rattle.lists.specs.Retain.{retain}
use Rattle.lists.specs.Laws.Maps.{map_length}
use Rattle.model.specs.declared.micro.DbMicro.{DbMicro}
use Rattle.model.specs.declared.micro.MicroId.{MicroId}
use Rattle.model.specs.DbInsert.{id_of}
use Rattle.db_neighbours.proofs.scan.near_ids.Goals as goal

-- ---- one turn: the micro-clusters left are m and ms, their distances v and vs
module _ (d : DbMicro → Float) (m : DbMicro) (ms l : List DbMicro) (v : Float) (vs ds : List Float) (em : l ≡ m ∷ ms) (ed : ds ≡ v ∷ vs) (e : ds ≡ map d l) where
  both : v ∷ vs ≡ map d (m ∷ ms)
  both = sym ed ∙ e ∙ ap (map d) em

  others : vs ≡ map d ms
  others = ap (λ (r : List Float). drop 1 r) both

  module _ (r2 : Float) (k : ℕ) (ids : List MicroId) where
    near : (b : Bool) → le v r2 ≡ b → le (d m) r2 ≡ b
    near b t = sym (ap (λ (r : List Float). le (get_or r 0 nan) r2) both) ∙ t

    takes : k < length ids → le v r2 ≡ true →
        take (k + 1) (set ids k m.id) ++ map id_of (retain (λ (m : DbMicro). le (d m) r2) ms) ≡ take k ids ++ map id_of (retain (λ (m : DbMicro). le (d m) r2) l)
    unfolding retain
    takes o t = rw (em, near true t, add-one k, take-suc-set ids k m.id, append_snoc (take k ids) m.id)

    skips : le v r2 ≡ false →
        take k ids ++ map id_of (retain (λ (m : DbMicro). le (d m) r2) ms) ≡ take k ids ++ map id_of (retain (λ (m : DbMicro). le (d m) r2) l)
    unfolding retain
    skips t = rw (em, near false t)

-- none is left
ends : (p : DbMicro → Bool) (out : List MicroId) (l : List DbMicro) → length l ≡ 0 → out ++ map id_of (retain p l) ≡ out
unfolding retain
ends p out [] e = append-nil out
ends p out (m ∷ ms) e = absurd (omega (arith, e))

pub bounds-ids-count : goal.bounds-ids-count
bounds-ids-count c = omega (arith, ap (λ (l : List DbMicro). length l) c.in-Some.ensures.steps.0, c.loop-m.invariant.few, c.requires)

pub offset_bounds-ids-count : goal.offset_bounds-ids-count
offset_bounds-ids-count c = omega (arith, ap (λ (l : List DbMicro). length l) c.in-Some.ensures.steps.0, c.loop-m.invariant.few, c.requires)

pub overflow_add-count : goal.overflow_add-count
overflow_add-count c = omega (arith, ap (λ (l : List DbMicro). length l) c.in-Some.ensures.steps.0, c.loop-m.invariant.few, c.requires)

pub loop-m-preserved-then-d-r2 : goal.loop-m-preserved-then-d-r2
loop-m-preserved-then-d-r2 c =
    let k = c.loop-m in
    let q = k.invariant in
    let s = c.in-Some.ensures.steps in
    let one = ap (λ (l : List DbMicro). length l) s.0 in
    record {
      few = omega (arith, one, q.few);
      places = length-set k.ids k.count _ ∙ q.places;
      measured = λ d e. others d _ _ _ _ _ _ s.0 s.1 (q.measured d e);
      whole = λ d e. takes d _ _ _ _ _ _ s.0 s.1 (q.measured d e) c.args.r2 k.count k.ids (omega (arith, one, q.few, q.places, c.requires)) c.if-d-r2.true ∙ q.whole d e;
    }

pub loop-m-preserved : goal.loop-m-preserved
loop-m-preserved c =
    let k = c.loop-m in
    let q = k.invariant in
    let s = c.in-Some.ensures.steps in
    record {
      few = omega (arith, ap (λ (l : List DbMicro). length l) s.0, q.few);
      places = q.places;
      measured = λ d e. others d _ _ _ _ _ _ s.0 s.1 (q.measured d e);
      whole = λ d e. skips d _ _ _ _ _ _ s.0 s.1 (q.measured d e) c.args.r2 k.count k.ids c.if-d-r2.false ∙ q.whole d e;
    }

pub returns-clause-few : goal.returns-clause-few
returns-clause-few c = omega (arith, c.loop-m.invariant.few)

pub returns-clause-near : goal.returns-clause-near
returns-clause-near c = λ d e.
    let k = c.loop-m in
    let none : length k.m-iterator.a.rest.now ≡ 0 = elim c.in-None.ensures.steps [
      | inl h ↦ h.1.0
      | inr h ↦ sym (map_length d k.m-iterator.a.rest.now) ∙ ap (λ (l : List Float). length l) (sym (k.invariant.measured d e)) ∙ h.1.0
    ] in
    sym (ends (λ (m : DbMicro). le (d m) c.args.r2) (take k.count k.ids) k.m-iterator.a.rest.now none) ∙ k.invariant.whole d e
