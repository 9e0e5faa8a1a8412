-- `gain_row` meets its contract. Assumes nothing.
use Rattle.std.proofs.Common.{◌≡◌, ◌+◌, ◌∷◌, List, map, take, drop, get_or, sym, ap, ap₂, ◌∙◌, add-one, drop-cons, arith}
use Rattle.std.proofs.lemmas.List.{drop_all}
use Rattle.lists.specs.Laws.Rest.{drop_on}
use Rattle.model.specs.declared.link.Link.{Link}
use Rattle.model.specs.declared.micro.MicroId.{MicroId}
use Rattle.model.specs.DbInsert.{gain_in, has_room, pair_of}
use Rattle.db_gains.specs.declared.walk.Walk.{Walk}
use Rattle.db_gains.specs.Walk.{pair_walked, pairs_walked, walk_after}
use Rattle.db_gains.proofs.walk.Walk.gain_row.Goals as goal

pub loop-b-preserved : goal.loop-b-preserved
loop-b-preserved c =
    let a = c.args in
    let i = c.loop-b.b-index in
    let xs = a.others.now in
    let b : MicroId = get_or xs i (record { 0 = 0 }) in
    let walk : Walk = c.loop-b.self in
    let old : List Link = take c.loop-b.count c.loop-b.links in
    let first : drop i xs ≡ b ∷ drop (i + 1) xs = drop-cons xs i (record { 0 = 0 }) c.loop-b-test.true ∙ ap (λ m. b ∷ drop m xs) (sym (add-one i)) in
    let now = c.gain-count.ensures in
    let one : (c.gain-count.new.self, take c.gain-count.result c.gain-count.new.links) ≡ pair_walked a.lambda a.t (walk, old) (pair_of a.a b) =
    ap₂ (λ (w : Walk) (ls : List Link). (w, ls)) now.walk now.gained
    ∙ ap (λ (k : Link). (walk_after a.lambda a.t k old walk, gain_in a.lambda a.t (has_room old) k old)) c.key_of.ensures in
    record {
      ready = now.ready;
      more = omega (arith, now.more, c.loop-b.invariant.more);
      few = now.few;
      rest = now.rest ∙ drop_on c.loop-b.count c.gain-count.result c.loop-b.links a.links.now now.more c.loop-b.invariant.rest;
      left = ap (λ (s : Walk × List Link). pairs_walked a.lambda a.t s (map (pair_of a.a) (drop (i + 1) xs))) one
          ∙ ap (λ (r : List MicroId). pairs_walked a.lambda a.t (walk, old) (map (pair_of a.a) r)) (sym first) ∙ c.loop-b.invariant.left;
    }

pub returns-clause-walked : goal.returns-clause-walked
returns-clause-walked c =
    let a = c.args in
    let now : Walk × List Link = (c.loop-b.self, take c.loop-b.count c.loop-b.links) in
    sym (ap (λ (r : List MicroId). pairs_walked a.lambda a.t now (map (pair_of a.a) r)) (drop_all c.loop-b.b-index a.others.now c.loop-b-test.false))
    ∙ c.loop-b.invariant.left
