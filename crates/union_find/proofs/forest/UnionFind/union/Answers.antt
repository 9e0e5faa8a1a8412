-- `union` meets its contract: two finds and a link. Assumes nothing.
use mathlib.Core.Path.{◌≡◌, sym, ap, ◌∙◌, subst}
use native.Mathlib.Omega.{arith}
use Rattle.union_find.specs.declared.forest.UnionFind.{UnionFind}
use Rattle.union_find.specs.Forest.{link_of, union_of}
use Rattle.union_find.specs.Inside.WellFormed.{Sound}
use Rattle.union_find.specs.Inside.Told.{forest_by}
use Rattle.union_find.specs.Laws.Union.{union_law}
use Rattle.union_find.proofs.Finding.{found_low, found_few, unioned, union_work}
use Rattle.union_find.proofs.forest.UnionFind.union.Goals.{After-link}
use Rattle.union_find.proofs.forest.UnionFind.union.Goals as goal

pub link-requires : goal.link-requires
link-requires c =
    let f = c.find-x in
    let g = c.find-y in
    let low = found_low c.args.self.now f.ensures.sound c.args.a c.requires.both.0 f.result f.new.self f.ensures.found in
    record {
      low = c.self.invariant.cap f.result.root low;
      both = (low, found_low f.new.self g.ensures.sound c.args.b c.requires.both.1 g.result g.new.self g.ensures.found);
    }

pub overflow_add-result : goal.overflow_add-result
overflow_add-result c =
    let f = c.find-x in
    let g = c.find-y in
    omega (
      arith,
      found_few c.args.self.now f.ensures.sound c.args.a c.requires.both.0 f.result f.new.self f.ensures.found,
      found_few f.new.self g.ensures.sound c.args.b c.requires.both.1 g.result g.new.self g.ensures.found,
    )

-- the fields that the link left
linked : (c : goal.After-link) → forest_by c.link.new.parent c.link.new.rank ≡ union_of c.args.self.now c.args.a c.args.b
linked c =
    let f = c.find-x in
    let g = c.find-y in
    unioned c.args.self.now c.args.a c.args.b f.result g.result f.new.self g.new.self f.ensures.found f.ensures.ranks g.ensures.found g.ensures.ranks _
    (c.link.ensures ∙ ap (λ (u : UnionFind). link_of u f.result.root g.result.root) c.self.view_is)

pub invariant_of-self : goal.invariant_of-self
invariant_of-self c =
    let u = c.args.self.now in
    subst Sound (sym (linked (goal.at.invariant_of-self c).After-link)) (union_law u c.find-x.ensures.sound c.args.a c.args.b c.requires.both.0 c.requires.both.1).sound

pub returns : goal.returns
returns c =
    let f = c.find-x in
    let g = c.find-y in
    record {
      after = linked (goal.at.returns c).After-link;
      work = union_work c.args.self.now c.args.a c.args.b f.result g.result f.new.self g.new.self f.ensures.found f.ensures.ranks g.ensures.found g.ensures.ranks;
    }
