-- `gain_pairs` meets its contract. Assumes nothing.
use Rattle.std.proofs.Common.{ℕ, List, take, subst, sym, ap, ◌∙◌, arith}
use mathlib.Core.List.{foldl}
use Rattle.lists.specs.Laws.Rest.{cut_take}
use Rattle.model.specs.Limits.{links_most}
use Rattle.model.specs.declared.link.Link.{Link}
use Rattle.model.specs.DbInsert.{gain_of, pairs_of}
use Rattle.db_gains.specs.declared.factor.Factor.{Factor}
use Rattle.db_gains.specs.declared.walk.Walk.{Walk}
use Rattle.db_gains.specs.Factor.{factor_of}
use Rattle.db_gains.specs.Laws.Passed.{Passed}
use Rattle.db_gains.proofs.Walks.{walked_gains}
use Rattle.db_gains.proofs.pairs.gain_pairs.Goals as goal

pub gain_rows-requires : goal.gain_rows-requires
gain_rows-requires c =
    let a = c.args in
    let w = c.new-walk.ensures in
    record {
      ready = record {
        place = omega (arith, w.front);
        passed = subst (λ (m : ℕ). Passed c.new-walk.result.key (take m (take c.min-held.result a.links.now))) (sym w.front) tt;
        right = w.factor ∙ ap (factor_of a.lambda a.t) (sym (ap (λ (f : Factor). f.last) w.factor));
      };
      few = omega (arith, c.min-held.ensures);
    }

pub returns-clause-gained : goal.returns-clause-gained
returns-clause-gained c =
    let a = c.args in
    let ids = a.ids.now in
    let same = cut_take c.min-held.result a.count links_most a.links.now c.min-held.ensures c.told-links in
    ap (λ (s : Walk × List Link). s.1) c.gain_rows.ensures.walked
    ∙ walked_gains a.lambda a.t (c.new-walk.result, take c.min-held.result a.links.now) (pairs_of ids)
    ∙ ap (λ (ls : List Link). foldl (gain_of a.lambda a.t) ls (pairs_of ids)) same
