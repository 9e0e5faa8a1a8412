-- `seek` meets its contract. Assumes nothing.
use Rattle.std.proofs.Common.{ℕ, ap, ◌∙◌, arith}
use Rattle.db_gains.specs.declared.walk.Walk.{Walk}
use Rattle.db_gains.specs.Walk.{advanced, resumed_at, steps_to}
use Rattle.db_gains.proofs.Walks.{front_after, resumed_passed, walk}
use Rattle.db_gains.proofs.walk.Walk.seek.Goals as goal

pub advance-requires : goal.advance-requires
advance-requires c =
    let a = c.args in
    let begins = resumed_passed a.key a.links.now a.self.now c.requires.place c.requires.passed in
    omega (arith, begins.0, ap (λ (w : Walk). w.at) c.resume.ensures)

pub returns : goal.returns
returns c =
    let a = c.args in
    let ls = a.links.now in
    let old = a.self.now in
    let begins = resumed_passed a.key ls old c.requires.place c.requires.passed in
    c.advance.ensures ∙ ap (advanced ls) c.resume.ensures
    ∙ ap (λ (n : ℕ). walk a.key n (steps_to old a.key ls) old.factor) (front_after a.key (resumed_at old a.key) ls begins.0 begins.1)
