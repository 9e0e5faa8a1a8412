-- `advance` meets its contract. Assumes nothing.
use Rattle.std.proofs.Common.{◌≡◌, ℕ, ◌+◌, ap, ◌∙◌, drop, arith, length-drop}
use Rattle.std.proofs.lemmas.List.{take_rest}
use Rattle.db_gains.specs.Walk.{front, gone_past}
use Rattle.db_gains.proofs.Walks.{front_most, walk}
use Rattle.db_gains.proofs.walk.Walk.advance.Goals as goal

pub overflow_add-self : goal.overflow_add-self
overflow_add-self c =
    let w = c.args.self.now in
    let ls = c.args.links.now in
    let found : c.passed-steps.result ≡ front w.key (drop w.at ls) = c.passed-steps.ensures ∙ ap (front w.key) (take_rest ls w.at) in
    omega (arith, found, front_most w.key (drop w.at ls), length-drop w.at ls)

pub returns : goal.returns
returns c =
    let w = c.args.self.now in
    ap (λ (n : ℕ). walk w.key (w.at + n) (gone_past w n) w.factor) (c.passed-steps.ensures ∙ ap (front w.key) (take_rest c.args.links.now w.at))
