-- `without` meets its contract. Assumes nothing.
use mathlib.Core.Path.{sym, ap, ◌∙◌}
use native.Mathlib.Omega.{arith}
use lib.ListN.{take}
use Rattle.std.proofs.lemmas.List.{take_all, drop_all}
use Rattle.den_pool.proofs.Removal.{without_past, without_rotated, behind_rotated}
use Rattle.den_pool.proofs.pool.without.Goals as goal

pub returns-then-pool-place-clause-result_value : goal.returns-then-pool-place-clause-result_value
returns-then-pool-place-clause-result_value c = take_all _ c.args.pool.now (omega arith) ∙ without_past _ _ c.if-pool-place.true

pub returns-clause-result_value : goal.returns-clause-result_value
returns-clause-result_value c = without_rotated c.args.place _ c.args.pool.now _ c.if-pool-place.false (omega arith) c.rotate_left.ensures.after

pub returns-then-pool-place-clause-behind : goal.returns-then-pool-place-clause-behind
returns-then-pool-place-clause-behind c =
    drop_all _ c.args.pool.now (omega arith) ∙ sym (ap (take 1) (drop_all c.args.place c.args.pool.now c.if-pool-place.true))

pub returns-clause-behind : goal.returns-clause-behind
returns-clause-behind c = behind_rotated c.args.place _ c.args.pool.now _ c.if-pool-place.false (omega arith) c.rotate_left.ensures.after
