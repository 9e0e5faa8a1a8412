use mathlib.Core.Path.{◌≡◌}
use mathlib.Core.List.{◌++◌}
use lib.ListN.{length, take, drop}
use Rattle.lists.specs.Rest.{rest}
use Rattle.feature.specs.Distance.{sum_from, sq_dist}
use Rattle.feature.specs.Feature.{moved}
use Rattle.feature.proofs.spherical.Spherical.push.Given as goal

abbrev pub invariant-loop-i : goal.invariant-loop-i
invariant-loop-i l =
    (length l.self.mean ≡ 15) × (l.self.w ≡ l.initial.self.w) × (l.self.ssd ≡ l.initial.self.ssd)
    × (take l.i l.self.mean ++ moved l.factor (drop l.i l.self.mean) (rest l.k l.i l.x) ≡ moved l.factor l.initial.self.mean l.x)
    × (sum_from l.n (rest l.k l.i l.x) (drop l.i l.self.mean) ≡ sq_dist l.x l.initial.self.mean)
