use Rattle.std.proofs.Common.{◌≡◌, ◌≤◌, Bool, take, drop, ◌++◌}
use Rattle.lists.specs.Rest.{rest}
use Rattle.lists.specs.Retain.{AnswersBy, retain}
use Rattle.lists.proofs.retain.Given as goal

-- what is kept so far, and what p keeps of the rest, is what p keeps of all; behind what is kept nothing is written
abbrev pub invariant-loop-i : goal.invariant-loop-i
invariant-loop-i g l =
    (l.kept ≤ l.i)
    × ((p : _ → Bool) → AnswersBy g.F.Fn l.keep p → take l.kept l.items ++ retain p (rest l.i-end l.i l.items) ≡ retain p l.initial.items)
    × (drop l.kept l.items ≡ drop l.kept l.initial.items)
