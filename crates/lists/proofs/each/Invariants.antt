use Rattle.std.proofs.Common.{◌≡◌, length, map, take}
use Rattle.lists.specs.Retain.{AnswersBy}
use Rattle.lists.proofs.each.Given as goal

-- what was written is what f says of those passed
abbrev pub invariant-loop-i : goal.invariant-loop-i
invariant-loop-i g l =
    (length l.all ≡ g.row.N)
    × ((f : _ → _) → AnswersBy g.F.Fn l.part f → take l.i l.all ≡ map f (take l.i l.items))
