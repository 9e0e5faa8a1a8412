use Rattle.std.proofs.Common.{◌≡◌, ◌+◌, drop, Float, Some}
use Rattle.lists.specs.Retain.{AnswersBy}
use Rattle.model.specs.Nearest.{nearest_of}
use Rattle.readout.specs.Found.{found_of}
use Rattle.readout.proofs.Search.{found_from}
use Rattle.readout.proofs.distances.nearest_by.Given as goal

-- what the rest makes of the nearest so far is the nearest of all
abbrev pub invariant-loop-i : goal.invariant-loop-i
invariant-loop-i g l =
    (d : _ → Float) → AnswersBy g.F.Fn l.distance d → Some (found_from d l.found (l.i + 1) (drop l.i l.rest)) ≡ found_of (nearest_of d l.items)
