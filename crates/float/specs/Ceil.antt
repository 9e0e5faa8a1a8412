-- Document 01: "Ceil is exact": the least whole number that is not below x. Definition only.
use Rattle.std.specs.Prelude.{◌+◌, ◌*◌, ◌%◌, cond, ◌==◌, Float}
use Rattle.std.specs.Float.{nan, inf, fin}
use Rattle.std.specs.Float.Ieee.{up, down, neg}
use Rattle.float.specs.Rounded.{whole}
use Rattle.float.specs.Cut.{wholes}

-- a whole number stays; else towards zero below it, and one more above
unfoldable pub ceil_of : Float → Float
ceil_of nan = nan
ceil_of (inf s) = inf s
ceil_of (fin s m e) =
    cond (m * up e % down e == 0) (fin s m e)
    (cond s (neg (whole (wholes (fin s m e)))) (whole (wholes (fin s m e) + 1)))
